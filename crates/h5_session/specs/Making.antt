-- When a group can be made behind a path, and when a link can be removed. Cited by what makes and removes them.
use Rattle.std.specs.Prelude.{◌≡◌, ◌<◌, ◌≤◌, List, Ok, length}
use Rattle.outside.specs.Space.{SpaceView}
use Rattle.object_model.specs.Tree.{Group, Name}
use Rattle.object_model.specs.declared.command.Command.TheVariants as command
use Rattle.file_model.specs.Holds.{FullLinks, GroupAt}
use Rattle.file_model.specs.Limits.{most_depth, most_objects}
use Rattle.tree_nodes.specs.Entries.{object_count}
use Rattle.tree_nodes.specs.declared.node.Node.{Node}
use Rattle.tree_nodes.specs.declared.node.Node.TheVariants as node
use Rattle.tree_nodes.specs.declared.node.NodeId.{NodeId}
use Rattle.tree_places.specs.Kept.{IsPlaceAt}
use Rattle.tree_places.specs.Places.{to_add, to_remove}
use Rattle.group_rows.specs.declared.group.GroupAt.{GroupAt as GroupPlace}
use Rattle.session_model.specs.State.{State, full_of}
use Rattle.session_model.specs.TooLarge.{IsTooLarge}
use Rattle.h5_session.specs.declared.session.Session.{Session}

-- the node of a group that stands there
abbrev pub node_at : GroupPlace → Node
node_at g = node.Group g.header_at g.tree_at g.heap_at

-- one object more at the end of the path is within the limits of a tree
pub record IsAdmitted {V : Type 0} (session : Session V) (p : List Name) : Type 0 where
  pub low : length p ≤ most_depth
  pub few : object_count session.tree < most_objects

-- The path's last name can be added to this group of the tree, and asks for nothing too large.
pub record CanMake {V : Type 0} (session : Session V) (s : State) (p : List Name) (id : NodeId) : Type 0 where
  pub parent : GroupAt
  pub below : FullLinks
  pub found : to_add (full_of s) p ≡ Ok (Group parent below)
  pub at : IsPlaceAt session.tree id (Group parent below)
  pub small : ¬ IsTooLarge (full_of s) (command.Mkgroup p)

-- The path's last name can be removed from this group of the tree.
pub record CanDrop {V : Type 0} (session : Session V) (s : State) (p : List Name) (id : NodeId) : Type 0 where
  pub parent : GroupAt
  pub below : FullLinks
  pub found : to_remove (full_of s) p ≡ Ok (Group parent below)
  pub at : IsPlaceAt session.tree id (Group parent below)
