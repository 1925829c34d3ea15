-- The tree that the program keeps beside the tree of places of the file: what paths lead to in both, and when a link
-- can be added to what is kept or removed from it. Cited by what finds and edits what is kept.
use Rattle.std.specs.Prelude.{◌≡◌, List, Result, Ok, Err, ok_or, if◌then◌else◌}
use Rattle.object_model.specs.declared.answer.Code.{Code}
use Rattle.object_model.specs.declared.answer.Code.TheVariants.{Absent, NotGroup}
use Rattle.object_model.specs.Tree.{Group, Name, walk, dir_of, last_of}
use Rattle.file_model.specs.Holds.{Full, FullLinks, GroupAt}
use Rattle.tree_nodes.specs.declared.node.NodeId.{NodeId}
use Rattle.tree_nodes.specs.declared.tree.ObjectTree.{ObjectTree}
use Rattle.tree_nodes.specs.Nodes.{Kept, is_group, find_link}
use Rattle.tree_nodes.specs.Entries.{entry_of, LacksLink, HasLooseLink, Same}
use Rattle.tree_nodes.specs.Shown.{Keyed, Shows, key_of, AreKept}
use Rattle.object_tree.specs.Opened.{Matches}
use Rattle.object_tree.specs.Sound.{IsSoundTree}

-- what a name of a kept node leads to
abbrev pub child_in : Kept → Name → Result NodeId Code
child_in e n = if is_group e.node then ok_or (find_link e.links n) Absent else Err NotGroup

-- the result is the key of what is found in the tree, or the same refusal
abbrev pub Finds : Result Keyed Code → Result NodeId Code → Type 0
Finds (Ok u) (Ok id) = key_of u ≡ id.key
Finds (Ok u) (Err code) = ⊥
Finds (Err code) (Ok id) = ⊥
Finds (Err code) (Err other) = code ≡ other

-- the path leads to this node
abbrev pub LeadsTo : ObjectTree → List Name → NodeId → Type 0
LeadsTo kept p id = (t : Keyed) → Shows kept t → (u : Keyed) × (walk t p ≡ Ok u) × (key_of u ≡ id.key)

-- The node is the path's parent, and the last name can be added to it.
pub record CanAdd (kept : ObjectTree) (p : List Name) (id : NodeId) : Type 0 where
  pub leads : LeadsTo kept (dir_of p) id
  pub lacks : LacksLink kept id (last_of p)

-- The node is the path's parent, and the last name can be removed from it.
pub record CanRemove (kept : ObjectTree) (p : List Name) (id : NodeId) : Type 0 where
  pub leads : LeadsTo kept (dir_of p) id
  pub loose : HasLooseLink kept id (last_of p)

-- ---- places

-- The tree that is kept is this tree of places.
pub record HasPlaces (kept : ObjectTree) (t : Full) : Type 0 where
  pub keyed : Keyed
  pub shown : Shows kept keyed
  pub same : Matches keyed t

-- From the node on, the tree that is kept is this one.
pub record IsPlaceAt (kept : ObjectTree) (id : NodeId) (t : Full) : Type 0 where
  pub keyed : Keyed
  pub key : key_of keyed ≡ id.key
  pub nodes : AreKept (entry_of kept) keyed
  pub same : Matches keyed t

-- the result is the node of what is found in the tree of places, or the same refusal
abbrev pub FindsPlace : ObjectTree → Result Full Code → Result NodeId Code → Type 0
FindsPlace kept (Ok t) (Ok id) = IsPlaceAt kept id t
FindsPlace kept (Ok t) (Err code) = ⊥
FindsPlace kept (Err code) (Ok id) = ⊥
FindsPlace kept (Err code) (Err other) = code ≡ other

-- the same is found in both trees
abbrev pub Agrees : Result Keyed Code → Result Full Code → Type 0
Agrees (Ok u) (Ok t) = Matches u t
Agrees (Ok u) (Err code) = ⊥
Agrees (Err code) (Ok t) = ⊥
Agrees (Err code) (Err other) = code ≡ other

-- The group's header, B-tree and heap stay where they are; its blocks may be others.
pub record IsSameGroup (g h : GroupAt) : Type 0 where
  pub header : g.header_at ≡ h.header_at
  pub tree : g.tree_at ≡ h.tree_at
  pub heap : g.heap_at ≡ h.heap_at

-- f leaves the group at the path's parent where it is
abbrev pub LeavesParent : (GroupAt → GroupAt) → List Name → Full → Type 0
LeavesParent f p t = (g : GroupAt) (ls : FullLinks) → walk t (dir_of p) ≡ Ok (Group g ls) → IsSameGroup (f g) g

-- What was so of a tree is so of one in which all is kept.
pub record Stays (old new : ObjectTree) : Type 0 where
  pub same : Same old new
  pub sound : IsSoundTree old → IsSoundTree new
  pub places : (t : Full) → HasPlaces old t → HasPlaces new t
  pub add : (p : List Name) (id : NodeId) → CanAdd old p id → CanAdd new p id
  pub remove : (p : List Name) (id : NodeId) → CanRemove old p id → CanRemove new p id
