-- What an object tree has at each key, and what its calls change there.
-- Cited by the contracts of the object tree.
use Rattle.std.specs.Prelude.{◌≡◌, ◌≢◌, ℕ, ◌+◌, true, Option, Some, None, IsSome}
use Rattle.super_codec.specs.declared.superblock.Superblock.{Superblock}
use Rattle.object_model.specs.Tree.{Name, AreOrdered}
use Rattle.tree_nodes.specs.declared.node.Node.{Node}
use Rattle.tree_nodes.specs.declared.node.NodeId.{NodeId}
use Rattle.tree_nodes.specs.declared.tree.ObjectTree.{ObjectTree}
use Rattle.tree_nodes.specs.Nodes.{Kept, bare, is_group, is_dataset, objects_at, child_link, link_names, find_link}
use Rattle.tree_nodes.specs.Nodes.{insert_link, remove_link}
use Rattle.tree_nodes.specs.Slots.{kept_in, IsRoomyAt}

abbrev pub superblock_of : ObjectTree → Superblock
superblock_of kept = kept.superblock

abbrev pub root_of : ObjectTree → NodeId
root_of kept = kept.root

-- how many groups, datasets and others it has
abbrev pub object_count : ObjectTree → ℕ
object_count kept = kept.objects

-- what is kept under a key, if there is a node
unfoldable pub entry_of : ObjectTree → ℕ → Option Kept
entry_of kept key = kept_in kept.nodes key

-- the id is in the tree
abbrev pub Has : ObjectTree → NodeId → Type 0
Has kept id = IsSome (entry_of kept id.key)

-- a dataset is kept there
abbrev pub HasDataset : ObjectTree → NodeId → Type 0
HasDataset kept id = (e : Kept) × (entry_of kept id.key ≡ Some e) × (is_dataset e.node ≡ true)

-- a group is kept there that has no link of this name
abbrev pub LacksLink : ObjectTree → NodeId → Name → Type 0
LacksLink kept id name = (e : Kept) × (entry_of kept id.key ≡ Some e) × (is_group e.node ≡ true)
    × (find_link e.links name ≡ None)

-- what is kept there has a link of this name, which leads to a node without links
pub record HasLooseLink (kept : ObjectTree) (id : NodeId) (name : Name) : Type 0 where
  pub group : Kept
  pub at : entry_of kept id.key ≡ Some group
  pub child : NodeId
  pub found : find_link group.links name ≡ Some child
  pub node : Node
  pub loose : entry_of kept child.key ≡ Some (bare node)

-- there is room for one more link there, and for one more node
unfoldable pub HasRoom : ObjectTree → NodeId → Type 0
HasRoom kept id = IsRoomyAt kept.nodes id.key

-- ---- what a call leaves

-- all is kept as before
pub record Same (old new : ObjectTree) : Type 0 where
  pub superblock : superblock_of new ≡ superblock_of old
  pub root : root_of new ≡ root_of old
  pub entries : (k : ℕ) → entry_of new k ≡ entry_of old k
  pub objects : object_count new ≡ object_count old

-- a new node under a free key, and a link to it at its place among the group's, whose names ascend
pub record Inserts (old new : ObjectTree) (group : ℕ) (name : Name) (key : ℕ) (node : Node) : Type 0 where
  pub superblock : superblock_of new ≡ superblock_of old
  pub root : root_of new ≡ root_of old
  pub fresh : entry_of old key ≡ None
  pub made : entry_of new key ≡ Some (bare node)
  pub linked : (e : Kept) → entry_of old group ≡ Some e → AreOrdered (link_names e.links)
      → entry_of new group ≡ Some (record { node = e.node; links = insert_link e.links (child_link name key) })
  pub others : (k : ℕ) → k ≢ group → k ≢ key → entry_of new k ≡ entry_of old k
  pub objects : object_count new ≡ object_count old + objects_at node

-- the node under the key is gone, and so is the group's link of this name
pub record Removes (old new : ObjectTree) (group : ℕ) (name : Name) (key : ℕ) : Type 0 where
  pub superblock : superblock_of new ≡ superblock_of old
  pub root : root_of new ≡ root_of old
  pub gone : entry_of new key ≡ None
  pub linked : (e : Kept) → entry_of old group ≡ Some e
      → entry_of new group ≡ Some (record { node = e.node; links = remove_link e.links name })
  pub others : (k : ℕ) → k ≢ group → k ≢ key → entry_of new k ≡ entry_of old k
  pub objects : (e : Kept) → entry_of old key ≡ Some e → object_count new + objects_at e.node ≡ object_count old

-- f is done to what the file holds at the node under the key
pub record Sets (old new : ObjectTree) (key : ℕ) (f : Node → Node) : Type 0 where
  pub superblock : superblock_of new ≡ superblock_of old
  pub root : root_of new ≡ root_of old
  pub changed : (e : Kept) → entry_of old key ≡ Some e
      → entry_of new key ≡ Some (record { node = f e.node; links = e.links })
  pub others : (k : ℕ) → k ≢ key → entry_of new k ≡ entry_of old k
  pub objects : object_count new ≡ object_count old
