-- The tree that an object tree shows: each node with its key.
-- Cited by the contracts of the object tree.
use Rattle.std.specs.Prelude.{◌≡◌, ◌⊎◌, ℕ, ◌+◌, true, false, List, [], ◌∷◌, Option, Some, None, if◌then◌else◌}
use Rattle.std.specs.Option.{option_map}
use Rattle.object_model.specs.Tree.{Tree, Group, Leaf, Links, Empty, Link, Name, find, IsOrdered}
use Rattle.tree_nodes.specs.declared.node.Node.{Node}
use Rattle.tree_nodes.specs.declared.node.NodeId.{NodeId}
use Rattle.tree_nodes.specs.declared.node.ChildLink.{ChildLink}
use Rattle.tree_nodes.specs.declared.tree.ObjectTree.{ObjectTree}
use Rattle.tree_nodes.specs.Nodes.{Kept, bare, is_group, objects_at, child_link}
use Rattle.tree_nodes.specs.Entries.{root_of, entry_of, object_count}

-- a node and its key
pub record Placed : Type 0 where
  pub key : ℕ
  pub node : Node

abbrev pub Keyed : Type 0
Keyed = Tree Placed Placed

abbrev pub KeyedLinks : Type 0
KeyedLinks = Links Placed Placed

abbrev pub key_of : Keyed → ℕ
key_of (Group x ls) = x.key
key_of (Leaf x) = x.key

abbrev pub node_of : Keyed → Node
node_of (Group x ls) = x.node
node_of (Leaf x) = x.node

-- a node without links
abbrev pub single : ℕ → Node → Keyed
single key n = if is_group n then Group (record { key = key; node = n }) Empty else Leaf
    (record { key = key; node = n })

-- the links, each with the key that it leads to
abbrev pub child_links : KeyedLinks → List ChildLink
child_links Empty = []
child_links (Link name t rest) = child_link name (key_of t) ∷ child_links rest

abbrev pub links_of : Keyed → List ChildLink
links_of (Group x ls) = child_links ls
links_of (Leaf x) = []

-- what is to be kept of the tree's first node
abbrev pub kept_of : Keyed → Kept
kept_of t = record { node = node_of t; links = links_of t }

-- what a name of the tree's first node leads to
abbrev pub child_id : Keyed → Name → Option NodeId
child_id (Group x ls) name = option_map (λ u. record { key = key_of u }) (find ls name)
child_id (Leaf x) name = None

-- f is done to what the file holds at a leaf
abbrev pub on_leaf : (Node → Node) → Keyed → Keyed
on_leaf f (Group x ls) = Group x ls
on_leaf f (Leaf x) = Leaf (record { key = x.key; node = f x.node })

-- how many nodes of the tree are objects
abbrev mutual
  pub objects_of : Keyed → ℕ
  objects_of (Group x ls) = objects_at x.node + objects_below ls
  objects_of (Leaf x) = objects_at x.node

  pub objects_below : KeyedLinks → ℕ
  objects_below Empty = 0
  objects_below (Link name t rest) = objects_of t + objects_below rest

-- a node of the tree has this key
abbrev mutual
  pub HasKey : Keyed → ℕ → Type 0
  HasKey (Group x ls) k = (x.key ≡ k) ⊎ HasKeyBelow ls k
  HasKey (Leaf x) k = x.key ≡ k

  pub HasKeyBelow : KeyedLinks → ℕ → Type 0
  HasKeyBelow Empty k = ⊥
  HasKeyBelow (Link name t rest) k = HasKey t k ⊎ HasKeyBelow rest k

-- no key stands twice
abbrev mutual
  pub AreDistinct : Keyed → Type 0
  AreDistinct (Group x ls) = (HasKeyBelow ls x.key → ⊥) × AreDistinctBelow ls
  AreDistinct (Leaf x) = Unit {0}

  pub AreDistinctBelow : KeyedLinks → Type 0
  AreDistinctBelow Empty = Unit {0}
  AreDistinctBelow (Link name t rest) = AreDistinct t × AreDistinctBelow rest
      × ((k : ℕ) → HasKey t k → HasKeyBelow rest k → ⊥)

-- Under each node's key stand the node and its links, and just the groups have the nodes of groups.
abbrev mutual
  pub AreKept : (ℕ → Option Kept) → Keyed → Type 0
  AreKept at (Group x ls) = (is_group x.node ≡ true)
      × (at x.key ≡ Some (record { node = x.node; links = child_links ls })) × AreKeptBelow at ls
  AreKept at (Leaf x) = (is_group x.node ≡ false) × (at x.key ≡ Some (bare x.node))

  pub AreKeptBelow : (ℕ → Option Kept) → KeyedLinks → Type 0
  AreKeptBelow at Empty = Unit {0}
  AreKeptBelow at (Link name t rest) = AreKept at t × AreKeptBelow at rest

-- The tree that is kept, from the root on.
pub record Shows (kept : ObjectTree) (t : Keyed) : Type 0 where
  pub root : key_of t ≡ (root_of kept).key
  pub nodes : AreKept (entry_of kept) t
  pub ordered : IsOrdered t
  pub distinct : AreDistinct t
  pub objects : objects_of t ≡ object_count kept
