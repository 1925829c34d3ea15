-- The tree that a file's bytes hold, as the program keeps it: each node with what the file holds there.
-- Cited by `open_tree`, and by whatever works on an opened file.
use Rattle.std.specs.Prelude.{◌≡◌, List}
use Rattle.dtype.specs.Types.{size_of}
use Rattle.outside.specs.Array.{Array}
use Rattle.outside.specs.Blocks.{Block, Bounds}
use Rattle.object_model.specs.Tree.{Group, Leaf, Empty, Link}
use Rattle.file_model.specs.Objects.{fill_bytes}
use Rattle.file_model.specs.Holds.{GroupAt, DataAt, LeafAt, DataLeaf, SoftLeaf, OtherLeaf, Full, FullLinks, HoldsFull}
use Rattle.file_model.specs.Limits.{IsWithinLimits}
use Rattle.file_model.specs.Laws.{all_blocks}
use Rattle.tree_nodes.specs.declared.node.Node.{Node}
use Rattle.tree_nodes.specs.declared.node.Node.TheVariants as node
use Rattle.tree_nodes.specs.declared.tree.ObjectTree.{ObjectTree}
use Rattle.tree_nodes.specs.Entries.{superblock_of}
use Rattle.tree_nodes.specs.Shown.{Keyed, KeyedLinks, Shows}

-- the node of a group
abbrev pub IsGroupNode : Node → GroupAt → Type 0
IsGroupNode (node.Group header tree heap) g = (header ≡ g.header_at) × (tree ≡ g.tree_at) × (heap ≡ g.heap_at)
IsGroupNode (node.Dataset header shape elem fill layout filtered) g = ⊥
IsGroupNode (node.Soft text) g = ⊥
IsGroupNode (node.Other header) g = ⊥

-- the node of a dataset
abbrev pub IsDataNode : Node → DataAt → Type 0
IsDataNode (node.Dataset header shape elem fill layout filtered) d =
    (header ≡ d.header_at) × (shape ≡ d.info.shape) × (elem ≡ d.info.elem)
    × (fill_bytes (size_of elem) fill ≡ d.info.fill) × (layout ≡ d.info.layout) × (filtered ≡ d.info.filtered)
IsDataNode (node.Group header tree heap) d = ⊥
IsDataNode (node.Soft text) d = ⊥
IsDataNode (node.Other header) d = ⊥

-- the node of what is no group
abbrev pub IsLeafNode : Node → LeafAt → Type 0
IsLeafNode n (DataLeaf d) = IsDataNode n d
IsLeafNode n (SoftLeaf text) = n ≡ node.Soft text
IsLeafNode n (OtherLeaf o) = n ≡ node.Other o.header_at

-- the tree with keys has at each place the node of what lies there in the file
abbrev mutual
  pub Matches : Keyed → Full → Type 0
  Matches (Group x ks) (Group g ls) = IsGroupNode x.node g × MatchesLinks ks ls
  Matches (Group x ks) (Leaf l) = ⊥
  Matches (Leaf x) (Group g ls) = ⊥
  Matches (Leaf x) (Leaf l) = IsLeafNode x.node l

  pub MatchesLinks : KeyedLinks → FullLinks → Type 0
  MatchesLinks Empty Empty = Unit {0}
  MatchesLinks Empty (Link m u rest) = ⊥
  MatchesLinks (Link n t rest) Empty = ⊥
  MatchesLinks (Link n t rest) (Link m u more) = (n ≡ m) × Matches t u × MatchesLinks rest more

-- The tree is the one that the bytes hold, within the limits.
pub record IsOpened (b : Array) (e : Bounds) (kept : ObjectTree) : Type 0 where
  pub root : GroupAt
  pub links : FullLinks
  pub full : HoldsFull b e (superblock_of kept) root links
  pub within : IsWithinLimits b (all_blocks (superblock_of kept) full.driver (Group root links)) (Group root links)
  pub tree : Keyed
  pub shown : Shows kept tree
  pub same : Matches tree (Group root links)

-- all blocks of an opened file
abbrev pub file_blocks : {b : Array} {e : Bounds} {kept : ObjectTree} → IsOpened b e kept → List Block
file_blocks {kept = kept} o = all_blocks (superblock_of kept) o.full.driver (Group o.root o.links)
