-- How a tree grows while a file is opened: by the links of one group, with all below them.
-- Cited by the steps of `open_tree`.
use Rattle.std.specs.Prelude.{◌≡◌, ◌≢◌, ◌⊎◌, true, ℕ, ◌+◌, ◌≤◌, List, [], ◌++◌, Option, Some, None}
use Rattle.outside.specs.Array.{Array}
use Rattle.outside.specs.Blocks.{Block, Bounds, AreTaken}
use Rattle.object_model.specs.Tree.{Name, AreOrdered}
use Rattle.header_codec.specs.declared.types.Prefix.{Prefix}
use Rattle.file_model.specs.Headers.{Part, IsHeader, header_blocks, messages_of}
use Rattle.file_model.specs.Objects.{IsGroupHeader}
use Rattle.file_model.specs.Groups.{Ks, Found, Target, Header, HasLinks}
use Rattle.file_model.specs.Holds.{LeafAt, Full, FullLinks, IsHeld, AreHeld, IsLeafHeld, leaf_target, leaf_blocks}
use Rattle.file_model.specs.Holds.{target_of as full_target}
use Rattle.file_model.specs.Limits.{most_header, header_bytes, IsSmallHeap, LeafFits, Fits, AllFit, depth_to}
use Rattle.file_model.specs.Limits.{depth_in}
use Rattle.h5_base.specs.declared.refusal.Refusal.{Refusal}
use Rattle.file_model.specs.RefusedGroups.{IsTableRefused}
use Rattle.file_model.specs.RefusedTree.{IsObjectRefused, AreLinksRefused}
use Rattle.storage_reader.specs.declared.storage.Elements.{Elements}
use Rattle.tree_nodes.specs.declared.node.Node.{Node}
use Rattle.tree_nodes.specs.declared.node.Node.TheVariants as node
use Rattle.tree_nodes.specs.declared.tree.ObjectTree.{ObjectTree}
use Rattle.tree_nodes.specs.Nodes.{Kept, bare, is_group, child_link, link_names, insert_link}
use Rattle.tree_nodes.specs.Entries.{superblock_of, root_of, entry_of, object_count}
use Rattle.tree_nodes.specs.Shown.{Keyed, KeyedLinks, key_of, child_links, objects_of, objects_below, HasKey}
use Rattle.tree_nodes.specs.Shown.{HasKeyBelow, AreDistinct, AreDistinctBelow, AreKept, AreKeptBelow}
use Rattle.object_tree.specs.declared.growing.Table.{Table}
use Rattle.object_tree.specs.Opened.{IsLeafNode, Matches, MatchesLinks}

-- What stands under a key had no links, and has these now; all below them is new, and nothing else changed.
pub record Grows (old new : ObjectTree) (key : ℕ) (links : KeyedLinks) : Type 0 where
  pub superblock : superblock_of new ≡ superblock_of old
  pub root : root_of new ≡ root_of old
  pub here : (n : Node) → entry_of old key ≡ Some (record { node = n; links = [] })
      → entry_of new key ≡ Some (record { node = n; links = child_links links })
  pub kept : AreKeptBelow (entry_of new) links
  pub distinct : AreDistinctBelow links
  pub fresh : (k : ℕ) → HasKeyBelow links k → entry_of old k ≡ None
  pub others : (k : ℕ) → k ≢ key → (HasKeyBelow links k → ⊥) → entry_of new k ≡ entry_of old k
  pub objects : object_count new ≡ object_count old + objects_below links

-- an object's node that is no group's, with all that lies in the file for it
abbrev pub IsLeafFound : Array → Ks → ℕ → Node → List Block → Type 0
IsLeafFound b ks at n own = (l : LeafAt) × IsLeafNode n l × IsLeafHeld b ks l × (leaf_target l ≡ Header at)
    × (leaf_blocks l ≡ own) × LeafFits b l

-- A node that was found where a header is: of a group its header's blocks are known, of another object all.
abbrev pub IsNodeFound : Array → Ks → ℕ → Node → List Block → Type 0
IsNodeFound b ks at (node.Group header tree heap) own =
    (prefix : Prefix) × (parts : List Part) × IsHeader b at prefix parts × IsGroupHeader (messages_of parts) tree heap
    × (header ≡ at) × (own ≡ header_blocks at prefix parts)
    × (header_bytes at prefix parts ≤ most_header)
IsNodeFound b ks at (node.Dataset header shape elem fill layout filtered) own = IsLeafFound b ks at
    (node.Dataset header shape elem fill layout filtered) own
IsNodeFound b ks at (node.Soft text) own = ⊥
IsNodeFound b ks at (node.Other header) own = IsLeafFound b ks at (node.Other header) own

-- links that were read with all below them, of a group at so many levels above the deepest
pub record AreOpened (b : Array) (ks : Ks) (levels : ℕ) (links : KeyedLinks) (ls : FullLinks) : Type 0 where
  pub held : AreHeld b ks ls
  pub fit : AllFit b ls
  pub depth : depth_in ls ≤ levels
  pub same : MatchesLinks links ls

-- a group's links are refused: for its heap or B-tree, or for an object below it
abbrev pub IsGroupRefused : Array → Bounds → Ks → (levels objects : ℕ) → List Block → (tree heap : ℕ) → Refusal → Type 0
IsGroupRefused b e ks levels objects met tree heap r =
    IsTableRefused b e ks met tree heap r
    ⊎ ((fs : List Found) × (index : List Block) × HasLinks b ks tree heap fs index × AreTaken e met index
    × IsSmallHeap b heap
    × AreLinksRefused (IsObjectRefused b e ks levels) b e ks levels objects (met ++ index) fs r)

-- What stands under a key has one link more, in its place; what it leads to is new, with all below it.
pub record Adds (old new : ObjectTree) (key : ℕ) (name : Name) (t : Keyed) : Type 0 where
  pub superblock : superblock_of new ≡ superblock_of old
  pub root : root_of new ≡ root_of old
  pub linked : (e : Kept) → entry_of old key ≡ Some e → AreOrdered (link_names e.links)
      → entry_of new key ≡ Some (record { node = e.node; links = insert_link e.links (child_link name (key_of t)) })
  pub kept : AreKept (entry_of new) t
  pub distinct : AreDistinct t
  pub fresh : (k : ℕ) → HasKey t k → entry_of old k ≡ None
  pub others : (k : ℕ) → k ≢ key → (HasKey t k → ⊥) → entry_of new k ≡ entry_of old k
  pub objects : object_count new ≡ object_count old + objects_of t

-- the links that are kept there stand in the order of their names
abbrev pub LinksAscend : ObjectTree → ℕ → Type 0
LinksAscend kept key = (e : Kept) → entry_of kept key ≡ Some e → AreOrdered (link_names e.links)

-- a group without links is kept there
pub record IsBareGroup (kept : ObjectTree) (key : ℕ) : Type 0 where
  pub node : Node
  pub group : is_group node ≡ true
  pub bare_is : entry_of kept key ≡ Some (bare node)

-- What was read of a link: an object that lies there with all below it, or a soft link.
pub record IsOpenedAt (b : Array) (ks : Ks) (levels : ℕ) (target : Target) (t : Keyed) (u : Full) : Type 0 where
  pub held : IsHeld b ks u
  pub target_is : full_target u ≡ target
  pub fits : Fits b u
  pub depth : depth_to u ≤ levels
  pub same : Matches t u

-- where a group's B-tree and heap are
abbrev pub table_of : Node → Option Table
table_of (node.Group header tree heap) = Some (record { tree_at = tree; heap_at = heap })
table_of (node.Dataset header shape elem fill layout filtered) = None
table_of (node.Soft text) = None
table_of (node.Other header) = None

-- these are the elements of the dataset
abbrev pub HasParts : Node → Elements → Type 0
HasParts (node.Dataset header shape elem fill layout filtered) e = (shape ≡ e.shape.now) × (elem ≡ e.elem)
    × (layout ≡ e.layout.now) × (filtered ≡ e.filtered)
HasParts (node.Group header tree heap) e = ⊥
HasParts (node.Soft text) e = ⊥
HasParts (node.Other header) e = ⊥

-- A tree of a root with these links, and all below them; nothing else is kept.
pub record HasRoot (kept : ObjectTree) (root : Node) (links : KeyedLinks) : Type 0 where
  pub entry : entry_of kept (root_of kept).key ≡ Some (record { node = root; links = child_links links })
  pub below : AreKeptBelow (entry_of kept) links
  pub distinct : AreDistinctBelow links
  pub apart : HasKeyBelow links (root_of kept).key → ⊥
  pub only : (k : ℕ) → k ≢ (root_of kept).key → (HasKeyBelow links k → ⊥) → entry_of kept k ≡ None
  pub objects : object_count kept ≡ 1 + objects_below links
