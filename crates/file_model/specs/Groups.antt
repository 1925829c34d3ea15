-- The links of a group and its index, by the HDF5 File Format Specification 3.0, III.A.1 (B-tree nodes), III.B and
-- III.C (symbol table nodes and entries) and III.D (local heaps). Cited by what a file's bytes hold.
use Rattle.std.specs.Prelude.{◌≡◌, ◌≢◌, ℕ, zero, suc, ◌+◌, ◌≤◌, ◌<◌, ◌==◌, false, List, [], ◌∷◌, ◌++◌, length}
use Rattle.std.specs.Prelude.{map, All, IsTrue, slice_index, if◌then◌else◌}
use Rattle.std.specs.List.{flat_map}
use Rattle.outside.specs.Array.{Array, bytes_of}
use Rattle.h5_base.specs.Fields.{bytes_at}
use Rattle.node_codec.specs.Snod.{SpellsSnod, soft_value_at, snod_len}
use Rattle.node_codec.specs.GroupNodes.{SpellsGroupNode, group_node_len}
use Rattle.node_codec.specs.Heap.{SpellsHeap}
use Rattle.node_codec.specs.declared.snod.SnodEntry.{SnodEntry}
use Rattle.node_codec.specs.declared.group_node.GroupNode.{GroupNode}
use Rattle.node_codec.specs.declared.heap.HeapHead.{HeapHead}
use Rattle.object_model.specs.Tree.{Name, name_lt, AreOrdered}
use Rattle.super_codec.specs.declared.superblock.KValues.{KValues}
use Rattle.outside.specs.Blocks.{Block, placed}
use Rattle.file_model.specs.Index.{Index, Indexes, Bottom, Node, NoMore, Next, gather, gather_in, each}

-- The text stands in the segment at this offset, ended by a NUL.
pub record HasText (segment : List ℕ) (at : ℕ) (text : List ℕ) : Type 0 where
  pub inside : at + length text < length segment
  pub stands : bytes_at segment at (length text) ≡ text
  pub ended : slice_index segment (at + length text) ≡ 0
  pub no_nul : All (λ c. c ≢ 0) text

-- what a link leads to: the header of an object, or a soft link's value
pub data Target : Type 0 where
  Header : ℕ → Target
  Text : List ℕ → Target

pub record Found : Type 0 where
  pub name : Name
  pub target : Target

abbrev pub IsTarget : List ℕ → SnodEntry → Target → Type 0
IsTarget segment e (Header at) = (e.cache ≤ 1) × (e.header_at ≡ at)
IsTarget segment e (Text text) = (e.cache ≡ 2) × HasText segment (soft_value_at e) text

-- entries and the links that they tell
abbrev pub AreLinks : List ℕ → List SnodEntry → List Found → Type 0
AreLinks segment [] [] = Unit {0}
AreLinks segment [] (f ∷ fs) = ⊥
AreLinks segment (e ∷ es) [] = ⊥
AreLinks segment (e ∷ es) (f ∷ fs) = HasText segment e.name_at f.name × IsTarget segment e f.target
    × AreLinks segment es fs

-- above the one key's name, and at most the other's
abbrev pub AreBetween : Name → Name → List Found → Type 0
AreBetween low high [] = Unit {0}
AreBetween low high (f ∷ fs) = (IsTrue (name_lt low f.name) × (name_lt high f.name ≡ false)) × AreBetween low high fs

-- ---- the index as a value

-- a symbol table node: its address, its entries, and the links that they tell
pub record LeafNode : Type 0 where
  pub at : ℕ
  pub entries : List SnodEntry
  pub links : List Found

-- a node of the B-tree: its address, and what its block tells
pub record TreeNode : Type 0 where
  pub at : ℕ
  pub node : GroupNode

-- The index of a group: the nodes of its B-tree, with symbol table nodes under level 0.
abbrev pub GroupIndex : Type 0
GroupIndex = Index TreeNode LeafNode

abbrev pub GroupIndexes : Type 0
GroupIndexes = Indexes TreeNode LeafNode

abbrev pub address_of : GroupIndex → ℕ
address_of (Bottom s) = s.at
address_of (Node n xs) = n.at

-- its links, from left to right
abbrev pub links_under : GroupIndex → List Found
links_under = gather (λ n. []) (λ s. s.links)

abbrev pub links_within : GroupIndexes → List Found
links_within = gather_in (λ n. []) (λ s. s.links)

-- the K values of a file
abbrev pub Ks : Type 0
Ks = KValues

abbrev pub leaf_block : Ks → ℕ → Block
leaf_block ks at = record { start = at; len = snod_len ks.leaf }

abbrev pub node_block : Ks → ℕ → Block
node_block ks at = record { start = at; len = group_node_len ks.internal }

-- its blocks, each node before what is below it
abbrev pub index_blocks : Ks → GroupIndex → List Block
index_blocks ks = gather (λ n. node_block ks n.at ∷ []) (λ s. leaf_block ks s.at ∷ [])

abbrev pub blocks_within : Ks → GroupIndexes → List Block
blocks_within ks = gather_in (λ n. node_block ks n.at ∷ []) (λ s. leaf_block ks s.at ∷ [])

-- the offsets in the heap of an entry's name, and of a soft link's value
abbrev pub entry_offsets : SnodEntry → List ℕ
entry_offsets e = if e.cache == 2 then (e.name_at ∷ soft_value_at e ∷ []) else (e.name_at ∷ [])

-- the offsets of the keys beside a child: none in a node without children
abbrev pub key_offsets : GroupNode → List ℕ
key_offsets n = if length n.children == 0 then [] else n.keys

-- the offsets in the heap that are in use
abbrev pub index_offsets : GroupIndex → List ℕ
index_offsets = gather (λ n. key_offsets n.node) (λ s. flat_map entry_offsets s.entries)

-- ---- how it lies in the file

-- The block of a symbol table node spells its entries, which tell links whose names ascend.
pub record IsLeaf (b : Array) (ks : Ks) (segment : List ℕ) (s : LeafNode) : Type 0 where
  pub spelled : SpellsSnod ks.leaf s.entries (bytes_of b s.at (snod_len ks.leaf))
  pub links : AreLinks segment s.entries s.links
  pub ordered : AreOrdered (map (λ f. f.name) s.links)

-- The block of a node spells it, with this level and these children.
pub record IsNode (b : Array) (ks : Ks) (level : ℕ) (n : TreeNode) (children : List ℕ) : Type 0 where
  pub spelled : SpellsGroupNode ks.internal n.node (bytes_of b n.at (group_node_len ks.internal))
  pub level_is : n.node.level ≡ level
  pub children_are : n.node.children ≡ children

-- The names under each child are greater than that of the key before it, and at most that of the key behind it.
abbrev pub AreKeyed : List ℕ → List ℕ → GroupIndexes → Type 0
AreKeyed segment keys NoMore = Unit {0}
AreKeyed segment [] (Next x xs) = ⊥
AreKeyed segment (k ∷ []) (Next x xs) = ⊥
AreKeyed segment (k ∷ l ∷ ks) (Next x xs) =
    (low high : Name) × HasText segment k low × HasText segment l high × AreBetween low high (links_under x)
    × AreKeyed segment (l ∷ ks) xs

-- The index lies in the file, with a heap of this segment: its height is 0 for a symbol table node, and one more than
-- the level for a node of the B-tree.
abbrev mutual
  pub IsIndex : Array → Ks → List ℕ → (height : ℕ) → GroupIndex → Type 0
  IsIndex b ks segment zero (Bottom s) = IsLeaf b ks segment s
  IsIndex b ks segment zero (Node n xs) = ⊥
  IsIndex b ks segment (suc level) (Bottom s) = ⊥
  IsIndex b ks segment (suc level) (Node n xs) = IsNode b ks level n (each address_of xs)
      × AreIndexes b ks segment level xs × AreKeyed segment n.node.keys xs

  pub AreIndexes : Array → Ks → List ℕ → (height : ℕ) → GroupIndexes → Type 0
  AreIndexes b ks segment height NoMore = Unit {0}
  AreIndexes b ks segment height (Next x xs) = IsIndex b ks segment height x × AreIndexes b ks segment height xs

-- The links of a group with this B-tree and heap, and the blocks of both.
pub record HasLinks (b : Array) (ks : Ks) (tree heap : ℕ) (fs : List Found) (bs : List Block) : Type 0 where
  pub head : HeapHead
  pub spelled : SpellsHeap head (bytes_of b heap 32)
  pub level : ℕ
  pub index : GroupIndex
  pub root : address_of index ≡ tree
  pub stands : IsIndex b ks (bytes_of b head.segment_at head.len) (suc level) index
  pub links : fs ≡ links_under index
  pub ordered : AreOrdered (map (λ f. f.name) fs)
  pub blocks : bs ≡ record { start = heap; len = 32 } ∷ placed head.segment_at head.len ++ index_blocks ks index

-- ---- parts of an index

-- What stands at an address: its links from left to right, and its blocks.
abbrev pub Under : Type 1
Under = ℕ → List Found → List Block → Type 0

-- an index of this height stands at the address, with these links and blocks
pub record StandsAt (b : Array) (ks : Ks) (segment : List ℕ) (height at : ℕ) (fs : List Found)
    (bs : List Block) : Type 0 where
  pub index : GroupIndex
  pub stands : IsIndex b ks segment height index
  pub address : address_of index ≡ at
  pub links : fs ≡ links_under index
  pub blocks : bs ≡ index_blocks ks index
