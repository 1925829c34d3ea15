-- Groups and chunk indexes as the HDF5 library keeps them: the siblings of each node, and the empty name before all
-- others, by the HDF5 File Format Specification 3.0, III.A.1 and III.D.
-- Cited by what makes and changes an index.
use Rattle.std.specs.Prelude.{◌≡◌, ◌≤◌, ◌<◌, ◌+◌, ℕ, List, [], ◌∷◌, ◌++◌, length, take, slice_index}
use Rattle.std.specs.List.{Contains}
use Rattle.outside.specs.Array.{Array, bytes_of}
use Rattle.outside.specs.Blocks.{Block, placed, Agree}
use Rattle.h5_base.specs.Fields.{undefined}
use Rattle.node_codec.specs.Heap.{SpellsHeap}
use Rattle.node_codec.specs.declared.heap.HeapHead.{HeapHead}
use Rattle.file_model.specs.Index.{row, AreSiblings}
use Rattle.file_model.specs.Groups.{Ks, Found, GroupIndex, TreeNode, IsIndex, HasText, HasLinks, index_offsets}
use Rattle.file_model.specs.Groups.{index_blocks}
use Rattle.file_model.specs.Chunks.{ChunkIndex}

-- key 0 of the leftmost node of a level is offset 0
abbrev pub BeginsEmpty : List TreeNode → Type 0
BeginsEmpty [] = Unit {0}
BeginsEmpty (n ∷ ns) = slice_index n.node.keys 0 ≡ 0

-- A group's index is well kept with a heap of this segment: at offset 0 stands the empty name.
pub record IsKeptGroup (segment : List ℕ) (x : GroupIndex) : Type 0 where
  pub siblings : (depth : ℕ) → AreSiblings (λ n. n.at) (λ n. n.node.left) (λ n. n.node.right) undefined (row depth x)
  pub leftmost : (depth : ℕ) → BeginsEmpty (row depth x)
  pub empty_name : HasText segment 0 []

-- a chunk index is well kept
abbrev pub IsKeptIndex : ChunkIndex → Type 0
IsKeptIndex x = (depth : ℕ) → AreSiblings (λ n. n.at) (λ n. n.node.left) (λ n. n.node.right) undefined (row depth x)

-- the index that has the links of a group is well kept
abbrev pub AreWellKept : (b : Array) (ks : Ks) (tree heap : ℕ) (fs : List Found) (bs : List Block)
    → HasLinks b ks tree heap fs bs → Type 0
AreWellKept b ks tree heap fs bs h = IsKeptGroup (bytes_of b h.head.segment_at h.head.len) h.index

-- ---- a heap whose segment grows, or is cut

-- each text that an index uses ends, with its NUL, within the first n bytes of the segment
abbrev pub IsUsedWithin : ℕ → List ℕ → GroupIndex → Type 0
IsUsedWithin n segment x = (at : ℕ) (text : List ℕ) → Contains (index_offsets x) at → HasText segment at text
    → at + length text < n

-- an index stands with any segment that has the same bytes as far as it uses them
abbrev pub OtherSegment : Type 0
OtherSegment = (b : Array) (ks : Ks) (segment other : List ℕ) (height n : ℕ) (x : GroupIndex)
    → IsIndex b ks segment height x → IsUsedWithin n segment x
    → n ≤ length segment → n ≤ length other → take n other ≡ take n segment → IsIndex b ks other height x

-- a group has the same links, by the same index, with another segment that has the same bytes as far as they are used
abbrev pub OtherHeap : Type 0
OtherHeap = (b c : Array) (ks : Ks) (tree heap n : ℕ) (fs : List Found) (bs : List Block) (head : HeapHead)
    (h : HasLinks b ks tree heap fs bs)
    → IsUsedWithin n (bytes_of b h.head.segment_at h.head.len) h.index → n ≤ h.head.len → n ≤ head.len
    → bytes_of c head.segment_at n ≡ bytes_of b h.head.segment_at n
    → SpellsHeap head (bytes_of c heap 32) → Agree b c (index_blocks ks h.index)
    → (k : HasLinks c ks tree heap fs
    (record { start = heap; len = 32 } ∷ placed head.segment_at head.len ++ index_blocks ks h.index))
    × (k.index ≡ h.index)
