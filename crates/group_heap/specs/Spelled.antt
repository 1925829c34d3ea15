-- The bytes that an edit of a heap writes (HDF5 File Format Specification 3.0, III.D).
-- Cited by what spells them.
use Rattle.std.specs.Prelude.{◌≡◌, ℕ, ◌+◌, ◌-◌, ◌<◌, ◌≤◌, List, ◌++◌, length, take, slice_index}
use Rattle.std.specs.Int.{w64, to_le_bytes}
use Rattle.h5_base.specs.Fields.{bytes_at}
use Rattle.object_model.specs.Tree.{Name}
use Rattle.node_codec.specs.declared.heap.HeapHead.{HeapHead}
use Rattle.node_codec.specs.Heap.{SpellsHeap}
use Rattle.block_space.specs.Plans.{rounded}
use Rattle.plan_pieces.specs.declared.image.Image.{Image}
use Rattle.group_heap.specs.declared.heap.Heap.{Heap}
use Rattle.std.specs.declared.option.Option.{Option}
use Rattle.std.specs.declared.option.Option.TheVariants.{Some, None}

-- a free block of this size, with none behind it
abbrev pub free_block : ℕ → List ℕ
free_block size = to_le_bytes w64 1 ++ to_le_bytes w64 size

-- The bytes have this length and begin with `front`. The name stands at an offset in them, with 0 between both and
-- behind it up to the next multiple of 8; a free block of this size stands there if it has room. All behind that is 0.
pub record IsSpelled (front : List ℕ) (at : ℕ) (name : Name) (len size : ℕ) (bytes : List ℕ) : Type 0 where
  pub len_is : length bytes ≡ len
  pub begins : take (length front) bytes ≡ front
  pub gap : (i : ℕ) → length front ≤ i → i < at → slice_index bytes i ≡ 0
  pub named : bytes_at bytes at (length name) ≡ name
  pub padded : (i : ℕ) → at + length name ≤ i → i < rounded (at + length name + 1) → slice_index bytes i ≡ 0
  pub free : rounded (at + length name + 1) + 16 ≤ len
      → bytes_at bytes (rounded (at + length name + 1)) 16 ≡ free_block size
  pub behind : (i : ℕ) → rounded (at + length name + 1) + 16 ≤ i → slice_index bytes i ≡ 0

-- The image of a header in its 32 bytes.
pub record IsHeadImage (at : ℕ) (head : HeapHead) (i : Image) : Type 0 where
  pub at_is : i.at ≡ at
  pub spelled : SpellsHeap head i.bytes

-- The free block behind the used bytes in its place, none where it has no room.
abbrev pub IsFreePart : Heap → ℕ → Option Image → Type 0
IsFreePart heap used None = heap.head.len < used + 16
IsFreePart heap used (Some i) = (used + 16 ≤ heap.head.len) × (i.at ≡ heap.head.segment_at + used)
    × (i.bytes ≡ free_block (heap.head.len - used))
