-- The header of a local heap, by the HDF5 File Format Specification 3.0, III.D.
-- Cited by `read_heap`, `write_heap` and whatever says what a group's blocks hold.
use Rattle.std.specs.Prelude.{◌≡◌, ℕ, ◌^◌, ◌<◌, List, [], ◌∷◌, ◌++◌, length, take, slice_index}
use Rattle.std.specs.Int.{w64, to_le_bytes}
use Rattle.h5_base.specs.Fields.{u64_at}
use Rattle.node_codec.specs.declared.heap.HeapHead.{HeapHead}

-- `HEAP`
abbrev pub heap_signature : List ℕ
heap_signature = 0x48 ∷ 0x45 ∷ 0x41 ∷ 0x50 ∷ []

-- what the 32 bytes of a header tell
abbrev pub heap_of : List ℕ → HeapHead
heap_of b = record {
  len = u64_at b 8;
  free = u64_at b 16;
  segment_at = u64_at b 24;
}

-- 32 bytes with the signature and version 0; the three bytes behind the version are reserved
pub record IsHeap (b : List ℕ) : Type 0 where
  pub len : length b ≡ 32
  pub signature : take 4 b ≡ heap_signature
  pub version : slice_index b 4 ≡ 0

-- The block spells the header.
pub record SpellsHeap (h : HeapHead) (b : List ℕ) : Type 0 where
  pub block : IsHeap b
  pub value : h ≡ heap_of b

-- the block that is written: reserved bytes are 0
unfoldable pub heap_bytes : HeapHead → List ℕ
heap_bytes h =
    heap_signature ++ (0 ∷ 0 ∷ 0 ∷ 0 ∷ []) ++ to_le_bytes w64 h.len ++ to_le_bytes w64 h.free ++ to_le_bytes w64
    h.segment_at

-- the numbers fit their types
pub record HeapInRange (h : HeapHead) : Type 0 where
  pub len : h.len < 2 ^ 64
  pub free : h.free < 2 ^ 64
  pub segment_at : h.segment_at < 2 ^ 64
