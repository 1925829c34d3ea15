-- What an edit of a heap writes, and what the heap is then (HDF5 File Format Specification 3.0, III.D).
-- Cited by what puts a name into a heap or tells its free bytes, and by what plans an edit of a group.
use Rattle.std.specs.Prelude.{◌≡◌, ℕ, ◌+◌, ◌<◌, ◌≤◌, ◌⊎◌, min, List, [], ◌∷◌, ◌++◌, length, take, drop}
use Rattle.std.specs.Prelude.{slice_index}
use Rattle.std.specs.declared.option.Option.{Option}
use Rattle.std.specs.declared.option.Option.TheVariants.{Some, None}
use Rattle.h5_base.specs.declared.extent.MemClass.TheVariants as class
use Rattle.h5_base.specs.declared.kinds.BlockKind.TheVariants as kind
use Rattle.object_model.specs.Tree.{Name}
use Rattle.outside.specs.Array.{Array, bytes_of}
use Rattle.node_codec.specs.declared.heap.HeapHead.{HeapHead}
use Rattle.node_codec.specs.Heap.{SpellsHeap}
use Rattle.block_space.specs.Plans.{rounded}
use Rattle.file_model.specs.Groups.{HasText}
use Rattle.group_room.specs.Used.{Fits, IsFreeBehind, name_end, wider_len}
use Rattle.plan_pieces.specs.declared.image.Image.{Image}
use Rattle.plan_pieces.specs.declared.image.NewBlock.{NewBlock}
use Rattle.plan_pieces.specs.Images.{HaveImages}
use Rattle.group_heap.specs.declared.heap.Heap.{Heap}
use Rattle.group_heap.specs.declared.heap.HeapEdit.{HeapEdit}

-- ---- the images of an edit

abbrev pub part_images : Option Image → List Image
part_images None = []
part_images (Some i) = i ∷ []

abbrev pub segment_images : Option NewBlock → List Image
segment_images None = []
segment_images (Some n) = n.image ∷ []

-- all that it writes: the header, the part of the segment, the new segment
abbrev pub images_in : HeapEdit → List Image
images_in edit = edit.header ∷ part_images edit.part ++ segment_images edit.segment

-- the header's image stands where the header does, and has its length
pub record IsHeaderImage (heap : Heap) (i : Image) : Type 0 where
  pub at_is : i.at ≡ heap.at
  pub len : length i.bytes ≡ 32

-- A part of the segment: some bytes inside, none of the used ones, and none past a free block that begins at `next`.
pub record IsPart (heap : Heap) (used next : ℕ) (i : Image) : Type 0 where
  pub some : 0 < length i.bytes
  pub behind : heap.head.segment_at + used ≤ i.at
  pub near : i.at + length i.bytes ≤ heap.head.segment_at + next + 16
  pub inside : i.at + length i.bytes ≤ heap.head.segment_at + heap.head.len

abbrev pub MaybePart : Heap → (used next : ℕ) → Option Image → Type 0
MaybePart heap used next None = Unit {0}
MaybePart heap used next (Some i) = IsPart heap used next i

-- the new segment of so many bytes at an address
pub record IsSegment (at len : ℕ) (n : NewBlock) : Type 0 where
  pub class_is : n.class ≡ class.LocalHeap
  pub kind_is : n.kind ≡ kind.Heap
  pub at_is : n.image.at ≡ at
  pub len_is : length n.image.bytes ≡ len

abbrev pub MovesTo : (at len : ℕ) → Option NewBlock → Type 0
MovesTo at len None = ⊥
MovesTo at len (Some n) = IsSegment at len n

-- ---- what it makes of the heap

-- an address lies outside of the image
abbrev pub LiesBeside : ℕ → Option Image → Type 0
LiesBeside a None = Unit {0}
LiesBeside a (Some i) = (a < i.at) ⊎ (i.at + length i.bytes ≤ a)

-- the bytes of the old segment's place that the edit doesn't write stay
abbrev pub StaysBeside : Heap → HeapEdit → Array → Array → Type 0
StaysBeside heap edit b c = (a : ℕ) → heap.head.segment_at ≤ a → a < heap.head.segment_at + heap.head.len
    → LiesBeside a edit.part → c a ≡ b a

-- The edit is written: the segment stood in the array b, and c has the edit's images, and the rest of the segment.
pub record IsWritten (heap : Heap) (edit : HeapEdit) (b c : Array) : Type 0 where
  pub stood : bytes_of b heap.head.segment_at heap.head.len ≡ heap.segment.items
  pub beside : StaysBeside heap edit b c
  pub images : HaveImages c (images_in edit)

-- the segment that a header tells
abbrev pub segment_of : Array → HeapHead → List ℕ
segment_of c head = bytes_of c head.segment_at head.len

-- The heap in the array has this name behind the used bytes, which are as before. Behind the name all is 0 up to the
-- next multiple of 8, from where on the heap is free.
pub record HasName (heap : Heap) (used : ℕ) (name : Name) (segment_at : ℕ) (c : Array) : Type 0 where
  pub head : HeapHead
  pub spelled : SpellsHeap head (bytes_of c heap.at 32)
  pub stays : Fits used heap.head.len name
      → (head.segment_at ≡ heap.head.segment_at) × (head.len ≡ heap.head.len)
  pub moves : heap.head.len < name_end used name
      → (head.segment_at ≡ segment_at) × (head.len ≡ wider_len used heap.head.len name)
  pub front : take (min used heap.head.len) (segment_of c head) ≡ take (min used heap.head.len) heap.segment.items
  pub gap : heap.head.len < name_end used name → (i : ℕ) → heap.head.len ≤ i → i < used
      → slice_index (segment_of c head) i ≡ 0
  pub text : HasText (segment_of c head) used name
  pub padded : (i : ℕ) → used + length name ≤ i → i < rounded (name_end used name)
      → slice_index (segment_of c head) i ≡ 0
  pub free : IsFreeBehind (rounded (name_end used name)) head (segment_of c head)
  pub zeros : heap.head.len < name_end used name → (i : ℕ) → rounded (name_end used name) + 16 ≤ i
      → slice_index (segment_of c head) i ≡ 0

-- The edit puts the name into the heap: into its place if it fits, else into a new segment at the address.
pub record IsNamed (heap : Heap) (used : ℕ) (name : Name) (segment_at : ℕ) (edit : HeapEdit) : Type 0 where
  pub header : IsHeaderImage heap edit.header
  pub part : MaybePart heap used (rounded (name_end used name)) edit.part
  pub stays : Fits used heap.head.len name → edit.segment ≡ None
  pub moves : heap.head.len < name_end used name
      → (edit.part ≡ None) × MovesTo segment_at (wider_len used heap.head.len name) edit.segment
  pub means : (b c : Array) → IsWritten heap edit b c → HasName heap used name segment_at c

-- The heap in the array has all behind the used bytes free, and else what it had: only the 16 bytes of the free block
-- may differ, if it has room.
pub record HasFree (heap : Heap) (used : ℕ) (c : Array) : Type 0 where
  pub head : HeapHead
  pub spelled : SpellsHeap head (bytes_of c heap.at 32)
  pub place : head.segment_at ≡ heap.head.segment_at
  pub len : head.len ≡ heap.head.len
  pub front : take used (segment_of c head) ≡ take used heap.segment.items
  pub rest : drop (used + 16) (segment_of c head) ≡ drop (used + 16) heap.segment.items
  pub whole : heap.head.len < used + 16 → segment_of c head ≡ heap.segment.items
  pub free : IsFreeBehind used head (segment_of c head)

-- The edit tells what is free of the heap behind the used bytes.
pub record IsFreed (heap : Heap) (used : ℕ) (edit : HeapEdit) : Type 0 where
  pub header : IsHeaderImage heap edit.header
  pub part : MaybePart heap used used edit.part
  pub stays : edit.segment ≡ None
  pub means : (b c : Array) → IsWritten heap edit b c → HasFree heap used c
