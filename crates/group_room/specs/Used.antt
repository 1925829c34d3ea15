-- How far a group's heap is used, and the free block behind it, as the writer keeps them.
-- HDF5 File Format Specification 3.0, III.D. Cited by what edits a heap, and by what says how much is taken for it.
use Rattle.std.specs.Prelude.{◌≡◌, ℕ, ◌+◌, ◌*◌, ◌-◌, ◌%◌, ◌<◌, ◌≤◌, max, List, [], ◌∷◌, length, nat_le, if◌then◌else◌}
use Rattle.std.specs.List.{Contains}
use Rattle.h5_base.specs.Fields.{u64_at}
use Rattle.h5_base.specs.declared.extent.MemClass.TheVariants as class
use Rattle.h5_base.specs.declared.kinds.BlockKind.TheVariants as kind
use Rattle.node_codec.specs.declared.heap.HeapHead.{HeapHead}
use Rattle.object_model.specs.Tree.{Name}
use Rattle.block_space.specs.Plans.{rounded}
use Rattle.block_space.specs.declared.plan.Take.{Take}
use Rattle.file_model.specs.Groups.{HasText}

-- each text that stands at one of the offsets ends, with its NUL, before byte n of the segment
abbrev pub EndBefore : List ℕ → List ℕ → ℕ → Type 0
EndBefore segment offsets n = (at : ℕ) (text : List ℕ) → Contains offsets at → HasText segment at text
    → at + length text < n

-- The used length of a segment with these offsets in use: the least multiple of 8, at least 8, behind all their texts.
pub record IsUsedLen (segment offsets : List ℕ) (n : ℕ) : Type 0 where
  pub whole : n % 8 ≡ 0
  pub some : 8 ≤ n
  pub behind : EndBefore segment offsets n
  pub least : (m : ℕ) → m % 8 ≡ 0 → 8 ≤ m → EndBefore segment offsets m → n ≤ m

-- The header and the segment tell what is free behind the used bytes: one block where there are 16 bytes or more, and
-- nothing else. A free block tells that none follows it, and its size.
pub record IsFreeBehind (used : ℕ) (head : HeapHead) (segment : List ℕ) : Type 0 where
  pub head_at : used + 16 ≤ length segment → head.free ≡ used
  pub last : used + 16 ≤ length segment → u64_at segment used ≡ 1
  pub size : used + 16 ≤ length segment → u64_at segment (used + 8) ≡ length segment - used
  pub none : length segment < used + 16 → head.free ≡ 1

-- the bytes that a name needs of a segment: behind the used ones, with its NUL
abbrev pub name_end : (used : ℕ) → Name → ℕ
name_end used name = used + length name + 1

-- the name fits a segment of this length
abbrev pub Fits : (used len : ℕ) → Name → Type 0
Fits used len name = name_end used name ≤ len

-- a segment's length where the name doesn't fit: the greater of twice the old one and what is needed, rounded up to 8
abbrev pub wider_len : (used len : ℕ) → Name → ℕ
wider_len used len name = rounded (max (2 * len) (name_end used name))

-- the segment that is taken for a name, where it doesn't fit
abbrev pub segment_takes : (used len : ℕ) → Name → List Take
segment_takes used len name = if nat_le (name_end used name) len then []
    else (record { class = class.LocalHeap; len = wider_len used len name; kind = kind.Heap } ∷ [])
