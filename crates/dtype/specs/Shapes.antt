-- Which bytes are the dataspace of a dataset, by the HDF5 File Format Specification 3.0, IV.A.2.b ("Dataspace
-- Message", version 1). Cited by `read_shape` and `write_shape`, and by what reads and writes object headers.
use Rattle.std.specs.Prelude.{◌≡◌, ℕ, ◌+◌, ◌*◌, ◌/◌, ◌%◌, ◌^◌, ◌≤◌, ◌<◌, ◌==◌, if◌then◌else◌, Option, None, Some, List}
use Rattle.std.specs.Prelude.{[], ◌∷◌, ◌++◌, length, slice_index, All}
use Rattle.h5_base.specs.Fields.{u64s_at, u64s_bytes}
use Rattle.dtype.specs.declared.types.Shape.{Shape}

-- ---- reading

abbrev pub rank_of : List ℕ → ℕ
rank_of b = slice_index b 1

-- bit 0 of the flags says that maximum sizes follow
abbrev pub has_max : List ℕ → ℕ
has_max b = slice_index b 2 % 2

-- A dataspace of rank at most 32 without permutation indices (bit 1 of the flags). Bytes behind it fill the message up.
pub record IsSpace (b : List ℕ) : Type 0 where
  pub whole : 8 + 8 * rank_of b * (1 + has_max b) ≤ length b
  pub version : slice_index b 0 ≡ 1
  pub rank : rank_of b ≤ 32
  pub unpermuted : slice_index b 2 / 2 % 2 ≡ 0

abbrev pub shape_of : List ℕ → Shape
shape_of b = record {
  dims = u64s_at b 8 8 (rank_of b);
  max = if has_max b == 1 then Some (u64s_at b (8 + 8 * rank_of b) 8 (rank_of b)) else None;
}

-- The bytes begin with the dataspace of this shape.
pub record SpellsShape (s : Shape) (b : List ℕ) : Type 0 where
  pub space : IsSpace b
  pub value : s ≡ shape_of b

-- ---- writing: maximum sizes only where they are given, all reserved bits 0

abbrev pub max_flag : Option (List ℕ) → ℕ
max_flag None = 0
max_flag (Some max) = 1

abbrev pub max_bytes : Option (List ℕ) → List ℕ
max_bytes None = []
max_bytes (Some max) = u64s_bytes max

abbrev pub shape_bytes : Shape → List ℕ
shape_bytes s =
    (1 ∷ length s.dims % 256 ∷ max_flag s.max ∷ 0 ∷ 0 ∷ 0 ∷ 0 ∷ 0 ∷ []) ++ u64s_bytes s.dims ++ max_bytes s.max

abbrev pub HasLength : ℕ → Option (List ℕ) → Type 0
HasLength n None = Unit {0}
HasLength n (Some max) = length max ≡ n

-- a shape that has a spelling: at most 32 dimensions, and as many maximum sizes as sizes where there are any
pub record IsShape (s : Shape) : Type 0 where
  pub rank : length s.dims ≤ 32
  pub same_rank : HasLength (length s.dims) s.max

-- numbers of 64 bits
abbrev pub AreU64s : List ℕ → Type 0
AreU64s ns = All (λ n. n < 2 ^ 64) ns

abbrev pub MaxAreU64s : Option (List ℕ) → Type 0
MaxAreU64s None = Unit {0}
MaxAreU64s (Some max) = AreU64s max
