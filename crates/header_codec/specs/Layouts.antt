-- Which bytes are a data layout, by the HDF5 File Format Specification 3.0, IV.A.2.i ("Data Layout Message", version
-- 3). Cited by `read_layout` and `write_header`, and by what says where a dataset's elements are.
use Rattle.std.specs.Prelude.{◌≡◌, ℕ, zero, suc, ◌+◌, ◌*◌, ◌^◌, ◌≤◌, ◌<◌, ◌⊎◌, List, [], ◌∷◌, length, slice_index, All}
use Rattle.h5_base.specs.Fields.{u32_at, u64_at}
use Rattle.dtype.specs.Products.{product}
use Rattle.header_codec.specs.declared.types.Layout.{Layout}
use Rattle.header_codec.specs.declared.types.Layout.TheVariants.{Contiguous, Chunked}

-- n numbers of 4 bytes, one behind the other
abbrev pub u32s_at : List ℕ → ℕ → ℕ → List ℕ
u32s_at b at zero = []
u32s_at b at (suc n) = u32_at b at ∷ u32s_at b (at + 4) n

-- Class 1: address 8, size 8.
pub record IsContiguous (b : List ℕ) : Type 0 where
  pub whole : 18 ≤ length b
  pub version : slice_index b 0 ≡ 3
  pub class : slice_index b 1 ≡ 1

-- one more than the rank
abbrev pub dimensionality : List ℕ → ℕ
dimensionality b = slice_index b 2

-- Class 2: dimensionality 1, B-tree address 8, then so many sizes of 4 bytes, the last that of an element.
pub record HasChunkHead (b : List ℕ) : Type 0 where
  pub whole : 11 + 4 * dimensionality b ≤ length b
  pub version : slice_index b 0 ≡ 3
  pub class : slice_index b 1 ≡ 2
  pub few : dimensionality b ≤ 33

-- The sizes of a chunk, one for each of 1 to 32 dimensions and the element's: not empty, and of at most as many bytes
-- as the key of a chunk can tell.
pub record IsChunk (sizes : List ℕ) : Type 0 where
  pub least_rank : 2 ≤ length sizes
  pub most_rank : length sizes ≤ 33
  pub some : All (λ n. 1 ≤ n) sizes
  pub bytes : product sizes < 2 ^ 32

abbrev pub sizes_of : List ℕ → List ℕ
sizes_of b = u32s_at b 11 (dimensionality b)

pub record IsChunked (b : List ℕ) : Type 0 where
  pub head : HasChunkHead b
  pub chunk : IsChunk (sizes_of b)

-- The bytes begin with this layout.
abbrev pub SpellsLayout : Layout → List ℕ → Type 0
SpellsLayout l b =
    (IsContiguous b × (l ≡ Contiguous (u64_at b 2) (u64_at b 10)))
    ⊎ (IsChunked b × (l ≡ Chunked (u64_at b 3) (sizes_of b)))

-- A dataset of this rank whose elements have so many bytes can be stored so.
abbrev pub IsOfShape : (rank size : ℕ) → Layout → Type 0
IsOfShape rank size (Contiguous at len) = Unit {0}
IsOfShape rank size (Chunked tree sizes) = (length sizes ≡ rank + 1) × (slice_index sizes rank ≡ size)
