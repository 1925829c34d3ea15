-- Which bytes spell which superblock, versions 0 and 1, and why others don't: HDF5 File Format Specification 3.0, II.A.
-- Cited by `read_super` and `write_super`, and by whatever says which superblock a file has.
use Rattle.std.specs.Prelude.{◌≡◌, ℕ, ◌+◌, ◌^◌, ◌≤◌, ◌<◌, ◌==◌, nat_le, Bool, ◌&&◌, ◌||◌, not, List, [], ◌∷◌, ◌++◌}
use Rattle.std.specs.Prelude.{length, take, drop, slice_index, if◌then◌else◌, replicate}
use Rattle.std.specs.declared.option.Option.{Option}
use Rattle.std.specs.declared.option.Option.TheVariants.{Some, None}
use Rattle.std.specs.Int.{w16, w32, w64, to_le_bytes}
use Rattle.std.specs.Str.{bytes_eq}
use Rattle.h5_base.specs.declared.What.{What}
use Rattle.h5_base.specs.declared.What.TheVariants as what
use Rattle.h5_base.specs.Fields.{u16_at, u32_at, u64_at}
use Rattle.super_codec.specs.declared.superblock.Superblock.{Superblock}
use Rattle.super_codec.specs.declared.superblock.RootEntry.{RootEntry}
use Rattle.super_codec.specs.declared.superblock.SuperStop.{SuperStop}
use Rattle.super_codec.specs.declared.superblock.SuperStop.TheVariants as stop

abbrev pub signature : List ℕ
signature = 0x89 ∷ 0x48 ∷ 0x44 ∷ 0x46 ∷ 0x0D ∷ 0x0A ∷ 0x1A ∷ 0x0A ∷ []

abbrev pub version_of : List ℕ → ℕ
version_of b = slice_index b 8

-- where the base address stands: version 1 has four bytes more before it
abbrev pub base_at : ℕ → ℕ
base_at version = if version == 1 then 28 else 24

-- 96 bytes, or 100
abbrev pub super_len : ℕ → ℕ
super_len version = base_at version + 72

-- the bytes from the base address on
abbrev pub rest_of : List ℕ → List ℕ
rest_of b = drop (base_at (version_of b)) b

-- the K of indexed storage, which version 0 doesn't store
abbrev pub chunk_k_of : List ℕ → ℕ
chunk_k_of b = if version_of b == 1 then u16_at b 24 else 32

abbrev pub IsK : ℕ → Type 0
IsK k = (1 ≤ k) × (k ≤ 1024)

-- what bytes have to be, to begin with a superblock
pub record IsSuper (b : List ℕ) : Type 0 where
  pub signed : take 8 b ≡ signature
  pub version : version_of b ≤ 1
  pub whole : super_len (version_of b) ≤ length b
  pub free_space_version : slice_index b 9 ≡ 0
  pub root_version : slice_index b 10 ≡ 0
  pub shared_version : slice_index b 12 ≡ 0
  pub offsets : slice_index b 13 ≡ 8
  pub lengths : slice_index b 14 ≡ 8
  pub base : u64_at (rest_of b) 0 ≡ 0
  pub leaf_k : IsK (u16_at b 16)
  pub internal_k : IsK (u16_at b 18)
  pub chunk_k : IsK (chunk_k_of b)

-- the root group's entry, 32 bytes behind the base address: a link name offset of 8 bytes comes first in it, and 4
-- reserved bytes stand behind the cache type
abbrev pub root_in : List ℕ → RootEntry
root_in rest = record {
  header_at = u64_at rest 40;
  cache = u32_at rest 48;
  tree_at = u64_at rest 56;
  heap_at = u64_at rest 64;
}

-- the superblock that begins the bytes
abbrev pub fields : List ℕ → Superblock
fields b = record {
  version = version_of b;
  leaf_k = u16_at b 16;
  internal_k = u16_at b 18;
  chunk_k = chunk_k_of b;
  flags = u32_at b 20;
  free_at = u64_at (rest_of b) 8;
  end_at = u64_at (rest_of b) 16;
  driver_at = u64_at (rest_of b) 24;
  root = root_in (rest_of b);
}

-- The bytes begin with this superblock.
pub record Spells (s : Superblock) (b : List ℕ) : Type 0 where
  pub block : IsSuper b
  pub value : s ≡ fields b

-- ---- why nothing is read

abbrev pub is_signed : List ℕ → Bool
is_signed b = bytes_eq (take 8 b) signature

abbrev pub is_k : ℕ → Bool
is_k k = nat_le 1 k && nat_le k 1024

-- a field of so many bytes lies whole in the bytes, and isn't good
abbrev pub is_wrong : List ℕ → ℕ → ℕ → Bool → Bool
is_wrong b at size good = nat_le (at + size) (length b) && not good

abbrev pub has_wrong_version : List ℕ → Bool
has_wrong_version b = is_wrong b 8 1 (nat_le (version_of b) 1)

abbrev pub has_wrong_sizes : List ℕ → Bool
has_wrong_sizes b = is_wrong b 13 1 (slice_index b 13 == 8) || is_wrong b 14 1 (slice_index b 14 == 8)

abbrev pub has_wrong_base : List ℕ → Bool
has_wrong_base b = is_wrong b (base_at (version_of b)) 8 (u64_at (rest_of b) 0 == 0)

abbrev pub has_wrong_k_at : List ℕ → ℕ → Bool
has_wrong_k_at b at = is_wrong b at 2 (is_k (u16_at b at))

abbrev pub has_wrong_k : List ℕ → Bool
has_wrong_k b = has_wrong_k_at b 16 || has_wrong_k_at b 18 || (version_of b == 1 && has_wrong_k_at b 24)

-- what signed bytes ask for that isn't supported, the first in this order
abbrev pub unsupported_of : List ℕ → Option What
unsupported_of b =
    if has_wrong_version b then Some what.Superblock
    else (if has_wrong_sizes b then Some what.Sizes
    else (if has_wrong_base b then Some what.UserBlock
    else (if has_wrong_k b then Some what.K
    else None)))

abbrev pub stop_for : Option What → SuperStop
stop_for None = stop.NotThis
stop_for (Some w) = stop.Unsupported w

-- why bytes that spell no superblock are refused
abbrev pub stop_of : List ℕ → SuperStop
stop_of b = if is_signed b then stop_for (unsupported_of b) else stop.NotThis

-- what is judged last, and never unsupported
pub record HasRest (b : List ℕ) : Type 0 where
  pub whole : super_len (version_of b) ≤ length b
  pub free_space_version : slice_index b 9 ≡ 0
  pub root_version : slice_index b 10 ≡ 0
  pub shared_version : slice_index b 12 ≡ 0

-- ---- writing

-- the root group's entry, its link name offset and its reserved bytes 0
abbrev pub root_bytes : RootEntry → List ℕ
root_bytes r =
    replicate 8 0 ++ to_le_bytes w64 r.header_at ++ to_le_bytes w32 r.cache ++ replicate 4 0 ++ to_le_bytes w64
    r.tree_at ++ to_le_bytes w64 r.heap_at

-- from the base address on, which is 0
abbrev pub rest_bytes : Superblock → List ℕ
rest_bytes s =
    replicate 8 0 ++ to_le_bytes w64 s.free_at ++ to_le_bytes w64 s.end_at ++ to_le_bytes w64 s.driver_at ++ root_bytes
    s.root

abbrev pub head_bytes : Superblock → List ℕ
head_bytes s =
    signature ++ (s.version ∷ 0 ∷ 0 ∷ 0 ∷ 0 ∷ 8 ∷ 8 ∷ 0 ∷ []) ++ to_le_bytes w16 s.leaf_k ++ to_le_bytes w16
    s.internal_k ++ to_le_bytes w32 s.flags

abbrev pub chunk_k_bytes : Superblock → List ℕ
chunk_k_bytes s = if s.version == 1 then (to_le_bytes w16 s.chunk_k ++ replicate 2 0) else []

-- the spelling that is written: what is reserved is 0
abbrev pub super_bytes : Superblock → List ℕ
super_bytes s = head_bytes s ++ chunk_k_bytes s ++ rest_bytes s

-- the superblocks that have a spelling
pub record Fits (s : Superblock) : Type 0 where
  pub version : s.version ≤ 1
  pub leaf_k : IsK s.leaf_k
  pub internal_k : IsK s.internal_k
  pub chunk_k : IsK s.chunk_k
  pub fixed_k : s.version ≡ 0 → s.chunk_k ≡ 32

-- each number fits its type
pub record InRange (s : Superblock) : Type 0 where
  pub leaf_k : s.leaf_k < 2 ^ 16
  pub internal_k : s.internal_k < 2 ^ 16
  pub chunk_k : s.chunk_k < 2 ^ 16
  pub flags : s.flags < 2 ^ 32
  pub free_at : s.free_at < 2 ^ 64
  pub end_at : s.end_at < 2 ^ 64
  pub driver_at : s.driver_at < 2 ^ 64
  pub header_at : s.root.header_at < 2 ^ 64
  pub cache : s.root.cache < 2 ^ 32
  pub tree_at : s.root.tree_at < 2 ^ 64
  pub heap_at : s.root.heap_at < 2 ^ 64
