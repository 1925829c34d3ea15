-- Numbers in a list of bytes, the low byte first, and a write that changes only its own bytes.
-- Cited by each codec of a block or a message.
use Rattle.std.specs.Prelude.{◌≡◌, ℕ, zero, suc, ◌+◌, List, [], ◌∷◌, ◌++◌, length, take, drop, flat_map}
use Rattle.std.specs.Int.{w16, w32, w64, from_le_bytes, to_le_bytes}

-- an address that is undefined: all its bits are set (HDF5 File Format Specification 3.0, I)
abbrev pub undefined : ℕ
undefined = 0xFFFF_FFFF_FFFF_FFFF

-- the n bytes that stand from `at` on
abbrev pub bytes_at : List ℕ → ℕ → ℕ → List ℕ
bytes_at b at n = take n (drop at b)

-- the numbers of 2, 4 and 8 bytes that stand from `at` on
unfoldable pub u16_at : List ℕ → ℕ → ℕ
u16_at b at = from_le_bytes w16 (bytes_at b at 2)

unfoldable pub u32_at : List ℕ → ℕ → ℕ
u32_at b at = from_le_bytes w32 (bytes_at b at 4)

unfoldable pub u64_at : List ℕ → ℕ → ℕ
u64_at b at = from_le_bytes w64 (bytes_at b at 8)

-- new is old with the bytes from `at` on replaced by these
pub record Puts (old new : List ℕ) (at : ℕ) (bytes : List ℕ) : Type 0 where
  pub front : take (at + length bytes) new ≡ take at old ++ bytes
  pub rest : drop (at + length bytes) new ≡ drop (at + length bytes) old

-- n numbers of 8 bytes, each `step` bytes after the one before
abbrev pub u64s_at : List ℕ → ℕ → ℕ → ℕ → List ℕ
u64s_at b at step zero = []
u64s_at b at step (suc n) = u64_at b at ∷ u64s_at b (at + step) step n

-- numbers as 8 bytes each
abbrev pub u64s_bytes : List ℕ → List ℕ
u64s_bytes = flat_map (to_le_bytes w64)
