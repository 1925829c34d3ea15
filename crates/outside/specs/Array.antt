-- A sparse array of bytes by address, and where each class of memory ends in it.
-- Cited by whatever speaks of the bytes of an HDF5 file, whatever files they lie in.
use Rattle.std.specs.Prelude.{◌≡◌, ◌⊎◌, ℕ, ◌+◌, ◌-◌, ◌<◌, ◌≤◌, Bool, ◌&&◌, nat_le, nat_lt, if◌then◌else◌, List}
use Rattle.std.specs.Prelude.{length, map, slice_index}
use Rattle.std.specs.List.{range_with_len}
use Rattle.h5_base.specs.declared.extent.MemClass.{MemClass}

-- The byte at each address, 0 where nothing was written.
abbrev pub Array : Type 0
Array = ℕ → ℕ

-- The end of each class: one past its last address that is taken. Classes of one region have one end.
abbrev pub Ends : Type 0
Ends = MemClass → ℕ

-- the n bytes from an address on
abbrev pub bytes_of : Array → ℕ → ℕ → List ℕ
bytes_of b at n = map b (range_with_len at n)

-- the address is one of n from `at` on
abbrev pub is_within : ℕ → ℕ → ℕ → Bool
is_within at n address = nat_le at address && nat_lt address (at + n)

-- the array with these bytes from `at` on
abbrev pub over : Array → ℕ → List ℕ → Array
over array at bytes = λ address. if is_within at (length bytes) address then slice_index bytes
    (address - at) else array address

-- two arrays have the same bytes outside n from `at` on
abbrev pub SameOutside : ℕ → ℕ → Array → Array → Type 0
SameOutside at n old new = (address : ℕ) → (address < at) ⊎ (at + n ≤ address) → new address ≡ old address

-- the array that has a file's bytes from address 0 on
abbrev pub array_of : List ℕ → Array
array_of file = λ address. slice_index file address
