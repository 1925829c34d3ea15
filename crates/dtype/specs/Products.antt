-- How many elements a dataset has, and the most bytes of all of them together.
-- Cited by `Dims::byte_len`, and by what joins a dataset's type and space.
use Rattle.std.specs.Prelude.{ℕ, ◌-◌, ◌*◌, ◌^◌, ◌≤◌, List, [], ◌∷◌}

-- the number of elements
abbrev pub product : List ℕ → ℕ
product [] = 1
product (n ∷ ns) = n * product ns

-- all elements together have at most 2^63 - 1 bytes
abbrev pub FitsFile : (dims : List ℕ) (size : ℕ) → Type 0
FitsFile dims size = product dims * size ≤ 2 ^ 63 - 1
