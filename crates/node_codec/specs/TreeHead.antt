-- What nodes of version-1 B-trees have in common, by the HDF5 File Format Specification 3.0, III.A.1.
-- Cited by the nodes of a group's index and of a chunk index.
use Rattle.std.specs.Prelude.{◌≡◌, ℕ, ◌*◌, ◌^◌, ◌<◌, ◌≤◌, List, [], ◌∷◌, ◌++◌, length, take, slice_index}
use Rattle.std.specs.Int.{w16, w64, to_le_bytes}
use Rattle.h5_base.specs.Fields.{u16_at}

-- `TREE`
abbrev pub tree_signature : List ℕ
tree_signature = 0x54 ∷ 0x52 ∷ 0x45 ∷ 0x45 ∷ []

-- how many children are used
abbrev pub used_of : List ℕ → ℕ
used_of b = u16_at b 6

-- a whole node of this type (0 a group's, 1 of chunks) and size, with room for 2k children
pub record IsTreeNode (type k size : ℕ) (b : List ℕ) : Type 0 where
  pub len : length b ≡ size
  pub signature : take 4 b ≡ tree_signature
  pub kind : slice_index b 4 ≡ type
  pub room : used_of b ≤ 2 * k

-- the 24 bytes before the first key
abbrev pub tree_head : ℕ → ℕ → ℕ → ℕ → ℕ → List ℕ
tree_head type level used left right =
    tree_signature ++ (type ∷ level ∷ []) ++ to_le_bytes w16 used ++ to_le_bytes w64 left ++ to_le_bytes w64 right

abbrev pub IsU64 : ℕ → Type 0
IsU64 n = n < 2 ^ 64
