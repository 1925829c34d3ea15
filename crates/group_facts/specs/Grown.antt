-- How far rows grow for one more below them. HDF5 File Format Specification 3.0, III.A.1.
-- Cited by what plans one link more.
use Rattle.std.specs.Prelude.{◌≡◌, ◌⊎◌, ℕ, ◌+◌, ◌<◌, ◌≤◌, ◌^◌, List, [], ◌∷◌, ◌++◌, length}
use Rattle.group_layout.specs.Rows.{HaveRoom}
use Rattle.group_layout.specs.Growth.{AreWider}

-- A row of two comes under the root only where all rows are full, so that there are many below.
abbrev pub FewLevels : Type 0
FewLevels = (room old below tree : ℕ) (rows wider : List (List ℕ)) → 2 ≤ room → below ≤ old + 1
    → HaveRoom room old (rows ++ (tree ∷ []) ∷ []) → AreWider room below rows wider
    → (length wider ≡ length rows) ⊎ ((length wider ≡ length rows + 1) × (2 ^ (length rows + 1) < below + 1))
