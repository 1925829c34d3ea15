-- Boxes of indices, and the row-major order of the indices of a dataset.
-- Cited by the elements of a dataset, in the tree and in a file.
use Rattle.std.specs.Prelude.{ℕ, ◌+◌, ◌-◌, ◌*◌, ◌/◌, Bool, true, false, ◌&&◌, nat_le, nat_lt, List, [], ◌∷◌, map}
use Rattle.std.specs.Prelude.{length, ◌==◌}
use Rattle.std.specs.List.{flat_map, range_with_len}
use Rattle.dtype.specs.Products.{product}

-- each index of a box of these sizes, in row-major order: the last coordinate runs fastest
abbrev pub indices : List ℕ → List (List ℕ)
indices [] = [] ∷ []
indices (d ∷ ds) = flat_map (λ i. map (λ is. i ∷ is) (indices ds)) (range_with_len 0 d)

-- the row-major place of an index
abbrev pub place : List ℕ → List ℕ → ℕ
place [] is = 0
place (d ∷ ds) [] = 0
place (d ∷ ds) (i ∷ is) = i * product ds + place ds is

-- coordinate by coordinate
abbrev pub plus : List ℕ → List ℕ → List ℕ
plus [] ys = []
plus (x ∷ xs) [] = []
plus (x ∷ xs) (y ∷ ys) = (x + y) ∷ plus xs ys

abbrev pub minus : List ℕ → List ℕ → List ℕ
minus [] ys = []
minus (x ∷ xs) [] = []
minus (x ∷ xs) (y ∷ ys) = (x - y) ∷ minus xs ys

-- of one rank, each number at most the other list's number at its place
abbrev pub all_le : List ℕ → List ℕ → Bool
all_le [] [] = true
all_le [] (y ∷ ys) = false
all_le (x ∷ xs) [] = false
all_le (x ∷ xs) (y ∷ ys) = nat_le x y && all_le xs ys

abbrev pub all_lt : List ℕ → List ℕ → Bool
all_lt [] [] = true
all_lt [] (y ∷ ys) = false
all_lt (x ∷ xs) [] = false
all_lt (x ∷ xs) (y ∷ ys) = nat_lt x y && all_lt xs ys

abbrev pub same_rank : List ℕ → List ℕ → Bool
same_rank xs ys = length xs == length ys

-- the index lies in the box that starts there
abbrev pub in_box : List ℕ → List ℕ → List ℕ → Bool
in_box start count i = all_le start i && all_lt i (plus start count)

-- each coordinate rounded down to a multiple of the chunk's size
abbrev pub floor_to : List ℕ → List ℕ → List ℕ
floor_to [] is = []
floor_to (c ∷ cs) [] = []
floor_to (c ∷ cs) (i ∷ is) = (i / c * c) ∷ floor_to cs is
