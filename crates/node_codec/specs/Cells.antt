-- Arrays of cells of one width: where they stand in a block, and the bytes of a block that holds them.
-- Cited by the nodes of both B-trees and by the symbol table node.
use Rattle.std.specs.Prelude.{ℕ, zero, suc, ◌-◌, List, [], ◌∷◌, ◌++◌, length, take, drop, replicate}

-- the first n cells of `width` bytes, each `step` bytes behind the one before
abbrev pub cells : ℕ → ℕ → ℕ → List ℕ → List (List ℕ)
cells width step zero b = []
cells width step (suc n) b = take width b ∷ cells width step n (drop step b)

-- a key, a child, the next key, the next child, and so on to the last key
abbrev pub woven : List (List ℕ) → List (List ℕ) → List ℕ
woven [] children = []
woven (key ∷ keys) [] = key
woven (key ∷ keys) (child ∷ children) = key ++ (child ++ woven keys children)

-- with bytes 0 behind them, up to a block's length
abbrev pub padded : ℕ → List ℕ → List ℕ
padded len b = b ++ replicate (len - length b) 0
