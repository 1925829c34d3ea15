-- Arrays with the same bytes in blocks have the same bytes in what the blocks cover.
use Rattle.std.proofs.Common.{◌≡◌, ℕ, zero, suc, ◌+◌, ◌<◌, ◌≤◌, false, List, [], ◌∷◌, ◌++◌, refl, arith}
use Rattle.std.specs.Prelude.{◌==◌}
use Rattle.std.proofs.lemmas.Bool.{ne_eqb}
use Rattle.outside.specs.Array.{Array, bytes_of}
use Rattle.outside.specs.Blocks.{Block, placed, Agree}

-- ---- bytes

-- the same n bytes from an address on
abbrev pub Same : Array → Array → ℕ → ℕ → Type 0
Same b c at n = (i : ℕ) → at ≤ i → i < at + n → b i ≡ c i

pub bytes_same : (b c : Array) (at n : ℕ) → Same b c at n → bytes_of b at n ≡ bytes_of c at n
bytes_same b c at zero h = refl
bytes_same b c at (suc n) h =
    let later : Same b c (at + 1) n = λ i low high. h i (omega arith) (omega arith) in
    let first : b at ≡ c at = h at (omega arith) (omega arith) in
    let rest = bytes_same b c (at + 1) n later in
    λ j. first j ∷ rest j

pub within_same : (b c : Array) (at n start len : ℕ) → Same b c start len → start ≤ at → at + n ≤ start + len → Same b c at n
within_same b c at n start len h low high = λ i from below. h i (omega arith) (omega arith)

pub agree_left : (b c : Array) (xs ys : List Block) → Agree b c (xs ++ ys) → Agree b c xs
agree_left b c [] ys h = tt
agree_left b c (x ∷ xs) ys h = (h.0, agree_left b c xs ys h.1)

pub agree_right : (b c : Array) (xs ys : List Block) → Agree b c (xs ++ ys) → Agree b c ys
agree_right b c [] ys h = h
agree_right b c (x ∷ xs) ys h = agree_right b c xs ys h.1

pub agree_both : (b c : Array) (xs ys : List Block) → Agree b c xs → Agree b c ys → Agree b c (xs ++ ys)
agree_both b c [] ys h k = k
agree_both b c (x ∷ xs) ys h k = (h.0, agree_both b c xs ys h.1 k)

pub agree_itself : (b : Array) (xs : List Block) → Agree b b xs
agree_itself b [] = tt
agree_itself b (x ∷ xs) = (λ i low high. refl, agree_itself b xs)

pub placed_same : (b c : Array) (at n : ℕ) → Agree b c (placed at n) → Same b c at n
placed_same b c at zero h = λ i from below. absurd (omega arith)
placed_same b c at (suc n) h = let e : (suc n == 0) ≡ false = ne_eqb (suc n) 0 (λ z. omega arith) in (rw e at h).0
