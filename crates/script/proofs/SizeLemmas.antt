-- Lists of sizes, compared size by size.
use Rattle.std.proofs.Common.{◌≡◌, ℕ, zero, suc, ◌<◌, ◌≤◌, Bool, true, false, List, [], ◌∷◌, length, get_or, refl, arith}
use Rattle.std.specs.Prelude.{nat_le, ◌&&◌}
use Rattle.std.proofs.lemmas.Bool.Decides.{nat_tests}
use Rattle.object_model.specs.Boxes.{all_le}

and_false : (b : Bool) → (b && false) ≡ false
and_false true = refl
and_false false = refl

above : (x y : ℕ) → y < x → nat_le x y ≡ false
above x y h = grind (arith, nat_tests)

-- one size above the other
pub not_all_le : (xs ys : List ℕ) (i : ℕ) → i < length xs → i < length ys → get_or ys i 0 < get_or xs i 0 → all_le xs ys ≡ false
not_all_le [] ys i lt lt' h = absurd (omega (arith, lt))
not_all_le (x ∷ xs) [] i lt lt' h = absurd (omega (arith, lt'))
not_all_le (x ∷ xs) (y ∷ ys) zero lt lt' h = rw (above x y h) refl
not_all_le (x ∷ xs) (y ∷ ys) (suc i) lt lt' h = rw (not_all_le xs ys i (omega (arith, lt)) (omega (arith, lt')) h) (and_false (nat_le x y))

-- another rank
pub not_ranked : (xs ys : List ℕ) → (length xs ≡ length ys → ⊥) → all_le xs ys ≡ false
not_ranked [] [] ne = absurd (ne refl)
not_ranked [] (y ∷ ys) ne = refl
not_ranked (x ∷ xs) [] ne = refl
not_ranked (x ∷ xs) (y ∷ ys) ne = rw (not_ranked xs ys (λ e. ne (omega (arith, e)))) (and_false (nat_le x y))

within : (x y : ℕ) → x ≤ y → nat_le x y ≡ true
within x y h = grind (arith, nat_tests)

pub each_le : (xs ys : List ℕ) → length xs ≡ length ys → ((k : ℕ) → k < length xs → get_or xs k 0 ≤ get_or ys k 0) → all_le xs ys ≡ true
each_le [] [] e h = refl
each_le [] (y ∷ ys) e h = absurd (omega (arith, e))
each_le (x ∷ xs) [] e h = absurd (omega (arith, e))
each_le (x ∷ xs) (y ∷ ys) e h =
    let first : x ≤ y = h 0 (omega arith) in
    let rest : all_le xs ys ≡ true = each_le xs ys (omega (arith, e)) (λ k lt. h (suc k) (omega (arith, lt))) in
    rw (within x y first, rest) refl
