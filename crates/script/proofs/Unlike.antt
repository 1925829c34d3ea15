-- Two lists that a test tells apart.
use Rattle.std.proofs.Common.{◌≡◌, ℕ, Bool, true, false, List, [], ◌∷◌, refl, subst, arith}
use Rattle.std.specs.Prelude.{◌==◌, ◌&&◌}
use Rattle.std.proofs.lemmas.Bool.Decides.{nat_tests}

abbrev pub alike : List ℕ → List ℕ → Bool
alike [] [] = true
alike [] (y ∷ ys) = false
alike (x ∷ xs) [] = false
alike (x ∷ xs) (y ∷ ys) = x == y && alike xs ys

itself : (x : ℕ) → (x == x) ≡ true
itself x = grind (arith, nat_tests)

alike_itself : (xs : List ℕ) → alike xs xs ≡ true
alike_itself [] = refl
alike_itself (x ∷ xs) = rw (itself x, alike_itself xs) refl

pub unlike : (xs ys : List ℕ) → alike xs ys ≡ false → xs ≡ ys → ⊥
unlike xs ys f e = let t : alike xs ys ≡ true = subst (λ (zs : List ℕ). alike xs zs ≡ true) e (alike_itself xs) in cc
