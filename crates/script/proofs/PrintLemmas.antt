-- Printing elements one after another.
use Rattle.std.proofs.Common.{◌≡◌, ℕ, zero, suc, ◌+◌, ◌<◌, List, [], ◌∷◌, ◌++◌, length, get_or, take, sym, ap, ◌∙◌, arith}
use Rattle.std.specs.List.{flat_map, range_with_len}
use Rattle.std.proofs.lemmas.List.{flat_map_more, take_more}

range-more : (a n : ℕ) → range_with_len a (suc n) ≡ range_with_len a n ++ (a + n) ∷ []
range-more a zero = let same : a ≡ a + 0 = omega arith in ap (λ x. x ∷ []) same
range-more a (suc n) =
    let same : (a + 1) + n ≡ a + suc n = omega arith in
    ap (λ (xs : List ℕ). a ∷ xs) (range-more (a + 1) n ∙ ap (λ x. range_with_len (a + 1) n ++ x ∷ []) same)

range-next : (n : ℕ) → range_with_len 0 (n + 1) ≡ range_with_len 0 n ++ n ∷ []
range-next n =
    let one : n + 1 ≡ suc n = omega arith in
    let same : 0 + n ≡ n = omega arith in
    ap (range_with_len 0) one ∙ range-more 0 n ∙ ap (λ x. range_with_len 0 n ++ x ∷ []) same

-- one element more
pub more_values : (f : ℕ → List ℕ) (start now new : List ℕ) (i : ℕ) → now ≡ start ++ flat_map f (range_with_len 0 i) → new ≡ now ++ f i
    → new ≡ start ++ flat_map f (range_with_len 0 (i + 1))
more_values f start now new i e h =
    h ∙ ap (λ (xs : List ℕ). xs ++ f i) e ∙ flat_map_more f start (range_with_len 0 i) i ∙ ap (λ (is : List ℕ). start ++ flat_map f is) (sym (range-next i))

-- ---- one item more

pub more_items : {X : Type 0} (f : X → List ℕ) (start now new : List ℕ) (xs : List X) (i : ℕ) (d : X) → i < length xs → now ≡ start ++ flat_map f (take i xs) → new ≡ now ++ f (get_or xs i d) → new ≡ start ++ flat_map f (take (i + 1) xs)
more_items f start now new xs i d lt e h =
    h ∙ ap (λ (ys : List ℕ). ys ++ f (get_or xs i d)) e ∙ flat_map_more f start (take i xs) (get_or xs i d) ∙ ap (λ ys. start ++ flat_map f ys) (sym (take_more xs i d lt))
