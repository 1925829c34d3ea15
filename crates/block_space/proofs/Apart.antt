-- Lists of blocks that are apart, and that lie inside.
use Rattle.std.proofs.Common.{◌≡◌, zero, suc, ◌⊎◌, inl, inr, ◌++◌, ◌∷◌, [], List, sym, ◌∙◌, subst, arith, refl}
use Rattle.std.specs.List.{Contains}
use Rattle.outside.specs.Blocks.{Block, Bounds, AreApart, IsApart, AllApart, IsInside, AllInside}

pub contains_cons : {X : Type 0} (y : X) (ys : List X) (x : X) → Contains (y ∷ ys) x → (y ≡ x) ⊎ Contains ys x
contains_cons y ys x (zero, l, e) = inl e
contains_cons y ys x (suc k, l, e) = inr (k, omega arith, e)

pub contains_head : {X : Type 0} (y : X) (ys : List X) → Contains (y ∷ ys) y
contains_head y ys = (0, omega arith, refl)

pub contains_tail : {X : Type 0} (y : X) (ys : List X) (x : X) → Contains ys x → Contains (y ∷ ys) x
contains_tail y ys x (k, l, e) = (suc k, omega arith, e)

pub none_contained : {X : Type 0} (x : X) → Contains [] x → ⊥
none_contained x (k, l, e) = omega arith

pub turned : (x y : Block) → AreApart x y → AreApart y x
turned x y (inl a) = inr a
turned x y (inr a) = inl a

pub apart_from_each : (x : Block) (ys : List Block) → ((y : Block) → Contains ys y → AreApart x y) → IsApart x ys
apart_from_each x [] each = tt
apart_from_each x (y ∷ ys) each = (each y (contains_head y ys), apart_from_each x ys (λ z h. each z (contains_tail y ys z h)))

pub each_apart : (x : Block) (ys : List Block) → IsApart x ys → (y : Block) → Contains ys y → AreApart x y
each_apart x [] apart y h = absurd (none_contained y h)
each_apart x (z ∷ zs) apart y h = elim (contains_cons z zs y h) [
  | inl e ↦ subst (AreApart x) e apart.0
  | inr later ↦ each_apart x zs apart.1 y later
]

same_or_apart_by : (z : Block) (zs : List Block) → IsApart z zs → (x y : Block) → (z ≡ x) ⊎ Contains zs x → (z ≡ y) ⊎ Contains zs y
    → (Contains zs x → Contains zs y → (x ≡ y) ⊎ AreApart x y) → (x ≡ y) ⊎ AreApart x y
same_or_apart_by z zs first x y (inl p) (inl q) later = inl (sym p ∙ q)
same_or_apart_by z zs first x y (inl p) (inr q) later = inr (subst (λ (w : Block). AreApart w y) p (each_apart z zs first y q))
same_or_apart_by z zs first x y (inr p) (inl q) later = inr (subst (AreApart x) q (turned z x (each_apart z zs first x p)))
same_or_apart_by z zs first x y (inr p) (inr q) later = later p q

pub same_or_apart : (xs : List Block) → AllApart xs → (x y : Block) → Contains xs x → Contains xs y → (x ≡ y) ⊎ AreApart x y
same_or_apart [] apart x y hx hy = absurd (none_contained x hx)
same_or_apart (z ∷ zs) apart x y hx hy = same_or_apart_by z zs apart.0 x y (contains_cons z zs x hx) (contains_cons z zs y hy) (same_or_apart zs apart.1 x y)

is_apart_push : (x : Block) (ys : List Block) (y : Block) → IsApart x ys → AreApart x y → IsApart x (ys ++ y ∷ [])
is_apart_push x [] y apart last = (last, tt)
is_apart_push x (z ∷ zs) y apart last = (apart.0, is_apart_push x zs y apart.1 last)

pub all_apart_push : (xs : List Block) (x : Block) → AllApart xs → IsApart x xs → AllApart (xs ++ x ∷ [])
all_apart_push [] x all apart = (tt, tt)
all_apart_push (y ∷ ys) x all apart = (is_apart_push y ys x all.0 (turned x y apart.0), all_apart_push ys x all.1 apart.1)

pub all_inside_push : (e : Bounds) (xs : List Block) (x : Block) → AllInside e xs → IsInside e x → AllInside e (xs ++ x ∷ [])
all_inside_push e [] x all here = (here, tt)
all_inside_push e (y ∷ ys) x all here = (all.0, all_inside_push e ys x all.1 here)
