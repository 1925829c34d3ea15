-- Blocks that are kept are so in any order.
use Rattle.std.proofs.Common.{◌≡◌, ◌+◌, ◌<◌, Bool, true, false, nat_lt, List, [], ◌∷◌, ◌++◌, refl, sym, ◌∙◌, inl, inr, arith}
use Rattle.std.specs.Prelude.{◌&&◌}
use Rattle.std.specs.List.{AllByRecursion, IsDistinct}
use Rattle.std.specs.List.Sorted.{IsPermutation}
use Rattle.std.proofs.Math.Bool.{and_comm}
use Rattle.std.proofs.lemmas.Bool.Decides.{nat_tests}
use Rattle.std.proofs.lemmas.List.Elements.{All-from_recursion, recursion_from_All}
use Rattle.std.proofs.lemmas.List.Sorted.{All-permutation}
use Rattle.std.proofs.lemmas.Map.Keys.{IsDistinct-IsPermutation}
use Rattle.outside.specs.Blocks.{Block, Bounds, AreApart, IsApart, AllApart, IsInside, AllInside, AllSome, AreKept, Agree}
use Rattle.outside.specs.Array.{Array}
use Rattle.file_model.specs.EditLaws.{ApartOrder, KeptOrder, KeptTogether, AreApartFrom, ApartFromOrder, ApartFromParts, AgreeOrder, AgreeThrough, AgreeApart}
use Rattle.file_model.proofs.FrameBytes.{Same}

-- ---- apart

share : Block → Block → Bool
share x y = nat_lt x.start (y.start + y.len) && nat_lt y.start (x.start + x.len)

share_flips : (x y : Block) → share x y ≡ share y x
unfolding share
share_flips x y = and_comm (nat_lt x.start (y.start + y.len)) (nat_lt y.start (x.start + x.len))

none_shared : (x y : Block) → AreApart x y → share x y ≡ false
unfolding share
none_shared x y (inl h) = grind (arith, nat_tests)
none_shared x y (inr h) = grind (arith, nat_tests)

apart_of : (x y : Block) → share x y ≡ false → AreApart x y
unfolding share
apart_of x y h = go (nat_lt x.start (y.start + y.len)) refl (nat_lt y.start (x.start + x.len)) refl h
  where
    go : (a : Bool) → nat_lt x.start (y.start + y.len) ≡ a → (b : Bool) → nat_lt y.start (x.start + x.len) ≡ b → (a && b) ≡ false → AreApart x y
    go false p b q h = inr (grind (arith, nat_tests))
    go true p false q h = inl (grind (arith, nat_tests))
    go true p true q h = cc

distinct : (xs : List Block) → AllApart xs → IsDistinct share xs
unfolding IsDistinct
distinct [] h = tt
distinct (x ∷ xs) h = (each xs h.0, distinct xs h.1)
  where
    each : (ys : List Block) → IsApart x ys → AllByRecursion (λ y. share x y ≡ false) ys
    each [] k = tt
    each (y ∷ ys) k = (none_shared x y k.0, each ys k.1)

all_apart : (xs : List Block) → IsDistinct share xs → AllApart xs
unfolding IsDistinct
all_apart [] h = tt
all_apart (x ∷ xs) h = (each xs h.0, all_apart xs h.1)
  where
    each : (ys : List Block) → AllByRecursion (λ y. share x y ≡ false) ys → IsApart x ys
    each [] k = tt
    each (y ∷ ys) k = (apart_of x y k.0, each ys k.1)

pub apart_order : ApartOrder
apart_order xs ys moved h = all_apart ys (IsDistinct-IsPermutation share share_flips xs ys moved (distinct xs h))

-- ---- kept

some_each : (xs : List Block) → AllSome xs → AllByRecursion (λ x. 0 < x.len) xs
some_each [] h = tt
some_each (x ∷ xs) h = (h.0, some_each xs h.1)

each_some : (xs : List Block) → AllByRecursion (λ x. 0 < x.len) xs → AllSome xs
each_some [] h = tt
each_some (x ∷ xs) h = (h.0, each_some xs h.1)

inside_each : (e : Bounds) (xs : List Block) → AllInside e xs → AllByRecursion (IsInside e) xs
inside_each e [] h = tt
inside_each e (x ∷ xs) h = (h.0, inside_each e xs h.1)

each_inside : (e : Bounds) (xs : List Block) → AllByRecursion (IsInside e) xs → AllInside e xs
each_inside e [] h = tt
each_inside e (x ∷ xs) h = (h.0, each_inside e xs h.1)

each_order : (P : Block → Type 0) (xs ys : List Block) → IsPermutation xs ys → AllByRecursion P xs → AllByRecursion P ys
each_order P xs ys moved h = recursion_from_All P ys (All-permutation P xs ys moved (All-from_recursion P xs h))

pub kept_order : KeptOrder
kept_order e xs ys moved h = record {
  some = each_some ys (each_order (λ x. 0 < x.len) xs ys moved (some_each xs h.some));
  apart = apart_order xs ys moved h.apart;
  inside = each_inside e ys (each_order (IsInside e) xs ys moved (inside_each e xs h.inside));
}

-- ---- together

flip_apart : (x y : Block) → AreApart x y → AreApart y x
flip_apart x y (inl h) = inr h
flip_apart x y (inr h) = inl h

part_apart : (x : Block) (xs ys : List Block) → IsApart x (xs ++ ys) → IsApart x xs × IsApart x ys
part_apart x [] ys h = (tt, h)
part_apart x (z ∷ zs) ys h = let rest = part_apart x zs ys h.1 in ((h.0, rest.0), rest.1)

both_apart : (x : Block) (xs ys : List Block) → IsApart x xs → IsApart x ys → IsApart x (xs ++ ys)
both_apart x [] ys h k = k
both_apart x (z ∷ zs) ys h k = (h.0, both_apart x zs ys h.1 k)

apart_more : (x : Block) (xs ys : List Block) → IsApart x ys → AreApartFrom ys xs → AreApartFrom ys (x ∷ xs)
apart_more x xs [] h k = tt
apart_more x xs (y ∷ ys) h k = ((flip_apart x y h.0, k.0), apart_more x xs ys h.1 k.1)

apart_fewer : (x : Block) (xs ys : List Block) → AreApartFrom ys (x ∷ xs) → IsApart x ys × AreApartFrom ys xs
apart_fewer x xs [] h = (tt, tt)
apart_fewer x xs (y ∷ ys) h =
    let rest = apart_fewer x xs ys h.1 in
    ((flip_apart y x h.0.0, rest.0), (h.0.1, rest.1))

apart_none : (ys : List Block) → AreApartFrom ys []
apart_none [] = tt
apart_none (y ∷ ys) = (tt, apart_none ys)

parts_of : (e : Bounds) (xs ys : List Block) → AreKept e (xs ++ ys) → AreKept e xs × AreKept e ys × AreApartFrom ys xs
parts_of e [] ys h = (record { some = tt; apart = tt; inside = tt }, h, apart_none ys)
parts_of e (x ∷ xs) ys h =
    let first = part_apart x xs ys h.apart.0 in
    let rest = parts_of e xs ys (record { some = h.some.1; apart = h.apart.1; inside = h.inside.1 }) in (
      record { some = (h.some.0, rest.0.some); apart = (first.0, rest.0.apart); inside = (h.inside.0, rest.0.inside) },
      rest.1,
      apart_more x xs ys first.1 rest.2,
    )

pub kept_both : (e : Bounds) (xs ys : List Block) → AreKept e xs → AreKept e ys → AreApartFrom ys xs → AreKept e (xs ++ ys)
kept_both e [] ys h k apart = k
kept_both e (x ∷ xs) ys h k apart =
    let first = apart_fewer x xs ys apart in
    let rest = kept_both e xs ys (record { some = h.some.1; apart = h.apart.1; inside = h.inside.1 }) k first.1 in
    record { some = (h.some.0, rest.some); apart = (both_apart x xs ys h.apart.0 first.0, rest.apart); inside = (h.inside.0, rest.inside) }

pub kept_together : KeptTogether
kept_together e xs ys = (parts_of e xs ys, λ h. kept_both e xs ys h.0 h.1 h.2)

-- ---- apart from a list

from_each : (xs zs : List Block) → AreApartFrom xs zs → AllByRecursion (λ x. IsApart x zs) xs
from_each [] zs h = tt
from_each (x ∷ xs) zs h = (h.0, from_each xs zs h.1)

each_from : (xs zs : List Block) → AllByRecursion (λ x. IsApart x zs) xs → AreApartFrom xs zs
each_from [] zs h = tt
each_from (x ∷ xs) zs h = (h.0, each_from xs zs h.1)

pub apart_from_order : ApartFromOrder
apart_from_order xs ys zs moved h = each_from ys zs (each_order (λ x. IsApart x zs) xs ys moved (from_each xs zs h))

pub apart_from_parts : ApartFromParts
apart_from_parts xs ys zs = (parts xs, both xs)
  where
    parts : (xs : List Block) → AreApartFrom (xs ++ ys) zs → AreApartFrom xs zs × AreApartFrom ys zs
    parts [] h = (tt, h)
    parts (x ∷ xs) h = let rest = parts xs h.1 in ((h.0, rest.0), rest.1)

    both : (xs : List Block) → AreApartFrom xs zs × AreApartFrom ys zs → AreApartFrom (xs ++ ys) zs
    both [] h = h.1
    both (x ∷ xs) h = (h.0.0, both xs (h.0.1, h.1))

-- ---- bytes that stay

agree_each : (b c : Array) (xs : List Block) → Agree b c xs → AllByRecursion (λ x. Same b c x.start x.len) xs
agree_each b c [] h = tt
agree_each b c (x ∷ xs) h = (h.0, agree_each b c xs h.1)

each_agree : (b c : Array) (xs : List Block) → AllByRecursion (λ x. Same b c x.start x.len) xs → Agree b c xs
each_agree b c [] h = tt
each_agree b c (x ∷ xs) h = (h.0, each_agree b c xs h.1)

pub agree_order : AgreeOrder
agree_order b c xs ys moved h = each_agree b c ys (each_order (λ x. Same b c x.start x.len) xs ys moved (agree_each b c xs h))

pub agree_through : AgreeThrough
agree_through b c d [] h k = tt
agree_through b c d (x ∷ xs) h k = (λ i low high. h.0 i low high ∙ k.0 i low high, agree_through b c d xs h.1 k.1)

pub agree_apart : AgreeApart
agree_apart b c x [] same h = tt
agree_apart b c x (y ∷ ys) same h = (one h.0, agree_apart b c x ys same h.1)
  where
    one : AreApart x y → Same b c y.start y.len
    one (inl before) = λ i low high. sym (same i (inr (omega arith)))
    one (inr behind) = λ i low high. sym (same i (inl (omega arith)))
