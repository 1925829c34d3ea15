-- A block that is kept beside those before it isn't refused.
use Rattle.std.proofs.Common.{◌≡◌, ◌⊎◌, ℕ, zero, suc, ◌<◌, ◌≤◌, List, [], ◌∷◌, ◌++◌, length, refl, sym, subst, arith, inl, inr, false, ◌==◌}
use Rattle.std.proofs.lemmas.Bool.Decides.{nat_tests}
use Rattle.std.specs.List.{Contains}
use Rattle.std.proofs.lemmas.List.{append_assoc, length-append}
use Rattle.h5_base.specs.declared.kinds.BlockKind.{BlockKind}
use Rattle.outside.specs.Blocks.{Block, Bounds, AreApart, IsApart, AllApart, AllSome, IsInside, AllInside, AreKept, Share, placed, most_blocks}
use Rattle.outside.specs.Blocks.{Again, Shares, Outside, OneMore}
use Rattle.h5_base.specs.declared.refusal.Refusal.{Refusal}
use Rattle.outside.specs.Blocks.{IsBlockRefused, IsPlacedRefused, AreTaken}

-- all blocks of a file: those met so far, and those that come
abbrev pub Room : Bounds → List Block → List Block → Type 0
Room = AreTaken

-- a block beside those met before it
pub record IsFree (e : Bounds) (met : List Block) (x : Block) : Type 0 where
  pub some : 0 < x.len
  pub others : AllSome met
  pub apart : IsApart x met
  pub inside : IsInside e x
  pub few : length met < most_blocks

pub contains_cases : {X : Type 0} (x : X) (xs : List X) (y : X) → Contains (x ∷ xs) y → (x ≡ y) ⊎ Contains xs y
contains_cases x xs y (zero, lt, is) = inl is
contains_cases x xs y (suc k, lt, is) = inr (k, omega (arith, lt), is)

pub no_element : {X : Type 0} (y : X) → Contains [] y → ⊥
no_element y (k, lt, is) = omega (arith, lt)

apart_turned : (x y : Block) → AreApart x y → AreApart y x
apart_turned x y (inl h) = inr h
apart_turned x y (inr h) = inl h

pub apart_of : (x : Block) (ys : List Block) (y : Block) → IsApart x ys → Contains ys y → AreApart x y
apart_of x [] y h c = absurd (no_element y c)
apart_of x (z ∷ zs) y h c = elim (contains_cases z zs y c) [
  | inl is ↦ subst (AreApart x) is h.0
  | inr rest ↦ apart_of x zs y h.1 rest
]

some_of : (ys : List Block) (y : Block) → AllSome ys → Contains ys y → 0 < y.len
some_of [] y h c = absurd (no_element y c)
some_of (z ∷ zs) y h c = elim (contains_cases z zs y c) [
  | inl is ↦ subst (λ (b : Block). 0 < b.len) is h.0
  | inr rest ↦ some_of zs y h.1 rest
]

apart_at : (m : Block) (ms : List Block) (x : Block) (later : List Block) → IsApart m (ms ++ x ∷ later) → AreApart m x
apart_at m [] x later h = h.0
apart_at m (n ∷ ns) x later h = apart_at m ns x later h.1

apart_mid : (met : List Block) (x : Block) (later : List Block) → AllApart (met ++ x ∷ later) → IsApart x met
apart_mid [] x later h = tt
apart_mid (m ∷ ms) x later h = (apart_turned m x (apart_at m ms x later h.0), apart_mid ms x later h.1)

some_before : (met later : List Block) → AllSome (met ++ later) → AllSome met
some_before [] later h = tt
some_before (m ∷ ms) later h = (h.0, some_before ms later h.1)

some_mid : (met : List Block) (x : Block) (later : List Block) → AllSome (met ++ x ∷ later) → 0 < x.len
some_mid [] x later h = h.0
some_mid (m ∷ ms) x later h = some_mid ms x later h.1

inside_mid : (e : Bounds) (met : List Block) (x : Block) (later : List Block) → AllInside e (met ++ x ∷ later) → IsInside e x
inside_mid e [] x later h = h.0
inside_mid e (m ∷ ms) x later h = inside_mid e ms x later h.1

pub free_of : (e : Bounds) (met : List Block) (x : Block) (later : List Block) → Room e met (x ∷ later) → IsFree e met x
free_of e met x later h = record {
  some = some_mid met x later h.kept.some;
  others = some_before met (x ∷ later) h.kept.some;
  apart = apart_mid met x later h.kept.apart;
  inside = inside_mid e met x later h.kept.inside;
  few = let all = h.few in let sum = length-append met (x ∷ later) in omega (arith, all, sum);
}

pub apart_less : (at n m : ℕ) (ys : List Block) → m ≤ n → IsApart (record { start = at; len = n }) ys → IsApart (record { start = at; len = m }) ys
apart_less at n m [] le h = tt
apart_less at n m (y ∷ ys) le h = (one h.0, apart_less at n m ys le h.1)
  where
    one : AreApart (record { start = at; len = n }) y → AreApart (record { start = at; len = m }) y
    one (inl a) = inl (omega (arith, a, le))
    one (inr a) = inr a

-- a part of a block from its beginning on is free as well
pub free_less : (e : Bounds) (met : List Block) (at n m : ℕ) → 0 < m → m ≤ n → IsFree e met (record { start = at; len = n }) → IsFree e met (record { start = at; len = m })
free_less e met at n m some le h = record {
  some = some;
  others = h.others;
  apart = apart_less at n m met le h.apart;
  inside = (h.inside.0, h.inside.1, let high = h.inside.2 in omega (arith, high, le));
  few = h.few;
}

no_twice : (x y : Block) → 0 < x.len → 0 < y.len → x.start ≡ y.start → AreApart x y → ⊥
no_twice x y a b is (inl h) = omega (arith, a, b, is, h)
no_twice x y a b is (inr h) = omega (arith, a, b, is, h)

pub no_share : (x y : Block) (at : ℕ) → Share x y at → AreApart x y → ⊥
no_share x y at s (inl h) = let g = s.greater in let a = s.in_first in let c = s.in_second in omega arith
no_share x y at s (inr h) = let g = s.greater in let a = s.in_first in let c = s.in_second in omega arith

pub not_refused : (e : Bounds) (met : List Block) (x : Block) (kind : BlockKind) (r : Refusal) → IsFree e met x → IsBlockRefused e met x kind r → ⊥
not_refused e met x kind r free (Again begins line) =
    no_twice x begins.0 free.some (some_of met begins.0 free.others begins.1) (sym begins.2) (apart_of x met begins.0 free.apart begins.1)
not_refused e met x kind r free (Shares at new over line) = no_share x over.other at over.share (apart_of x met over.other free.apart over.one)
not_refused e met x kind r free (Outside new apart outside line) = outside free.inside
not_refused e met x kind r free (OneMore new apart inside full line) = let few = free.few in omega (arith, few, full)

-- the blocks that come next were met
pub room_after : (e : Bounds) (met xs later : List Block) → Room e met (xs ++ later) → Room e (met ++ xs) later
room_after e met xs later h = record {
  kept = subst (AreKept e) (sym (append_assoc met xs later)) h.kept;
  few = subst (λ (l : List Block). length l ≤ most_blocks) (sym (append_assoc met xs later)) h.few;
}

-- an empty block has no place
placed_some : (at n : ℕ) → 0 < n → placed at n ≡ record { start = at; len = n } ∷ []
placed_some at n some = let test : (n == 0) ≡ false = grind (arith, nat_tests) in rw test refl

pub placed_not_refused : (e : Bounds) (met : List Block) (at n : ℕ) (later : List Block) (kind : BlockKind) (r : Refusal) → Room e met (placed at n ++ later) → IsPlacedRefused e met at n kind r → ⊥
placed_not_refused e met at n later kind r room h =
    let x : Block = record { start = at; len = n } in
    let room' : Room e met (x ∷ later) = subst (λ (l : List Block). Room e met (l ++ later)) (placed_some at n h.some) room in
    not_refused e met x kind r (free_of e met x later room') h.refused
