-- What was reserved covers what is taken and written.
use Rattle.std.proofs.Common.{◌≡◌, ℕ, ◌+◌, ◌^◌, ◌<◌, ◌==◌, inl, inr, Bool, List, [], ◌∷◌, ◌++◌, length, refl, sym, ap}
use Rattle.std.proofs.Common.{subst, arith, if◌then◌else◌}
use Rattle.std.specs.List.{Contains, flat_map}
use Rattle.std.proofs.Math.Bridge.{le_prop}
use Rattle.std.proofs.lemmas.Bool.{cases_Bool, eqb-true}
use Rattle.std.proofs.lemmas.List.Elements.{Contains-append_left, Contains-append_right}
use Rattle.std.specs.List.Sorted.{IsPermutation}
use Rattle.std.specs.declared.option.Option.TheVariants.{Some, None}
use Rattle.std.proofs.lemmas.List.Sorted.{Contains-permutation, IsPermutation-sym}
use Rattle.h5_base.specs.declared.extent.Extent.{Extent}
use Rattle.h5_base.specs.declared.extent.MemClass.{MemClass}
use Rattle.h5_base.specs.declared.extent.MemClass.TheVariants.{Super, Tree, Raw, GlobalHeap, LocalHeap, Header}
use Rattle.outside.specs.Blocks.{Block}
use Rattle.outside.specs.Pages.{IsMet, MeetsOne, OrMetByOne}
use Rattle.outside.specs.Space.{AreCovered, AreRegions, SpaceView, StaysGiven}
use Rattle.block_space.specs.Catalogue.{block_of, blocks_of}
use Rattle.block_space.specs.Plans.{EndsBehindNeeds, FitsCatalogue, classes, need_of, needed, new_ranges}
use Rattle.block_space.specs.Reserved.{AskedStay, IsReserved, ReservedCovers, RoomInAnyOrder}
use Rattle.block_space.specs.declared.plan.EditPlan.{EditPlan}
use Rattle.block_space.specs.declared.plan.Needs.{Needs}
use Rattle.block_space.proofs.Apart.{contains_cons, contains_head, contains_tail}
use Rattle.block_space.proofs.Counted.{after_needed, some_needed}
use Rattle.block_space.proofs.Ends.{ends_as_one}
use Rattle.block_space.proofs.Taking.{AllReady}

-- ---- lists

block_there : (xs : List Extent) (x : Extent) → Contains xs x → Contains (blocks_of xs) (block_of x)
block_there [] x (k, l, is) = absurd (omega arith)
block_there (y ∷ ys) x has = elim (contains_cons y ys x has) [
  | inl is ↦ subst (λ (z : Extent). Contains (blocks_of (y ∷ ys)) (block_of z)) is (contains_head (block_of y)
      (blocks_of ys))
  | inr later ↦ contains_tail (block_of y) (blocks_of ys) (block_of x) (block_there ys x later)
]

range_there : (xs : List Extent) (b : Block) → Contains (blocks_of xs) b
    → (r : Extent) × Contains xs r × (block_of r ≡ b)
range_there [] b (k, l, is) = absurd (omega arith)
range_there (x ∷ xs) b has = elim (contains_cons (block_of x) (blocks_of xs) b has) [
  | inl is ↦ (x, contains_head x xs, is)
  | inr later ↦ let r = range_there xs b later in (r.0, contains_tail x xs r.0 r.1, r.2)
]

covered_by : (xs : List Extent) (b : Block) → Contains (blocks_of xs) b → AreCovered xs b.start b.len
covered_by xs b has a low high =
    let r = range_there xs b has in
    let start : r.0.start ≡ b.start = ap (λ (c : Block). c.start) r.2 in
    let len : r.0.len ≡ b.len = ap (λ (c : Block). c.len) r.2 in
    (r.0, r.1, omega (arith, low, start), omega (arith, high, start, len))

flat_there : {X A : Type 0} (f : X → List A) (xs : List X) (x : X) (y : A) → Contains xs x → Contains (f x) y
    → Contains (flat_map f xs) y
flat_there f [] x y (k, l, is) here = absurd (omega arith)
flat_there {X} {A} f (z ∷ zs) x y has here = elim (contains_cons z zs x has) [
  | inl is ↦ Contains-append_left (f z) (flat_map f zs) y (subst (λ (w : X). Contains (f w) y) (sym is) here)
  | inr later ↦ Contains-append_right (f z) (flat_map f zs) y (flat_there f zs x y later here)
]

class_there : (c : MemClass) → Contains classes c
class_there Super = (0, omega arith, refl)
class_there Tree = (1, omega arith, refl)
class_there Raw = (2, omega arith, refl)
class_there GlobalHeap = (3, omega arith, refl)
class_there LocalHeap = (4, omega arith, refl)
class_there Header = (5, omega arith, refl)

-- ---- what was reserved

-- the range behind the end of a class of which something is needed
new_there : (v : SpaceView) (needs : Needs) (c : MemClass) → 0 < needed needs c
    → Contains (new_ranges v needs) (record { start = v.ends c; len = need_of v.regions needs c })
new_there v needs c some =
    let range : Block = record { start = v.ends c; len = need_of v.regions needs c } in
    let of : MemClass → Block = λ d. record { start = v.ends d; len = need_of v.regions needs d } in
    flat_there (λ (d : MemClass). if needed needs d == 0 then [] else (of d ∷ [])) classes c range (class_there c) (elim (cases_Bool (needed needs c == 0)) [
      | inl is ↦ absurd (omega (arith, eqb-true (needed needs c) 0 is, some))
      | inr other ↦ subst (λ (b : Bool). Contains (if b then [] else (range ∷ [])) range) (sym other) (contains_head
          range [])
    ])

-- the ranges that a space is prepared for cover what was asked
pub reserved_covers : ReservedCovers
reserved_covers v needs writes ranges all = record {
  writes = λ w has. covered_by ranges (block_of w) (there (block_of w)
      (Contains-append_left (blocks_of writes) (new_ranges v needs) (block_of w) (block_there writes w has)));
  takes = λ c some. covered_by ranges (range c) (there (range c)
      (Contains-append_right (blocks_of writes) (new_ranges v needs) (range c) (new_there v needs c some)));
}
  where
    range : MemClass → Block
    range c = record { start = v.ends c; len = need_of v.regions needs c }

    there : (b : Block) → Contains (blocks_of writes ++ new_ranges v needs) b → Contains (blocks_of ranges) b
    there b has = Contains-permutation (blocks_of writes ++ new_ranges v needs) (blocks_of ranges) b
        (IsPermutation-sym (blocks_of ranges) (blocks_of writes ++ new_ranges v needs) all) has

pub all_ready : (v : SpaceView) (plan : EditPlan) (met : List Block) (spare : ℕ) → IsReserved v spare (length met) plan
    → AreRegions v.regions v.ends → FitsCatalogue met plan → AllReady v plan.takes
all_ready v plan met spare reserved sound fits =
    let after = λ (c : MemClass). after_needed v.regions v.ends plan.needs plan.takes c (ends_as_one v.regions v.ends
    sound c) fits.bytes in
    record {
      below = λ c. let limit = reserved.fits.below c in omega (arith, after c, limit);
      covered = λ t has some a low high.
          reserved.covered.takes t.class (some_needed plan.needs plan.takes t has some (fits.bytes t.class)) a low
          (omega (arith, high, after t.class));
    }

-- two ranges of one start and one length are equal
same_extent : (x y : Extent) → x.start ≡ y.start → x.len ≡ y.len → x ≡ y
same_extent x y start len =
    let here : (f : y.start + y.len < 2 ^ 64) → (record { start = y.start; len = y.len; fits = f }) ≡ y = λ f.
    ap (λ (p : y.start + y.len < 2 ^ 64). let z : Extent = record { start = y.start; len = y.len; fits = p } in z)
    (le_prop f y.fits) in
    let moved : (f : x.start + y.len < 2 ^ 64) → (record { start = x.start; len = y.len; fits = f }) ≡ y =
    subst (λ (s : ℕ). (f : s + y.len < 2 ^ 64) → (record { start = s; len = y.len; fits = f }) ≡ y) (sym start) here in
    subst (λ (l : ℕ). (f : x.start + l < 2 ^ 64) → (record { start = x.start; len = l; fits = f }) ≡ y) (sym len) moved
    x.fits

-- each range that is asked for again stays given
pub asked_stay : (old new : SpaceView) (ranges : List Extent) (asked : List Block)
    → IsPermutation (blocks_of ranges) asked → StaysGiven ranges old new → AskedStay asked old new
asked_stay old new ranges asked all stays r was again =
    let here = range_there ranges (block_of r) (Contains-permutation asked (blocks_of ranges) (block_of r)
    (IsPermutation-sym (blocks_of ranges) asked all) again) in
    let same = same_extent here.0 r (ap (λ (b : Block). b.start) here.2) (ap (λ (b : Block). b.len) here.2) in
    stays r was (subst (Contains ranges) same here.1)

-- ---- laws

pub ends_behind_needs : EndsBehindNeeds
ends_behind_needs regions ends met plan c sound fits =
    after_needed regions ends plan.needs plan.takes c (ends_as_one regions ends sound c) fits.bytes

-- a page that one of the ranges meets is met by one of the same ranges in another order
met_in_order : (page p : ℕ) (old new : List Extent) → IsPermutation (blocks_of old) (blocks_of new)
    → MeetsOne page old p → MeetsOne page new p
met_in_order page p old new all met =
    let has = Contains-permutation (blocks_of old) (blocks_of new) (block_of met.0) all (block_there old met.0 met.1) in
    let here = range_there new (block_of met.0) has in
    (here.0, here.1, subst (λ (b : Block). IsMet page b.start b.len p) (sym here.2) met.2)

or_in_order : (page p : ℕ) (pages : List ℕ) (old new : List Extent) → IsPermutation (blocks_of old) (blocks_of new)
    → OrMetByOne page pages old p → OrMetByOne page pages new p
or_in_order page p pages old new all (inl has) = inl has
or_in_order page p pages old new all (inr met) = inr (met_in_order page p old new all met)

pub room_in_any_order : RoomInAnyOrder
room_in_any_order None old new all room = tt
room_in_any_order (Some c) old new all room = λ pages are. room pages (record {
  ordered = are.ordered;
  each = λ p. (
    λ has. or_in_order c.page p c.written new old (IsPermutation-sym (blocks_of old) (blocks_of new) all)
        ((are.each p).0 has),
    λ met. (are.each p).1 (or_in_order c.page p c.written old new all met),
  );
})
