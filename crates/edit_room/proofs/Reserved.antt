-- What is reserved for an edit, and for the range that the end of the session writes.
use Rattle.std.proofs.Common.{◌≡◌, ◌⊎◌, inl, inr, ℕ, ◌+◌, ◌≤◌, ◌==◌, ◌++◌, Bool, false, IsTrue, List, [], ◌∷◌}
use Rattle.std.proofs.Common.{ap, sym, subst, arith, if◌then◌else◌}
use Rattle.std.specs.Prelude.{IfSome}
use Rattle.std.specs.declared.option.Option.{Option}
use Rattle.std.specs.declared.option.Option.TheVariants.{Some, None}
use Rattle.std.specs.List.{Contains}
use Rattle.std.specs.List.Sorted.{IsPermutation}
use Rattle.std.proofs.lemmas.Bool.{cases_Bool}
use Rattle.std.proofs.lemmas.List.Elements.{Contains-append_cases, Contains-append_left, Contains-append_right}
use Rattle.std.proofs.lemmas.List.Sorted.{Contains-permutation, IsPermutation-sym}
use Rattle.h5_base.specs.declared.extent.Extent.{Extent}
use Rattle.h5_base.specs.declared.extent.MemClass.{MemClass}
use Rattle.outside.specs.Blocks.{Block, most_blocks}
use Rattle.outside.specs.Revisions.{Committed}
use Rattle.outside.specs.Space.{AreCovered, AreRegions, HasRoom, IsReady, SpaceView}
use Rattle.block_space.specs.Catalogue.{block_of, blocks_of}
use Rattle.block_space.specs.Plans.{FitsCatalogue, HasRoomFor, classes, need_of, needed, new_range, new_ranges}
use Rattle.block_space.specs.Reserved.{AskedStay, CoversAll, IsReserved, ReservedCovers}
use Rattle.block_space.specs.declared.plan.EditPlan.{EditPlan}
use Rattle.block_space.specs.declared.plan.Needs.{Needs}
use Rattle.block_space.proofs.Apart.{contains_cons, contains_head, none_contained}
use Rattle.session_model.specs.State.{IsTouched}
use Rattle.edit_room.specs.Judged.{PassesALimit}
use Rattle.edit_room.specs.Judged.PassesALimit.{Blocks, Segment, Pages}
use Rattle.edit_room.specs.Reserving.{HasLongSegment, asked_blocks, closing_blocks}
use Rattle.edit_room.specs.Touched.{IsTakenIn, IsTouchedBy}
use Rattle.edit_room.proofs.Addresses.{IsIn, block_there, in_cases, in_other_order, in_ranges, one_block, range_there}
use Rattle.edit_room.proofs.Addresses.{ranges_in, same_extent, there_flat}
use Rattle.edit_room.proofs.Pages.{room_alike}
use Rattle.edit_room.proofs.Touched.{needs_are_taken, taken_of}

-- ---- limits

pub not_so : ¬ IsTrue false
not_so is = cc

pub over : (v : SpaceView) (count : ℕ) (plan : EditPlan) (ranges : List Extent)
    → HasLongSegment plan.takes ⊎ (¬ HasRoom v.committed ranges) → PassesALimit v count plan ranges
over v count plan ranges (inl (x, has, class, long)) = Segment x has class long
over v count plan ranges (inr none) = Pages none

pub under : (v : SpaceView) (count : ℕ) (plan : EditPlan) (ranges : List Extent) → ¬ HasLongSegment plan.takes
    → HasRoom v.committed ranges → count + plan.needs.blocks ≤ most_blocks → ¬ PassesALimit v count plan ranges
under v count plan ranges short room few (Blocks many) = omega (arith, few, many)
under v count plan ranges short room few (Segment x has class long) = short (x, has, class, long)
under v count plan ranges short room few (Pages none) = none room

-- ---- ranges in another order

-- a range whose block is among those of a list is in the list
range_in : (xs : List Extent) (r : Extent) → Contains (blocks_of xs) (block_of r) → Contains xs r
range_in xs r has =
    let x = range_there xs (block_of r) has in
    let same = same_extent x.0 r (ap (λ (b : Block). b.start) x.2) (ap (λ (b : Block). b.len) x.2) in
    subst (Contains xs) same x.1

-- the range of a class behind its end
new_is : (v : SpaceView) (needs : Needs) (c : MemClass) (b : Block) → Contains (new_range v needs c) b
    → one_block (v.ends c) (need_of v.regions needs c) ≡ b
new_is v needs c b has =
    let one = one_block (v.ends c) (need_of v.regions needs c) in
    elim (cases_Bool (needed needs c == 0)) [
      | inl none ↦ absurd (none_contained b
          (subst (λ (t : Bool). Contains (if t then [] else (one ∷ [])) b) none has))
      | inr some ↦ elim (contains_cons one [] b
          (subst (λ (t : Bool). Contains (if t then [] else (one ∷ [])) b) some has)) [
            | inl is ↦ is
            | inr later ↦ absurd (none_contained b later)
          ]
    ]

module _ (v : SpaceView) (plan : EditPlan) (closing : Option Extent) (writes : List Extent)
    (both : IsPermutation (blocks_of writes) (blocks_of plan.writes ++ closing_blocks closing)) where
  write_there : (w : Extent) → Contains plan.writes w → Contains writes w
  write_there w has = range_in writes w (Contains-permutation (blocks_of plan.writes ++ closing_blocks closing)
      (blocks_of writes) (block_of w)
      (IsPermutation-sym (blocks_of writes) (blocks_of plan.writes ++ closing_blocks closing) both)
      (Contains-append_left (blocks_of plan.writes) (closing_blocks closing) (block_of w)
      (block_there plan.writes w has)))

  -- what stays given of all that was asked for
  pub asked_stay : (w : SpaceView) → AskedStay (blocks_of writes ++ new_ranges v plan.needs) v w
      → AskedStay (asked_blocks v plan closing) v w
  asked_stay w stays r was again = stays r was
      (elim (Contains-append_cases (blocks_of plan.writes ++ closing_blocks closing) (new_ranges v plan.needs)
      (block_of r) again) [
        | inl left ↦ Contains-append_left (blocks_of writes) (new_ranges v plan.needs) (block_of r)
            (Contains-permutation (blocks_of plan.writes ++ closing_blocks closing) (blocks_of writes) (block_of r)
            (IsPermutation-sym (blocks_of writes) (blocks_of plan.writes ++ closing_blocks closing) both) left)
        | inr right ↦ Contains-append_right (blocks_of writes) (new_ranges v plan.needs) (block_of r) right
      ])

-- ---- the pages of what is prepared

-- ranges that a space was prepared for, without one for the end of the session, have the addresses of those that the
-- plan touches
module _ (v : SpaceView) (met : List Block) (count : ℕ) (plan : EditPlan) (writes prepared ranges : List Extent)
    (sound : AreRegions v.regions v.ends) (fits : FitsCatalogue met plan) (room : HasRoomFor v count plan.needs)
    (touched : IsTouchedBy v plan ranges) (covered : CoversAll v plan.needs writes prepared)
    (both : IsPermutation (blocks_of writes) (blocks_of plan.writes ++ []))
    (all : IsPermutation (blocks_of prepared) (blocks_of writes ++ new_ranges v plan.needs)) where
  to_prepared : (a : ℕ) → IsTouched ranges a → IsTouched prepared a
  to_prepared a t = elim (touched.reached a t) [
    | inl written ↦ covered.writes written.0 (write_there v plan None writes both written.0 written.1) a written.2
        written.3
    | inr taken ↦ let n = taken_of v plan met sound fits a taken in covered.takes n.class n.some a n.low n.high
  ]

  new_taken : (a : ℕ) → IsIn (new_ranges v plan.needs) a → IsTakenIn v plan a
  new_taken a i =
      let c = there_flat (new_range v plan.needs) classes i.0 i.1 in
      let is = new_is v plan.needs c.0 i.0 c.2 in
      let start : v.ends c.0 ≡ i.0.start = ap (λ (b : Block). b.start) is in
      let len : need_of v.regions plan.needs c.0 ≡ i.0.len = ap (λ (b : Block). b.len) is in
      let same = needs_are_taken v met plan fits c.0 in
      let most = room.below c.0 in
      record {
        class = c.0;
        behind = omega (arith, i.2, start);
        before = omega (arith, i.3, start, len, same, most);
      }

  written_alone : (a : ℕ) → IsIn (blocks_of writes) a → IsTouched plan.writes a
  written_alone a i = elim (in_cases (blocks_of plan.writes) [] a
      (in_other_order (blocks_of writes) (blocks_of plan.writes ++ []) a both i)) [
        | inl left ↦ ranges_in plan.writes a left
        | inr none ↦ absurd (none_contained none.0 none.1)
      ]

  from_prepared : (a : ℕ) → IsTouched prepared a → IsTouched ranges a
  from_prepared a t = elim (in_cases (blocks_of writes) (new_ranges v plan.needs) a
      (in_other_order (blocks_of prepared) (blocks_of writes ++ new_ranges v plan.needs) a all
      (in_ranges prepared a t))) [
        | inl left ↦ touched.written a (written_alone a left)
        | inr right ↦ touched.taken a (new_taken a right)
      ]

  room_alone : HasRoom v.committed ranges → HasRoom v.committed prepared
  room_alone = room_alike v.committed ranges prepared to_prepared from_prepared

-- there is room for all that was prepared; without revisions there is for anything
room_prepared : (v : SpaceView) (met : List Block) (count : ℕ) (plan : EditPlan) (closing : Option Extent)
    (writes prepared ranges : List Extent) → AreRegions v.regions v.ends → FitsCatalogue met plan
    → HasRoomFor v count plan.needs → IsTouchedBy v plan ranges → CoversAll v plan.needs writes prepared
    → IfSome closing (λ r. v.committed ≡ None)
    → IsPermutation (blocks_of writes) (blocks_of plan.writes ++ closing_blocks closing)
    → IsPermutation (blocks_of prepared) (blocks_of writes ++ new_ranges v plan.needs)
    → HasRoom v.committed ranges → HasRoom v.committed prepared
room_prepared v met count plan None writes prepared ranges sound fits room touched covered none both all asked =
    room_alone v met count plan writes prepared ranges sound fits room touched covered both all asked
room_prepared v met count plan (Some r) writes prepared ranges sound fits room touched covered none both all asked =
    subst (λ (m : Option Committed). HasRoom m prepared) (sym none) tt

-- ---- what is reserved

-- a space that was prepared, before it is one: the view with these ranges
abbrev pub with_prepared : SpaceView → List Extent → SpaceView
with_prepared v ranges = record v { prepared = ranges }

-- What a call of `reserve` leaves that was given these writes, of a space that told `v`.
pub record IsPrepared (v w : SpaceView) (plan : EditPlan) (closing : Option Extent) (writes : List Extent)
    : Type 0 where
  pub alike : w ≡ with_prepared v w.prepared
  pub covers : ReservedCovers
  pub both : IsPermutation (blocks_of writes) (blocks_of plan.writes ++ closing_blocks closing)
  pub all : IsPermutation (blocks_of w.prepared) (blocks_of writes ++ new_ranges v plan.needs)

pub with_own_writes : (plan : EditPlan) (closing : Option Extent) (writes slice : List Extent) → slice ≡ plan.writes
    → IsPermutation (blocks_of writes) (blocks_of slice ++ closing_blocks closing)
    → IsPermutation (blocks_of writes) (blocks_of plan.writes ++ closing_blocks closing)
with_own_writes plan closing writes slice same =
    subst (λ (xs : List Extent). IsPermutation (blocks_of writes) (blocks_of xs ++ closing_blocks closing)) same

pub is_prepared : (v w : SpaceView) (plan : EditPlan) (closing : Option Extent) (writes slice : List Extent)
    → w ≡ with_prepared v w.prepared → ReservedCovers → slice ≡ plan.writes
    → IsPermutation (blocks_of writes) (blocks_of slice ++ closing_blocks closing)
    → IsPermutation (blocks_of w.prepared) (blocks_of writes ++ new_ranges v plan.needs)
    → IsPrepared v w plan closing writes
is_prepared v w plan closing writes slice alike covers same both all = record {
  alike = alike;
  covers = covers;
  both = with_own_writes plan closing writes slice same both;
  all = all;
}

module _ (v w : SpaceView) (plan : EditPlan) (closing : Option Extent) (writes : List Extent)
    (p : IsPrepared v w plan closing writes) where
  covered_here : CoversAll v plan.needs writes w.prepared
  covered_here = p.covers v plan.needs writes w.prepared p.all

  pub reserved : (met : List Block) (count spare : ℕ) (ranges : List Extent) → AreRegions v.regions v.ends
      → FitsCatalogue met plan → IsTrue v.writable → HasRoomFor v count plan.needs → IsTouchedBy v plan ranges
      → HasRoom v.committed ranges → IfSome closing (λ r. v.committed ≡ None) → plan.needs.blocks ≤ spare
      → IsReserved w spare count plan
  reserved met count spare ranges sound fits writable room touched pages none enough =
      let covered = covered_here in
      subst (λ (u : SpaceView). IsReserved u spare count plan) (sym p.alike) (record {
        writable = writable;
        fits = record { few = room.few; below = room.below };
        covered = record {
          writes = λ x has. covered.writes x (write_there v plan closing writes p.both x has);
          takes = covered.takes;
        };
        room = room_prepared v met count plan closing writes w.prepared ranges sound fits room touched covered none
            p.both p.all pages;
        enough = enough;
      })

closing_there : (v w : SpaceView) (plan : EditPlan) (r : Extent) (writes : List Extent)
    → IsPrepared v w plan (Some r) writes → Contains (blocks_of writes) (block_of r)
closing_there v w plan r writes p = Contains-permutation (blocks_of plan.writes ++ closing_blocks (Some r))
    (blocks_of writes) (block_of r)
    (IsPermutation-sym (blocks_of writes) (blocks_of plan.writes ++ closing_blocks (Some r)) p.both)
    (Contains-append_right (blocks_of plan.writes) (closing_blocks (Some r)) (block_of r)
    (contains_head (block_of r) []))

-- the range for the end of the session is one of those given
pub holds_closing : (v w : SpaceView) (plan : EditPlan) (closing : Option Extent) (writes : List Extent)
    → IsPrepared v w plan closing writes → IfSome closing (λ r. Contains w.prepared r)
holds_closing v w plan None writes p = tt
holds_closing v w plan (Some r) writes p = range_in w.prepared r
    (Contains-permutation (blocks_of writes ++ new_ranges v plan.needs) (blocks_of w.prepared) (block_of r)
    (IsPermutation-sym (blocks_of w.prepared) (blocks_of writes ++ new_ranges v plan.needs) p.all)
    (Contains-append_left (blocks_of writes) (new_ranges v plan.needs) (block_of r)
    (closing_there v w plan r writes p)))

-- and may be written
pub closes : (v w : SpaceView) (plan : EditPlan) (closing : Option Extent) (writes : List Extent)
    → IsPrepared v w plan closing writes → IsTrue v.writable → IfSome closing (λ r. v.committed ≡ None)
    → IfSome closing (λ r. IsReady w r.start r.len)
closes v w plan None writes p writable none = tt
closes v w plan (Some r) writes p writable none =
    subst (λ (u : SpaceView). IsReady u r.start r.len) (sym p.alike) (record {
      writable = writable;
      covered = λ a low high. covered_by a low high;
      room = subst (λ (m : Option Committed). HasRoom m w.prepared) (sym none) tt;
    })
  where
    covered_by : AreCovered w.prepared r.start r.len
    covered_by a low high = (r, holds_closing v w plan (Some r) writes p, low, high)
