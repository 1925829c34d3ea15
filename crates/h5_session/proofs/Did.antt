-- What came of a plan: what was judged and reserved before it, and what applying it left.
use Rattle.std.proofs.Common.{◌≡◌, ◌⊎◌, inl, inr, ℕ, ◌+◌, ◌<◌, ◌≤◌, Bool, IsTrue, List, [], ◌∷◌, ◌++◌, length, Option}
use Rattle.std.proofs.Common.{Some, None, Result, Ok, Err, refl, sym, ◌∙◌, ap, subst, arith}
use Rattle.std.specs.Prelude.{IfSome}
use Rattle.std.specs.List.{Contains}
use Rattle.std.proofs.lemmas.Bool.{cases_lt}
use Rattle.std.proofs.lemmas.List.Elements.{Contains-append_left, Contains-append_right}
use Rattle.h5_base.specs.declared.extent.Extent.{Extent}
use Rattle.h5_base.specs.declared.extent.MemClass.{MemClass}
use Rattle.outside.specs.Blocks.{Block}
use Rattle.outside.specs.Causes.{Counts}
use Rattle.outside.specs.Space.{AreRegions, HasCauses as WriteCauses, SameKind, SpaceView}
use Rattle.outside.specs.declared.space.WriteStop.{WriteStop}
use Rattle.outside.specs.declared.space.WriteStop.TheVariants as write
use Rattle.block_space.specs.Applied.{IsApplied}
use Rattle.block_space.specs.Blocks.{Keeps, space_of}
use Rattle.block_space.specs.Catalogue.{block_of, blocks_of}
use Rattle.block_space.specs.Plans.{FitsCatalogue, HasRoomFor, LiesBeside, LiesBesideTake, RisenInPart, ends_after}
use Rattle.block_space.specs.Plans.{new_ranges, taken_blocks}
use Rattle.block_space.specs.Reserved.{AskedStay}
use Rattle.block_space.specs.declared.blocks.Blocks.{Blocks}
use Rattle.block_space.specs.declared.plan.EditPlan.{EditPlan}
use Rattle.block_space.proofs.Apart.{contains_head}
use Rattle.block_space.proofs.Readied.{ends_behind_needs}
use Rattle.edit_room.specs.Reserving.{IsAdmitted, IsRefusedBy, asked_blocks}
use Rattle.edit_room.specs.Touched.{IsTakenIn, IsTouchedBy}
use Rattle.edit_room.specs.declared.stop.RoomStop.{RoomStop}
use Rattle.edit_room.specs.declared.stop.RoomStop.TheVariants as room
use Rattle.edit_room.proofs.Addresses.{block_there, range_there, same_extent}
use Rattle.edit_room.proofs.Touched.{needs_are_taken}
use Rattle.session_model.specs.State.{IsTouched}
use Rattle.group_lines.specs.States.{IsDone}
use Rattle.h5_session.specs.Doing.{ComesTo, InPart, IsAsBefore}
use Rattle.h5_session.specs.Stops.{HasCauses, of_write}
use Rattle.h5_session.specs.declared.doing.Outcome.TheVariants as outcome
use Rattle.h5_session.specs.declared.stop.StepStop.{StepStop}
use Rattle.h5_session.specs.declared.stop.StepStop.TheVariants as stop

-- ---- causes

-- where nothing was called that fails, no count rose
pub calm_causes : {T : Type 0} (before now copy_before copy_now : Counts) (x : T) → now ≡ before
    → copy_now ≡ copy_before → HasCauses before now copy_before copy_now (Ok x)
calm_causes before now copy_before copy_now x calm copy_calm = record {
  failed = λ is. cc;
  copy_failed = λ is. cc;
  calm = λ not. calm;
  copy_calm = λ not. copy_calm;
}

-- what isn't written for a cause has that cause as the stop of a line
pub write_causes : {T S : Type 0} (before now copy_before copy_now : Counts) (x : WriteStop)
    → WriteCauses {T = T} before now copy_before copy_now (Err x)
    → HasCauses {T = S} before now copy_before copy_now (Err (of_write x))
write_causes before now copy_before copy_now write.Failed h = record {
  failed = λ is. h.failed refl;
  copy_failed = λ is. cc;
  calm = λ not. absurd (not refl);
  copy_calm = λ not. h.copy_calm (λ is. cc);
}
write_causes before now copy_before copy_now write.WoFailed h = record {
  failed = λ is. cc;
  copy_failed = λ is. h.copy_failed refl;
  calm = λ not. h.calm (λ is. cc);
  copy_calm = λ not. absurd (not refl);
}

-- seen from counts that are equal to those at the start
pub stop_causes : {T S : Type 0} (before mid now copy_before copy_mid copy_now : Counts) (x : WriteStop) (y : StepStop)
    → mid ≡ before → copy_mid ≡ copy_before → y ≡ of_write x → WriteCauses {T = T} mid now copy_mid copy_now (Err x)
    → HasCauses {T = S} before now copy_before copy_now (Err y)
stop_causes {T} {S} before mid now copy_before copy_mid copy_now x y same copy_same is h =
    let first = subst (λ (k : Counts). WriteCauses {T = T} k now copy_mid copy_now (Err x)) same h in
    let both = subst (λ (k : Counts). WriteCauses {T = T} before now k copy_now (Err x)) copy_same first in
    let causes = write_causes {T = T} {S = S} before now copy_before copy_now x both in
    subst (λ (s : StepStop). HasCauses {T = S} before now copy_before copy_now (Err s)) (sym is) causes

-- ---- the range that closes the file

pub closing_stays : (closing : Option Extent) (old new : List Extent) → new ≡ old → IfSome closing (Contains old)
    → IfSome closing (λ range. Contains (blocks_of new) (block_of range))
closing_stays None old new same has = tt
closing_stays (Some r) old new same has =
    block_there new r (subst (λ (xs : List Extent). Contains xs r) (sym same) has)

range_in : (xs : List Extent) (r : Extent) → Contains (blocks_of xs) (block_of r) → Contains xs r
range_in xs r has =
    let x = range_there xs (block_of r) has in
    let same = same_extent x.0 r (ap (λ (b : Block). b.start) x.2) (ap (λ (b : Block). b.len) x.2) in
    subst (Contains xs) same x.1

pub closing_given : (v w : SpaceView) (plan : EditPlan) (closing : Option Extent)
    → AskedStay (asked_blocks v plan closing) v w → IfSome closing (λ range.
    Contains (blocks_of v.prepared) (block_of range) → Contains (blocks_of w.prepared) (block_of range))
closing_given v w plan None stays = tt
closing_given v w plan (Some r) stays = λ was.
    let one : List Block = block_of r ∷ [] in
    let asked = Contains-append_left (blocks_of plan.writes ++ one) (new_ranges v plan.needs) (block_of r)
    (Contains-append_right (blocks_of plan.writes) one (block_of r) (contains_head (block_of r) [])) in
    block_there w.prepared r (stays r (range_in v.prepared r was) asked)

-- ---- nothing was done

pub limit_is : (r : RoomStop) → r ≡ room.Limit → r ≡ room.NoMemory → ⊥
limit_is r is other = let same : room.Limit ≡ room.NoMemory = sym is ∙ other in cc

pub full_is : (r : RoomStop) (end need : ℕ) → r ≡ room.Full end need → r ≡ room.NoMemory → ⊥
full_is r end need is other = let same : room.Full end need ≡ room.NoMemory = sym is ∙ other in cc

module _ {V : Type 0} (view : V → SpaceView) (tells : Bool) (old new : Blocks V) (met : List Block) (plan : EditPlan)
    (r : RoomStop) (refused : IsRefusedBy (view (space_of old)) (length met) plan r)
    (same : view (space_of new) ≡ view (space_of old)) (keeps : Keeps view new met) where
  as_before : IsAsBefore view old new met
  as_before = record { view_is = same; keeps = keeps }

  pub limit_comes : r ≡ room.Limit → ComesTo view tells old new met plan outcome.Limit
  limit_comes is =
      let (ranges, touched, passes) = subst (IsRefusedBy (view (space_of old)) (length met) plan) is refused in
      record { ranges = ranges; touched = touched; comes = (passes, as_before) }

  pub full_comes : (end need : ℕ) → r ≡ room.Full end need → ComesTo view tells old new met plan (outcome.Full end need)
  full_comes end need is =
      let (ranges, touched, under, short) = subst (IsRefusedBy (view (space_of old)) (length met) plan) is refused in
      record { ranges = ranges; touched = touched; comes = (under, short, as_before) }

-- ---- what lies beside a plan for which there is room

module _ (v : SpaceView) (met : List Block) (plan : EditPlan) (ranges : List Extent)
    (sound : AreRegions v.regions v.ends) (fits : FitsCatalogue met plan) (has : HasRoomFor v (length met) plan.needs)
    (touched : IsTouchedBy v plan ranges) (a : ℕ) (out : ¬ IsTouched ranges a) where
  beside_write : (w : Extent) → Contains plan.writes w → (a < w.start) ⊎ (w.start + w.len ≤ a)
  beside_write w in_plan = elim (cases_lt a w.start) [
    | inl before ↦ inl before
    | inr from ↦ elim (cases_lt a (w.start + w.len)) [
      | inl inside ↦ absurd (out (touched.written a (w, in_plan, from, inside)))
      | inr behind ↦ inr behind
    ]
  ]

  is_taken : (c : MemClass) → v.ends c ≤ a → a < ends_after v.regions v.ends plan.takes c → IsTakenIn v plan a
  is_taken c low high =
      let after = ends_behind_needs v.regions v.ends met plan c sound fits in
      let same = needs_are_taken v met plan fits c in
      let most = has.below c in
      record { class = c; behind = low; before = omega (arith, high, after, same, most) }

  beside_take : (c : MemClass) → LiesBesideTake v.regions v.ends plan.takes a c
  beside_take c = elim (cases_lt a (v.ends c)) [
    | inl before ↦ inl before
    | inr from ↦ elim (cases_lt a (ends_after v.regions v.ends plan.takes c)) [
      | inl inside ↦ absurd (out (touched.taken a (is_taken c from inside)))
      | inr behind ↦ inr behind
    ]
  ]

  lies_beside : LiesBeside v.regions v.ends plan a
  lies_beside = record { writes = beside_write; takes = beside_take }

-- ---- the plan was begun

-- the space was readied for it first, which changes what is prepared and nothing else
module _ {V : Type 0} (view : V → SpaceView) (tells : Bool) (old mid new : Blocks V) (met : List Block)
    (plan : EditPlan) (ranges : List Extent)
    (readied : view (space_of mid) ≡ record (view (space_of old)) { prepared = (view (space_of mid)).prepared })
    (admitted : IsAdmitted (view (space_of old)) (length met) plan ranges) (fits : FitsCatalogue met plan) where
  is_done : IsTrue tells → IsApplied view tells mid new plan → SameKind (view (space_of mid)) (view (space_of new))
      → IsDone (view (space_of old)) (view (space_of new)) plan
  is_done told a kind =
      let w = view (space_of new) in
      let there : IsDone (view (space_of mid)) w plan = record {
        array = a.array told;
        ends = a.ends;
        pages = a.pages;
        history = a.history told;
        regions = kind.regions;
        writable = kind.writable;
      } in
      let here = subst (λ (x : SpaceView). IsDone x w plan) readied there in
      record {
        array = here.array;
        ends = here.ends;
        pages = here.pages;
        history = here.history;
        regions = here.regions;
        writable = here.writable;
      }

  pub done_comes : Keeps view mid met → SameKind (view (space_of mid)) (view (space_of new))
      → IsApplied view tells mid new plan → ComesTo view tells old new met plan outcome.Done
  done_comes keeps kind a =
      let (touched, under, has) = admitted in
      let found = subst (λ (x : SpaceView). Keeps view new (met ++ taken_blocks x.regions x.ends plan.takes)) readied
      (a.found met keeps fits) in
      record {
        ranges = ranges;
        touched = touched;
        comes = (under, record { room = has; done = λ told. is_done told a kind; keeps = found });
      }

  -- what is beside it stays where a fault comes
  abbrev Stays : SpaceView → Type 0
  Stays x = (a : ℕ) → LiesBeside x.regions x.ends plan a → (view (space_of new)).array a ≡ x.array a

  abbrev Risen : SpaceView → Type 0
  Risen x = RisenInPart x.regions x.ends plan.takes (view (space_of new)).ends

  pub part_left : AreRegions (view (space_of old)).regions (view (space_of old)).ends
      → ((a : ℕ) → LiesBeside (view (space_of mid)).regions (view (space_of mid)).ends plan a
      → (view (space_of new)).array a ≡ (view (space_of mid)).array a)
      → RisenInPart (view (space_of mid)).regions (view (space_of mid)).ends plan.takes (view (space_of new)).ends
      → InPart (view (space_of old)) (view (space_of new)) met plan
  part_left sound stays risen =
      let (touched, under, has) = admitted in
      let here = subst Stays readied stays in
      record {
        ranges = ranges;
        touched = touched;
        under = under;
        room = has;
        stays = λ a out. here a (lies_beside (view (space_of old)) met plan ranges sound fits has touched a out);
        ends = subst Risen readied risen;
      }
