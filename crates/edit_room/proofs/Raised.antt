-- Which addresses a plan writes in a space that has room for it.
use Rattle.std.proofs.Common.{◌≡◌, ◌⊎◌, inl, inr, ℕ, ◌+◌, ◌<◌, ◌≤◌, List, [], ◌∷◌, length, ap, arith}
use Rattle.std.specs.List.{Contains}
use Rattle.std.proofs.lemmas.Bool.{cases_Bool, cases_lt}
use Rattle.h5_base.specs.declared.extent.Extent.{Extent}
use Rattle.h5_base.specs.declared.extent.MemClass.{MemClass}
use Rattle.h5_base.specs.declared.extent.Region.{Region}
use Rattle.outside.specs.Array.{Ends}
use Rattle.outside.specs.Blocks.{Block}
use Rattle.outside.specs.Space.{AreRegions, SpaceView, same_region}
use Rattle.block_space.specs.Catalogue.{blocks_of}
use Rattle.block_space.specs.Plans.{EndsBehindNeeds, FitsCatalogue, HasRoomFor, LiesBesideTake, PlannedStays}
use Rattle.block_space.specs.Plans.{ends_after, rounded}
use Rattle.block_space.specs.Written.{planned_blocks, raised_blocks}
use Rattle.block_space.specs.declared.plan.EditPlan.{EditPlan}
use Rattle.block_space.specs.declared.plan.Take.{Take}
use Rattle.block_space.proofs.Apart.{contains_cons, contains_head, contains_tail, none_contained}
use Rattle.block_space.proofs.Ends.{EndsAsOne, ends_as_one, raised_itself, raised_one, raised_other, raised_up}
use Rattle.block_space.proofs.Planned.{after_up, ends_with, own_as_one, with_as_one}
use Rattle.session_model.specs.State.{IsTouched}
use Rattle.edit_room.specs.Touched.{IsTakenIn, IsTouchedBy, PagesAreTouched, StaysBeside}
use Rattle.edit_room.proofs.Addresses.{IsIn, in_cases, in_left, in_ranges, in_right, one_block, ranges_in}
use Rattle.edit_room.proofs.Pages.{tells_alike}
use Rattle.edit_room.proofs.Touched.{needs_are_taken}

-- between the ends of the region of a class before and behind takes
abbrev pub IsBehind : (MemClass → Region) → Ends → List Take → ℕ → Type 0
IsBehind regions ends ts a = (c : MemClass) × (ends c ≤ a) × (a < ends_after regions ends ts c)

module _ (regions : MemClass → Region) where
  -- the block of a take, with the bytes up to the next multiple of 8
  first_block : Ends → Take → Block
  first_block ends t = one_block (ends t.class) (rounded t.len)

  pub raised_in : (ends : Ends) (ts : List Take) (a : ℕ) → ((c : MemClass) → EndsAsOne regions ends c)
      → IsIn (raised_blocks regions ends ts) a → IsBehind regions ends ts a
  raised_in ends [] a as_one (b, has, low, high) = absurd (none_contained b has)
  raised_in ends (t ∷ ts) a as_one (b, has, low, high) =
      let first : Block = one_block (ends t.class) (rounded t.len) in
      let next = ends_with regions ends t in
      elim (contains_cons first (raised_blocks regions next ts) b has) [
        | inl is ↦
            let start : ends t.class ≡ b.start = ap (λ (x : Block). x.start) is in
            let len : rounded t.len ≡ b.len = ap (λ (x : Block). x.len) is in
            let up = after_up regions next ts t.class (own_as_one regions ends t) in
            let own = raised_itself regions ends t.class (ends t.class + rounded t.len) in
            (t.class, omega (arith, low, start), omega (arith, high, start, len, up, own))
        | inr later ↦
            let i = raised_in next ts a (λ c. with_as_one regions ends t c (as_one c)) (b, later, low, high) in
            let up = raised_up regions ends t.class (ends t.class + rounded t.len) (as_one t.class) (omega arith) i.0 in
            (i.0, omega (arith, i.1, up), i.2)
      ]

  pub in_raised : (ends : Ends) (ts : List Take) (a : ℕ) → ((c : MemClass) → EndsAsOne regions ends c)
      → IsBehind regions ends ts a → IsIn (raised_blocks regions ends ts) a
  in_raised ends [] a as_one (c, low, high) = absurd (omega (arith, low, high))
  in_raised ends (t ∷ ts) a as_one (c, low, high) =
      let first : Block = one_block (ends t.class) (rounded t.len) in
      let next = ends_with regions ends t in
      let rest = raised_blocks regions next ts in
      elim (cases_lt a (next c)) [
        | inl below ↦ elim (cases_Bool (same_region (regions c) (regions t.class))) [
          | inl one ↦
              let end = as_one t.class c one in
              let new = raised_one regions ends t.class (ends t.class + rounded t.len) c one in
              (first, contains_head first rest, omega (arith, low, end), omega (arith, below, new))
          | inr other ↦
              let new = raised_other regions ends t.class (ends t.class + rounded t.len) c other in
              absurd (omega (arith, low, below, new))
        ]
        | inr behind ↦
            let i = in_raised next ts a (λ d. with_as_one regions ends t d (as_one d)) (c, behind, high) in
            (i.0, contains_tail first rest i.0 i.1, i.2, i.3)
      ]

-- ---- a plan for which there is room

module _ (v : SpaceView) (met : List Block) (plan : EditPlan) (ranges : List Extent) (law : EndsBehindNeeds)
    (sound : AreRegions v.regions v.ends) (fits : FitsCatalogue met plan) (room : HasRoomFor v (length met) plan.needs)
    (touched : IsTouchedBy v plan ranges) where
  as_one : (c : MemClass) → EndsAsOne v.regions v.ends c
  as_one = ends_as_one v.regions v.ends sound

  behind_taken : (c : MemClass) (a : ℕ) → v.ends c ≤ a → a < ends_after v.regions v.ends plan.takes c
      → IsTakenIn v plan a
  behind_taken c a low high =
      let after = law v.regions v.ends met plan c sound fits in
      let same = needs_are_taken v met plan fits c in
      let most = room.below c in
      record { class = c; behind = low; before = omega (arith, high, after, same, most) }

  taken_behind : (a : ℕ) → IsTakenIn v plan a → IsBehind v.regions v.ends plan.takes a
  taken_behind a t =
      let after = law v.regions v.ends met plan t.class sound fits in
      let same = needs_are_taken v met plan fits t.class in
      (t.class, t.behind, omega (arith, t.before, after, same))

  planned_in : (a : ℕ) → IsIn (planned_blocks v.regions v.ends plan) a → IsIn (blocks_of ranges) a
  planned_in a i =
      elim (in_cases (raised_blocks v.regions v.ends plan.takes) (blocks_of plan.writes) a i) [
        | inl left ↦
            let c = raised_in v.regions v.ends plan.takes a as_one left in
            in_ranges ranges a (touched.taken a (behind_taken c.0 a c.1 c.2))
        | inr right ↦ in_ranges ranges a (touched.written a (ranges_in plan.writes a right))
      ]

  in_planned : (a : ℕ) → IsIn (blocks_of ranges) a → IsIn (planned_blocks v.regions v.ends plan) a
  in_planned a i = elim (touched.reached a (ranges_in ranges a i)) [
    | inl written ↦ in_right (raised_blocks v.regions v.ends plan.takes) (blocks_of plan.writes) a
        (in_ranges plan.writes a written)
    | inr taken ↦ in_left (raised_blocks v.regions v.ends plan.takes) (blocks_of plan.writes) a
        (in_raised v.regions v.ends plan.takes a as_one (taken_behind a taken))
  ]

  beside_write : (a : ℕ) → ¬ IsTouched ranges a → (w : Extent) → Contains plan.writes w
      → (a < w.start) ⊎ (w.start + w.len ≤ a)
  beside_write a not w has = elim (cases_lt a w.start) [
    | inl before ↦ inl before
    | inr from ↦ elim (cases_lt a (w.start + w.len)) [
      | inl inside ↦ absurd (not (touched.written a (w, has, from, inside)))
      | inr behind ↦ inr behind
    ]
  ]

  beside_take : (a : ℕ) → ¬ IsTouched ranges a → (c : MemClass)
      → LiesBesideTake v.regions v.ends plan.takes a c
  beside_take a not c = elim (cases_lt a (v.ends c)) [
    | inl before ↦ inl before
    | inr from ↦ elim (cases_lt a (ends_after v.regions v.ends plan.takes c)) [
      | inl inside ↦ absurd (not (touched.taken a (behind_taken c a from inside)))
      | inr behind ↦ inr behind
    ]
  ]

pub pages_are_touched : EndsBehindNeeds → PagesAreTouched
pages_are_touched law v met plan ranges old new sound fits room touched tells =
    tells_alike (planned_blocks v.regions v.ends plan) (blocks_of ranges) old new
    (planned_in v met plan ranges law sound fits room touched)
    (in_planned v met plan ranges law sound fits room touched) tells

pub stays_beside : EndsBehindNeeds → PlannedStays → StaysBeside
stays_beside law stays v met plan ranges sound fits room touched a not =
    stays v.regions v.ends met plan v.array a fits (record {
      writes = beside_write v met plan ranges law sound fits room touched a not;
      takes = beside_take v met plan ranges law sound fits room touched a not;
    })
