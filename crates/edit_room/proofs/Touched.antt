-- Which addresses are touched: those of the writes, and those that are taken, class by class.
use Rattle.std.proofs.Common.{◌≡◌, ◌⊎◌, inl, inr, ℕ, ◌+◌, ◌-◌, ◌<◌, ◌≤◌, ◌==◌, min, Bool, true, List, []}
use Rattle.std.proofs.Common.{refl, ap, sym, ◌∙◌, subst, arith, if◌then◌else◌}
use Rattle.std.specs.List.{Contains, flat_map, sum_by}
use Rattle.std.specs.List.Sorted.{IsPermutation}
use Rattle.std.proofs.Math.Path.{fun_ext}
use Rattle.std.proofs.lemmas.Bool.{cases_Bool, eqb-true}
use Rattle.std.proofs.lemmas.List.Elements.{Contains-append_cases}
use Rattle.std.proofs.lemmas.List.Sorted.{Contains-permutation, IsPermutation-sym}
use Rattle.h5_base.specs.declared.extent.Extent.{Extent}
use Rattle.h5_base.specs.declared.extent.MemClass.{MemClass}
use Rattle.h5_base.specs.declared.extent.MemClass.TheVariants.{Super, Tree, Raw, GlobalHeap, LocalHeap, Header}
use Rattle.h5_base.specs.declared.extent.Region.{Region}
use Rattle.outside.specs.Blocks.{Block, placed}
use Rattle.outside.specs.Space.{AreRegions, SpaceView, same_region}
use Rattle.block_space.specs.Catalogue.{block_of, blocks_of}
use Rattle.block_space.specs.Plans.{FitsCatalogue, classes, need_of, needed, share, sum_of}
use Rattle.block_space.specs.declared.plan.EditPlan.{EditPlan}
use Rattle.block_space.specs.declared.plan.Needs.{Needs}
use Rattle.block_space.specs.declared.plan.Take.{Take}
use Rattle.block_space.proofs.Apart.{none_contained}
use Rattle.block_space.proofs.Ends.{OneRegion, ends_as_one, one_region}
use Rattle.session_model.specs.State.{IsTouched, needs_of}
use Rattle.edit_room.specs.Touched.{IsTakenIn, IsTouchedBy, NeedsAreTaken, cut_range, filled_ranges, touched_blocks}
use Rattle.edit_room.proofs.Addresses.{IsIn, block_there, class_there, flat_there, in_cases, in_left, in_other_order}
use Rattle.edit_room.proofs.Addresses.{in_ranges, in_right, one_block, placed_is, placed_there, ranges_in, some_term}
use Rattle.edit_room.proofs.Addresses.{there_flat}

-- ---- what is needed of a region

-- the sums by classes give each class its own
needed_of : (ts : List Take) (c : MemClass) → needed (needs_of ts) c ≡ sum_of c ts
needed_of ts Super = refl
needed_of ts Tree = refl
needed_of ts Raw = refl
needed_of ts GlobalHeap = refl
needed_of ts LocalHeap = refl
needed_of ts Header = refl

pub needs_are_taken : NeedsAreTaken
needs_are_taken v met plan fits c = ap
    (λ (f : MemClass → ℕ). sum_by (λ (d : MemClass). if same_region (v.regions d) (v.regions c) then f d else 0) classes)
    (fun_ext (λ d. fits.bytes d ∙ sym (needed_of plan.takes d)))

same_regions : (r s : Region) → OneRegion r s → r ≡ s
same_regions r s one = λ i. record { start = one.start i; limit = one.limit i }

-- classes of one region need the same of it
need_as_one : (regions : MemClass → Region) (needs : Needs) (c d : MemClass) → OneRegion (regions d) (regions c)
    → need_of regions needs d ≡ need_of regions needs c
need_as_one regions needs c d one = ap
    (λ (r : Region). sum_by (λ (e : MemClass). if same_region (regions e) r then needed needs e else 0) classes)
    (same_regions (regions d) (regions c) one)

-- what a class shares with another is something only where they have one region
shares_one : (regions : MemClass → Region) (needs : Needs) (c d : MemClass) → 0 < share regions needs c d
    → (same_region (regions d) (regions c) ≡ true) × (0 < needed needs d)
shares_one regions needs c d some = elim (cases_Bool (same_region (regions d) (regions c))) [
  | inl one ↦ (one, subst (λ (b : Bool). 0 < (if b then needed needs d else 0)) one some)
  | inr other ↦
      let none = subst (λ (b : Bool). 0 < (if b then needed needs d else 0)) other some in absurd (omega (arith, none))
]

-- an address behind the end of a class of which something is needed, within what is needed of the region
pub record IsNeeded (v : SpaceView) (needs : Needs) (a : ℕ) : Type 0 where
  pub class : MemClass
  pub some : 0 < needed needs class
  pub low : v.ends class ≤ a
  pub high : a < v.ends class + need_of v.regions needs class
  pub below : a < (v.regions class).limit

-- ---- a range of a class

-- its bytes
abbrev pub cut_len : SpaceView → Needs → MemClass → ℕ
cut_len v needs c = min (need_of v.regions needs c) ((v.regions c).limit - v.ends c)

cut_is : (v : SpaceView) (needs : Needs) (c : MemClass) (b : Block) → Contains (cut_range v needs c) b
    → (one_block (v.ends c) (cut_len v needs c) ≡ b) × (0 < cut_len v needs c)
cut_is v needs c b has = elim (cases_Bool (needed needs c == 0)) [
  | inl none ↦ absurd (none_contained b
      (subst (λ (t : Bool). Contains (if t then [] else (placed (v.ends c) (cut_len v needs c))) b) none has))
  | inr some ↦ placed_is (v.ends c) (cut_len v needs c) b
      (subst (λ (t : Bool). Contains (if t then [] else (placed (v.ends c) (cut_len v needs c))) b) some has)
]

cut_there : (v : SpaceView) (needs : Needs) (c : MemClass) → 0 < needed needs c → 0 < cut_len v needs c
    → Contains (cut_range v needs c) (one_block (v.ends c) (cut_len v needs c))
cut_there v needs c some bytes = elim (cases_Bool (needed needs c == 0)) [
  | inl none ↦ absurd (omega (arith, eqb-true (needed needs c) 0 none, some))
  | inr other ↦ subst
      (λ (t : Bool). Contains (if t then [] else (placed (v.ends c) (cut_len v needs c)))
      (one_block (v.ends c) (cut_len v needs c)))
      (sym other) (placed_there (v.ends c) (cut_len v needs c) bytes)
]

module _ (v : SpaceView) (plan : EditPlan) (met : List Block) (sound : AreRegions v.regions v.ends)
    (fits : FitsCatalogue met plan) where
  -- an address of the range of a class is taken
  cut_taken : (c : MemClass) (b : Block) (a : ℕ) → Contains (cut_range v plan.needs c) b → b.start ≤ a
      → a < b.start + b.len → IsTakenIn v plan a
  cut_taken c b a has low high =
      let is = cut_is v plan.needs c b has in
      let start : v.ends c ≡ b.start = ap (λ (d : Block). d.start) is.0 in
      let len : cut_len v plan.needs c ≡ b.len = ap (λ (d : Block). d.len) is.0 in
      let same = needs_are_taken v met plan fits c in
      record {
        class = c;
        behind = omega (arith, low, start);
        before = omega (arith, low, high, start, len, same, sound.high c);
      }

  -- an address that is taken lies behind the end of a class of which something is needed
  pub taken_of : (a : ℕ) → IsTakenIn v plan a → IsNeeded v plan.needs a
  taken_of a t =
      let c = t.class in
      let same = needs_are_taken v met plan fits c in
      let some : 0 < need_of v.regions plan.needs c = omega (arith, t.behind, t.before, same) in
      let term = some_term (share v.regions plan.needs c) classes some in
      let d = term.0 in
      let shared = shares_one v.regions plan.needs c d term.1 in
      let one = one_region (v.regions d) (v.regions c) shared.0 in
      let end = ends_as_one v.regions v.ends sound c d shared.0 in
      let needs = need_as_one v.regions plan.needs c d one in
      record {
        class = d;
        some = shared.1;
        low = omega (arith, t.behind, end);
        high = omega (arith, t.before, same, end, needs);
        below = omega (arith, t.before, one.limit);
      }

  -- so it is one of the range of that class
  taken_cut : (a : ℕ) → IsTakenIn v plan a → IsIn (flat_map (cut_range v plan.needs) classes) a
  taken_cut a t =
      let n = taken_of a t in
      let c = n.class in
      let block = one_block (v.ends c) (cut_len v plan.needs c) in
      let high : a < v.ends c + cut_len v plan.needs c = omega (arith, n.low, n.high, n.below) in (
        block,
        flat_there (cut_range v plan.needs) classes c block (class_there c)
            (cut_there v plan.needs c n.some (omega (arith, n.low, high))),
        n.low,
        high,
      )

-- ---- the ranges of writes

filled_is : (ranges : List Extent) (b : Block) → Contains (filled_ranges ranges) b
    → (r : Extent) × Contains ranges r × (block_of r ≡ b) × (0 < b.len)
filled_is ranges b has =
    let r = there_flat (λ (x : Extent). placed x.start x.len) ranges b has in
    let is = placed_is r.0.start r.0.len b r.2 in
    let len : r.0.len ≡ b.len = ap (λ (d : Block). d.len) is.0 in
    (r.0, r.1, is.0, omega (arith, len, is.1))

filled_touched : (ranges : List Extent) (a : ℕ) → IsIn (filled_ranges ranges) a → IsTouched ranges a
filled_touched ranges a i =
    let r = filled_is ranges i.0 i.1 in
    let start : r.0.start ≡ i.0.start = ap (λ (d : Block). d.start) r.2 in
    let len : r.0.len ≡ i.0.len = ap (λ (d : Block). d.len) r.2 in
    (r.0, r.1, omega (arith, i.2, start), omega (arith, i.3, start, len))

touched_filled : (ranges : List Extent) (a : ℕ) → IsTouched ranges a → IsIn (filled_ranges ranges) a
touched_filled ranges a t = (
  block_of t.0,
  flat_there (λ (x : Extent). placed x.start x.len) ranges t.0 (block_of t.0) t.1
      (placed_there t.0.start t.0.len (omega (arith, t.2, t.3))),
  t.2,
  t.3,
)

-- ---- all together

module _ (v : SpaceView) (plan : EditPlan) (met : List Block) (ranges : List Extent)
    (sound : AreRegions v.regions v.ends)
    (fits : FitsCatalogue met plan) (all : IsPermutation (blocks_of ranges) (touched_blocks v plan)) where
  some_here : (b : Block) → Contains (touched_blocks v plan) b → 0 < b.len
  some_here b has = elim (Contains-append_cases (filled_ranges plan.writes)
      (flat_map (cut_range v plan.needs) classes) b has) [
        | inl left ↦ let r = filled_is plan.writes b left in r.3
        | inr right ↦
            let c = there_flat (cut_range v plan.needs) classes b right in
            let is = cut_is v plan.needs c.0 b c.2 in
            let len : cut_len v plan.needs c.0 ≡ b.len = ap (λ (d : Block). d.len) is.0 in
            omega (arith, len, is.1)
      ]

  back : IsPermutation (touched_blocks v plan) (blocks_of ranges)
  back = IsPermutation-sym (blocks_of ranges) (touched_blocks v plan) all

  reached_here : (a : ℕ) → IsIn (touched_blocks v plan) a → IsTouched plan.writes a ⊎ IsTakenIn v plan a
  reached_here a i = elim (in_cases (filled_ranges plan.writes) (flat_map (cut_range v plan.needs) classes) a i) [
    | inl left ↦ inl (filled_touched plan.writes a left)
    | inr right ↦
        let c = there_flat (cut_range v plan.needs) classes right.0 right.1 in
        inr (cut_taken v plan met sound fits c.0 right.0 a c.2 right.2 right.3)
  ]

  here : (a : ℕ) → IsIn (touched_blocks v plan) a → IsTouched ranges a
  here a i = ranges_in ranges a (in_other_order (touched_blocks v plan) (blocks_of ranges) a back i)

  -- ranges that are all that is touched, class by class
  pub touched_by : IsTouchedBy v plan ranges
  touched_by = record {
    some = λ r has. some_here (block_of r)
        (Contains-permutation (blocks_of ranges) (touched_blocks v plan) (block_of r) all (block_there ranges r has));
    reached = λ a t. reached_here a
        (in_other_order (blocks_of ranges) (touched_blocks v plan) a all (in_ranges ranges a t));
    written = λ a t. here a (in_left (filled_ranges plan.writes) (flat_map (cut_range v plan.needs) classes) a
        (touched_filled plan.writes a t));
    taken = λ a t. here a (in_right (filled_ranges plan.writes) (flat_map (cut_range v plan.needs) classes) a
        (taken_cut v plan met sound fits a t));
  }
