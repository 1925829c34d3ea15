-- What a plan makes of the bytes and of the ends.
use Rattle.std.proofs.Common.{◌≡◌, ◌⊎◌, inl, inr, ℕ, ◌+◌, ◌<◌, ◌≤◌, true, false, List, [], ◌∷◌, length, drop, sym, ◌∙◌}
use Rattle.std.proofs.Common.{refl, ap, arith}
use Rattle.std.proofs.lemmas.Bool.{cases_Bool}
use Rattle.h5_base.specs.declared.extent.Extent.{Extent}
use Rattle.h5_base.specs.declared.extent.MemClass.{MemClass}
use Rattle.h5_base.specs.declared.extent.Region.{Region}
use Rattle.outside.specs.Array.{Array, Ends, over}
use Rattle.outside.specs.Space.{raised, same_region}
use Rattle.block_space.specs.Plans.{AreAsLong, AreFilled, LiesBesideTake, LiesBesideWrites, PlannedStays}
use Rattle.block_space.specs.Plans.{ends_after, padded_to, rounded, with_takes, with_writes}
use Rattle.block_space.specs.declared.plan.Take.{Take}
use Rattle.block_space.proofs.Apart.{contains_head, contains_tail}
use Rattle.block_space.proofs.Overlaid.{over_outside, padded_length}
use Rattle.block_space.proofs.Ends.{EndsAsOne, raised_as_one, raised_itself, raised_one, raised_other, same_turned}

-- an image isn't longer than its block
pub filled_short : (t : Take) (image : List ℕ) → (image ≡ []) ⊎ (length image ≡ t.len) → length image ≤ t.len
filled_short t image (inl none) = omega (arith, ap length none)
filled_short t image (inr whole) = omega (arith, whole)

-- ---- ends

-- where the regions end once a block is taken
abbrev pub ends_with : (MemClass → Region) → Ends → Take → Ends
ends_with regions ends t = raised regions ends t.class (ends t.class + rounded t.len)

module _ (regions : MemClass → Region) where
  -- classes of one region end alike
  after_as_one : (ends : Ends) (ts : List Take) (c d : MemClass) → same_region (regions d) (regions c) ≡ true
      → ends d ≡ ends c
      → ends_after regions ends ts d ≡ ends_after regions ends ts c
  after_as_one ends [] c d same is = is
  after_as_one ends (t ∷ ts) c d same is = after_as_one (ends_with regions ends t) ts c d same
      (raised_as_one regions ends t.class (ends t.class + rounded t.len) d c same is)

  -- the classes of a region that had one end have one still
  pub with_as_one : (ends : Ends) (t : Take) (c : MemClass) → EndsAsOne regions ends c
      → EndsAsOne regions (ends_with regions ends t) c
  with_as_one ends t c as_one d same = raised_as_one regions ends t.class (ends t.class + rounded t.len) d c same
      (as_one d same)

  -- its own classes have one end once a block is taken of it
  pub own_as_one : (ends : Ends) (t : Take) → EndsAsOne regions (ends_with regions ends t) t.class
  own_as_one ends t d same = raised_one regions ends t.class (ends t.class + rounded t.len) d same
      ∙ sym (raised_itself regions ends t.class (ends t.class + rounded t.len))

  -- no end falls, where the classes of its region have one
  with_up : (ends : Ends) (t : Take) (c : MemClass) → EndsAsOne regions ends c → ends c ≤ ends_with regions ends t c
  with_up ends t c as_one = elim (cases_Bool (same_region (regions c) (regions t.class))) [
    | inl one ↦ omega (
      arith,
      raised_one regions ends t.class (ends t.class + rounded t.len) c one,
      as_one t.class (same_turned (regions c) (regions t.class) one),
    )
    | inr other ↦ omega (arith, raised_other regions ends t.class (ends t.class + rounded t.len) c other)
  ]

  pub after_up : (ends : Ends) (ts : List Take) (c : MemClass) → EndsAsOne regions ends c
      → ends c ≤ ends_after regions ends ts c
  after_up ends [] c as_one = omega arith
  after_up ends (t ∷ ts) c as_one = omega (
    arith,
    with_up ends t c as_one,
    after_up (ends_with regions ends t) ts c (with_as_one ends t c as_one),
  )

  beside_own : (ends : Ends) (t : Take) (ts : List Take) (a : ℕ) → LiesBesideTake regions ends (t ∷ ts) a t.class
      → (a < ends t.class) ⊎ (ends t.class + rounded t.len ≤ a)
  beside_own ends t ts a (inl below) = inl below
  beside_own ends t ts a (inr behind) = inr (omega (
    arith,
    behind,
    raised_itself regions ends t.class (ends t.class + rounded t.len),
    after_up (ends_with regions ends t) ts t.class (own_as_one ends t),
  ))

  beside_one : (ends : Ends) (t : Take) (ts : List Take) (a : ℕ) (c : MemClass)
      → same_region (regions c) (regions t.class) ≡ true
      → LiesBesideTake regions ends (t ∷ ts) a t.class → LiesBesideTake regions (ends_with regions ends t) ts a c
  beside_one ends t ts a c one (inl below) =
      inl (omega (arith, below, raised_one regions ends t.class (ends t.class + rounded t.len) c one))
  beside_one ends t ts a c one (inr behind) = inr (omega (
    arith,
    behind,
    after_as_one (ends_with regions ends t) ts t.class c one (own_as_one ends t c one),
  ))

  beside_other : (ends : Ends) (t : Take) (ts : List Take) (a : ℕ) (c : MemClass)
      → same_region (regions c) (regions t.class) ≡ false
      → LiesBesideTake regions ends (t ∷ ts) a c → LiesBesideTake regions (ends_with regions ends t) ts a c
  beside_other ends t ts a c other (inl below) =
      inl (omega (arith, below, raised_other regions ends t.class (ends t.class + rounded t.len) c other))
  beside_other ends t ts a c other (inr behind) = inr behind

  pub beside_rest : (ends : Ends) (t : Take) (ts : List Take) (a : ℕ) → ((c : MemClass)
      → LiesBesideTake regions ends (t ∷ ts) a c)
      → (c : MemClass) → LiesBesideTake regions (ends_with regions ends t) ts a c
  beside_rest ends t ts a beside c = elim (cases_Bool (same_region (regions c) (regions t.class))) [
    | inl one ↦ beside_one ends t ts a c one (beside t.class)
    | inr other ↦ beside_other ends t ts a c other (beside c)
  ]

  pub takes_stay : (ends : Ends) (ts : List Take) (images : List (List ℕ)) (b : Array) (a : ℕ) → AreFilled ts images
      → ((c : MemClass) → LiesBesideTake regions ends ts a c) → with_takes regions ends ts images b a ≡ b a
  takes_stay ends [] images b a filled beside = refl
  takes_stay ends (t ∷ ts) [] b a filled beside = refl
  takes_stay ends (t ∷ ts) (i ∷ is) b a filled beside =
      let bytes = padded_to (rounded t.len) i in
      let short : length i ≤ rounded t.len = omega (arith, filled_short t i filled.1) in
      let long = padded_length (rounded t.len) i short in
      takes_stay (ends_with regions ends t) ts is (over b (ends t.class) bytes) a filled.2 (beside_rest ends t ts a
      beside)
      ∙ over_outside b (ends t.class) bytes a (rw long (beside_own ends t ts a (beside t.class)))

pub writes_stay : (ws : List Extent) (images : List (List ℕ)) (b : Array) (a : ℕ) → AreAsLong ws images
    → LiesBesideWrites ws a
    → with_writes ws images b a ≡ b a
writes_stay [] images b a long beside = refl
writes_stay (w ∷ ws) [] b a long beside = refl
writes_stay (w ∷ ws) (i ∷ is) b a long beside =
    writes_stay ws is (over b w.start i) a long.1 (λ v has. beside v (contains_tail w ws v has))
    ∙ over_outside b w.start i a (rw long.0 (beside w (contains_head w ws)))

pub planned_stays : PlannedStays
planned_stays regions ends met plan b a fits beside =
    let after = with_takes regions ends plan.takes (drop (length plan.writes) plan.images) b in
    writes_stay plan.writes plan.images after a fits.as_long beside.writes
    ∙ takes_stay regions ends plan.takes (drop (length plan.writes) plan.images) b a fits.filled beside.takes
