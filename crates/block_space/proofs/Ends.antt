-- Where the regions of the classes end, before and after one of them is raised.
use Rattle.std.proofs.Common.{◌≡◌, ℕ, ◌≤◌, inl, inr, Bool, true, false, refl, sym, ◌∙◌, ap, arith, ◌==◌, if◌then◌else◌}
use Rattle.std.proofs.lemmas.Bool.{eqb-true, eq-eqb, and_parts, cases_Bool}
use Rattle.h5_base.specs.declared.extent.MemClass.{MemClass}
use Rattle.h5_base.specs.declared.extent.Region.{Region}
use Rattle.outside.specs.Array.{Ends}
use Rattle.outside.specs.Space.{AreRegions, raised, same_region}

-- two regions have one start and one limit
pub record OneRegion (r s : Region) : Type 0 where
  pub start : r.start ≡ s.start
  pub limit : r.limit ≡ s.limit

pub one_region : (r s : Region) → same_region r s ≡ true → OneRegion r s
one_region r s h =
    let parts = and_parts (r.start == s.start) (r.limit == s.limit) h in
    record { start = eqb-true r.start s.start parts.0; limit = eqb-true r.limit s.limit parts.1 }

pub same_as_one : (r s : Region) → OneRegion r s → same_region r s ≡ true
same_as_one r s one = rw (eq-eqb r.start s.start one.start) (eq-eqb r.limit s.limit one.limit)

pub same_itself : (r : Region) → same_region r r ≡ true
same_itself r = same_as_one r r (record { start = refl; limit = refl })

pub same_turned : (r s : Region) → same_region r s ≡ true → same_region s r ≡ true
same_turned r s h =
    let one = one_region r s h in same_as_one s r (record { start = sym one.start; limit = sym one.limit })

pub same_further : (r s t : Region) → same_region r s ≡ true → same_region s t ≡ true → same_region r t ≡ true
same_further r s t h k =
    let one = one_region r s h in
    let two = one_region s t k in
    same_as_one r t (record { start = one.start ∙ two.start; limit = one.limit ∙ two.limit })

-- two classes have one region if either of two others of one region does with each
same_either : (r s t : Region) → same_region r s ≡ true → same_region r t ≡ same_region s t
same_either r s t h = elim (cases_Bool (same_region r t)) [
  | inl one ↦ one ∙ sym (same_further s r t (same_turned r s h) one)
  | inr none ↦ elim (cases_Bool (same_region s t)) [
    | inl one ↦ let e = same_further r s t h one in absurd cc
    | inr other ↦ none ∙ sym other
  ]
]

-- classes of the region of one class have one end
abbrev pub EndsAsOne : (MemClass → Region) → Ends → MemClass → Type 0
EndsAsOne regions ends c = (d : MemClass) → same_region (regions d) (regions c) ≡ true → ends d ≡ ends c

pub ends_as_one : (regions : MemClass → Region) (ends : Ends) → AreRegions regions ends → (c : MemClass)
    → EndsAsOne regions ends c
ends_as_one regions ends sound c d same =
    let one = one_region (regions d) (regions c) same in
    let low = sound.low c in
    let high = sound.high c in
    let low_too = sound.low d in
    let high_too = sound.high d in
    elim (sound.apart d c) [
      | inl both ↦ both.1
      | inr apart ↦ elim apart [
        | inl below ↦ omega (arith, one.start, one.limit, low, high, low_too, high_too, below)
        | inr above ↦ omega (arith, one.start, one.limit, low, high, low_too, high_too, above)
      ]
    ]

module _ (regions : MemClass → Region) (ends : Ends) (c : MemClass) (end : ℕ) where
  pub raised_one : (d : MemClass) → same_region (regions d) (regions c) ≡ true → raised regions ends c end d ≡ end
  raised_one d same = ap (λ (b : Bool). if b then end else ends d) same

  pub raised_other : (d : MemClass) → same_region (regions d) (regions c) ≡ false → raised regions ends c end d ≡ ends d
  raised_other d same = ap (λ (b : Bool). if b then end else ends d) same

  pub raised_itself : raised regions ends c end c ≡ end
  raised_itself = raised_one c (same_itself (regions c))

  -- the classes of a region that had one end still do
  pub raised_as_one : (d e : MemClass) → same_region (regions d) (regions e) ≡ true → ends d ≡ ends e
      → raised regions ends c end d ≡ raised regions ends c end e
  raised_as_one d e same is = elim (cases_Bool (same_region (regions e) (regions c))) [
    | inl one ↦ raised_one d (same_either (regions d) (regions e) (regions c) same ∙ one) ∙ sym (raised_one e one)
    | inr other ↦ raised_other d (same_either (regions d) (regions e) (regions c) same ∙ other) ∙ is
        ∙ sym (raised_other e other)
  ]

  -- no end falls
  pub raised_up : EndsAsOne regions ends c → ends c ≤ end → (d : MemClass) → ends d ≤ raised regions ends c end d
  raised_up as_one up d = elim (cases_Bool (same_region (regions d) (regions c))) [
    | inl one ↦ omega (arith, as_one d one, up, raised_one d one)
    | inr other ↦ omega (arith, raised_other d other)
  ]
