-- What is needed of a region with one block more of a class.
use Rattle.std.proofs.Common.{◌≡◌, ◌≢◌, ℕ, ◌+◌, Bool, true, false, sym, ◌∙◌, ap, arith, inl, inr}
use Rattle.std.proofs.Common.{if◌then◌else◌}
use Rattle.std.proofs.lemmas.Bool.{cases_Bool}
use Rattle.std.specs.List.{sum_by}
use Rattle.std.proofs.Math.Path.{fun_ext}
use Rattle.h5_base.specs.declared.extent.MemClass.{MemClass}
use Rattle.h5_base.specs.declared.extent.MemClass.TheVariants.{Super, Tree, Raw, GlobalHeap, LocalHeap, Header}
use Rattle.h5_base.specs.declared.extent.Region.{Region}
use Rattle.outside.specs.Space.{same_region}
use Rattle.block_space.specs.Plans.{classes, need_of, needed, number_of, rounded}
use Rattle.block_space.specs.declared.plan.Needs.{Needs}
use Rattle.block_space.proofs.Ends.{same_further, same_turned}
use Rattle.plan_pieces.specs.Plan.{IsWithBlock}

-- a region's bytes of a class, where it has that class
abbrev part : Bool → ℕ → ℕ
part has n = if has then n else 0

one_more : (has : Bool) (old new n : ℕ) → new ≡ old + n → part has new ≡ part has old + part has n
one_more true old new n is = is
one_more false old new n is = omega arith

none_more : (has : Bool) (old new : ℕ) → new ≡ old → part has new ≡ part has old
none_more has old new is = ap (part has) is

-- with one block more of a class, its region needs that much more
need_more : (regions : MemClass → Region) (old new : Needs) (class : MemClass) (len : ℕ) (c : MemClass)
    → IsWithBlock old class len new
    → need_of regions new c
    ≡ need_of regions old c + (if same_region (regions class) (regions c) then rounded len else 0)
need_more regions old new class len c is = go class is.own is.others
  where
    has : MemClass → Bool
    has d = same_region (regions d) (regions c)

    Rest : MemClass → Type 0
    Rest k = (d : MemClass) → number_of d ≢ number_of k → needed new d ≡ needed old d

    same : (k d : MemClass) → Rest k → number_of d ≢ number_of k
        → part (has d) (needed new d) ≡ part (has d) (needed old d)
    same k d others differ = none_more (has d) (needed old d) (needed new d) (others d differ)

    go : (k : MemClass) → needed new k ≡ needed old k + rounded len → Rest k
        → need_of regions new c ≡ need_of regions old c + part (has k) (rounded len)
    go Super own others = omega (
      arith,
      one_more (has Super) (needed old Super) (needed new Super) (rounded len) own,
      same Super Tree others (omega arith),
      same Super Raw others (omega arith),
      same Super GlobalHeap others (omega arith),
      same Super LocalHeap others (omega arith),
      same Super Header others (omega arith),
    )
    go Tree own others = omega (
      arith,
      same Tree Super others (omega arith),
      one_more (has Tree) (needed old Tree) (needed new Tree) (rounded len) own,
      same Tree Raw others (omega arith),
      same Tree GlobalHeap others (omega arith),
      same Tree LocalHeap others (omega arith),
      same Tree Header others (omega arith),
    )
    go Raw own others = omega (
      arith,
      same Raw Super others (omega arith),
      same Raw Tree others (omega arith),
      one_more (has Raw) (needed old Raw) (needed new Raw) (rounded len) own,
      same Raw GlobalHeap others (omega arith),
      same Raw LocalHeap others (omega arith),
      same Raw Header others (omega arith),
    )
    go GlobalHeap own others = omega (
      arith,
      same GlobalHeap Super others (omega arith),
      same GlobalHeap Tree others (omega arith),
      same GlobalHeap Raw others (omega arith),
      one_more (has GlobalHeap) (needed old GlobalHeap) (needed new GlobalHeap) (rounded len) own,
      same GlobalHeap LocalHeap others (omega arith),
      same GlobalHeap Header others (omega arith),
    )
    go LocalHeap own others = omega (
      arith,
      same LocalHeap Super others (omega arith),
      same LocalHeap Tree others (omega arith),
      same LocalHeap Raw others (omega arith),
      same LocalHeap GlobalHeap others (omega arith),
      one_more (has LocalHeap) (needed old LocalHeap) (needed new LocalHeap) (rounded len) own,
      same LocalHeap Header others (omega arith),
    )
    go Header own others = omega (
      arith,
      same Header Super others (omega arith),
      same Header Tree others (omega arith),
      same Header Raw others (omega arith),
      same Header GlobalHeap others (omega arith),
      same Header LocalHeap others (omega arith),
      one_more (has Header) (needed old Header) (needed new Header) (rounded len) own,
    )

same_both : (r s : Region) → same_region r s ≡ same_region s r
same_both r s = elim (cases_Bool (same_region r s)) [
  | inl one ↦ one ∙ sym (same_turned r s one)
  | inr other ↦ elim (cases_Bool (same_region s r)) [
    | inl turned ↦ let e = same_turned s r turned in absurd cc
    | inr none ↦ other ∙ sym none
  ]
]

-- two regions that are one are the same beside any other
same_beside : (q r s : Region) → same_region r s ≡ true → same_region q r ≡ same_region q s
same_beside q r s h = elim (cases_Bool (same_region q r)) [
  | inl one ↦ one ∙ sym (same_further q r s one h)
  | inr other ↦ elim (cases_Bool (same_region q s)) [
    | inl two ↦ let e = same_further q s r two (same_turned r s h) in absurd cc
    | inr none ↦ other ∙ sym none
  ]
]

-- classes of one region have one need
pub need_as_one : (regions : MemClass → Region) (needs : Needs) (c d : MemClass)
    → same_region (regions c) (regions d) ≡ true → need_of regions needs c ≡ need_of regions needs d
need_as_one regions needs c d h = ap (λ (f : MemClass → ℕ). sum_by f classes)
    (fun_ext (λ e. ap (λ (b : Bool). part b (needed needs e)) (same_beside (regions e) (regions c) (regions d) h)))

-- whether a class has the region of another, what the region needs is more or stays
pub need_same_region : (regions : MemClass → Region) (old new : Needs) (class : MemClass) (len : ℕ) (c : MemClass)
    → IsWithBlock old class len new → same_region (regions c) (regions class) ≡ true
    → need_of regions new c ≡ need_of regions old class + rounded len
need_same_region regions old new class len c is one =
    let test = same_turned (regions c) (regions class) one in
    need_more regions old new class len c is
    ∙ ap (λ (b : Bool). need_of regions old c + part b (rounded len)) test
    ∙ ap (λ (n : ℕ). n + rounded len) (need_as_one regions old c class one)

pub need_other_region : (regions : MemClass → Region) (old new : Needs) (class : MemClass) (len : ℕ) (c : MemClass)
    → IsWithBlock old class len new → same_region (regions c) (regions class) ≡ false
    → need_of regions new c ≡ need_of regions old c
need_other_region regions old new class len c is other =
    let test = same_both (regions class) (regions c) ∙ other in
    omega (
      arith,
      need_more regions old new class len c is,
      ap (λ (b : Bool). part b (rounded len)) test,
    )
