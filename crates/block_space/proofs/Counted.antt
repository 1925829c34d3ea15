-- What a list of takes comes to for the region of a class.
use Rattle.std.proofs.Common.{◌≡◌, ℕ, ◌+◌, ◌<◌, ◌==◌, Bool, true, false, List, [], ◌∷◌, refl, sym, ◌∙◌, ap, arith}
use Rattle.std.proofs.Common.{if◌then◌else◌, inl, inr}
use Rattle.std.specs.List.{Contains, sum_by}
use Rattle.std.proofs.lemmas.Bool.{cases_Bool, eq-eqb}
use Rattle.std.proofs.lemmas.List.Sums.{get_or-le-sum_by, sum_by-cons}
use Rattle.std.proofs.Math.Path.{fun_ext}
use Rattle.h5_base.specs.declared.extent.MemClass.{MemClass}
use Rattle.h5_base.specs.declared.extent.MemClass.TheVariants.{Super, Tree, Raw, GlobalHeap, LocalHeap, Header}
use Rattle.h5_base.specs.declared.extent.Region.{Region}
use Rattle.outside.specs.Array.{Ends}
use Rattle.outside.specs.Space.{same_region}
use Rattle.block_space.specs.Plans.{classes, ends_after, need_of, needed, number_of, rounded, sum_of}
use Rattle.block_space.specs.declared.plan.Needs.{Needs}
use Rattle.block_space.specs.declared.plan.Take.{Take}
use Rattle.block_space.proofs.Ends.{EndsAsOne, raised_one, raised_other, same_turned}
use Rattle.block_space.proofs.Planned.{ends_with, with_as_one}

-- the bytes of the takes whose class passes a test
abbrev pub taken_by : (MemClass → Bool) → List Take → ℕ
taken_by test = sum_by (λ t. if test t.class then rounded t.len else 0)

-- the sum over the classes that pass a test
abbrev summed : (MemClass → Bool) → (MemClass → ℕ) → ℕ
summed test f = sum_by (λ d. if test d then f d else 0) classes

one_more : (b : Bool) (x y : ℕ) → (if b then x + y else 0) ≡ (if b then x else 0) + (if b then y else 0)
one_more true x y = refl
one_more false x y = omega arith

no_more : (b : Bool) (y : ℕ) → (if b then 0 + y else 0) ≡ (if b then y else 0)
no_more true y = omega arith
no_more false y = refl

all_none : (b : Bool) → (if b then (let z : ℕ = 0 in z) else 0) ≡ (let z : ℕ = 0 in z)
all_none true = refl
all_none false = refl

-- a take counts for its own class alone
counts_once : (test : MemClass → Bool) (f : MemClass → ℕ) (c : MemClass) (n : ℕ)
    → summed test (λ d. (if number_of c == number_of d then n else 0) + f d) ≡ (if test c then n else 0) + summed test f
counts_once test f Super n = omega (
  arith,
  one_more (test Super) n (f Super),
  no_more (test Tree) (f Tree),
  no_more (test Raw) (f Raw),
  no_more (test GlobalHeap) (f GlobalHeap),
  no_more (test LocalHeap) (f LocalHeap),
  no_more (test Header) (f Header),
)
counts_once test f Tree n = omega (
  arith,
  no_more (test Super) (f Super),
  one_more (test Tree) n (f Tree),
  no_more (test Raw) (f Raw),
  no_more (test GlobalHeap) (f GlobalHeap),
  no_more (test LocalHeap) (f LocalHeap),
  no_more (test Header) (f Header),
)
counts_once test f Raw n = omega (
  arith,
  no_more (test Super) (f Super),
  no_more (test Tree) (f Tree),
  one_more (test Raw) n (f Raw),
  no_more (test GlobalHeap) (f GlobalHeap),
  no_more (test LocalHeap) (f LocalHeap),
  no_more (test Header) (f Header),
)
counts_once test f GlobalHeap n = omega (
  arith,
  no_more (test Super) (f Super),
  no_more (test Tree) (f Tree),
  no_more (test Raw) (f Raw),
  one_more (test GlobalHeap) n (f GlobalHeap),
  no_more (test LocalHeap) (f LocalHeap),
  no_more (test Header) (f Header),
)
counts_once test f LocalHeap n = omega (
  arith,
  no_more (test Super) (f Super),
  no_more (test Tree) (f Tree),
  no_more (test Raw) (f Raw),
  no_more (test GlobalHeap) (f GlobalHeap),
  one_more (test LocalHeap) n (f LocalHeap),
  no_more (test Header) (f Header),
)
counts_once test f Header n = omega (
  arith,
  no_more (test Super) (f Super),
  no_more (test Tree) (f Tree),
  no_more (test Raw) (f Raw),
  no_more (test GlobalHeap) (f GlobalHeap),
  no_more (test LocalHeap) (f LocalHeap),
  one_more (test Header) n (f Header),
)

-- the takes by their classes come to what the classes have of them
by_classes : (test : MemClass → Bool) (ts : List Take) → taken_by test ts ≡ summed test (λ d. sum_of d ts)
by_classes test [] = omega (
  arith,
  all_none (test Super),
  all_none (test Tree),
  all_none (test Raw),
  all_none (test GlobalHeap),
  all_none (test LocalHeap),
  all_none (test Header),
)
by_classes test (t ∷ ts) =
    sum_by-cons (λ (t : Take). if test t.class then rounded t.len else 0) t ts
    ∙ ap (λ (n : ℕ). (if test t.class then rounded t.len else 0) + n) (by_classes test ts)
    ∙ sym (counts_once test (λ d. sum_of d ts) t.class (rounded t.len))
    ∙ ap (summed test) (fun_ext (λ d.
    sym (sum_by-cons (λ (u : Take). if number_of u.class == number_of d then rounded u.len else 0) t ts)))

-- the bytes that a list of takes needs of the region of a class
abbrev pub left_of : (MemClass → Region) → List Take → MemClass → ℕ
left_of regions ts c = taken_by (λ d. same_region (regions d) (regions c)) ts

same_both : (r s : Region) → same_region r s ≡ same_region s r
same_both r s = elim (cases_Bool (same_region r s)) [
  | inl one ↦ one ∙ sym (same_turned r s one)
  | inr other ↦ elim (cases_Bool (same_region s r)) [
    | inl turned ↦ let e = same_turned s r turned in absurd cc
    | inr none ↦ other ∙ sym none
  ]
]

with_one : (regions : MemClass → Region) (ends : Ends) (t : Take) (c : MemClass) → EndsAsOne regions ends c
    → ends_with regions ends t c ≡ ends c + (if same_region (regions t.class) (regions c) then rounded t.len else 0)
with_one regions ends t c as_one = elim (cases_Bool (same_region (regions c) (regions t.class))) [
  | inl one ↦
      let test = sym (same_both (regions c) (regions t.class)) ∙ one in
      omega (
        arith,
        raised_one regions ends t.class (ends t.class + rounded t.len) c one,
        as_one t.class test,
        ap (λ (b : Bool). if b then rounded t.len else 0) test,
      )
  | inr other ↦
      let test = sym (same_both (regions c) (regions t.class)) ∙ other in
      omega (
        arith,
        raised_other regions ends t.class (ends t.class + rounded t.len) c other,
        ap (λ (b : Bool). if b then rounded t.len else 0) test,
      )
]

after_left : (regions : MemClass → Region) (ends : Ends) (ts : List Take) (c : MemClass) → EndsAsOne regions ends c
    → ends_after regions ends ts c ≡ ends c + left_of regions ts c
after_left regions ends [] c as_one = omega arith
after_left regions ends (t ∷ ts) c as_one = omega (
  arith,
  after_left regions (ends_with regions ends t) ts c (with_as_one regions ends t c as_one),
  with_one regions ends t c as_one,
  sum_by-cons (λ (u : Take). if same_region (regions u.class) (regions c) then rounded u.len else 0) t ts,
)

-- Where takes are all that is needed, the region of a class ends behind what is needed of it.
pub after_needed : (regions : MemClass → Region) (ends : Ends) (needs : Needs) (ts : List Take) (c : MemClass)
    → EndsAsOne regions ends c → ((d : MemClass) → needed needs d ≡ sum_of d ts)
    → ends_after regions ends ts c ≡ ends c + need_of regions needs c
after_needed regions ends needs ts c as_one bytes =
    after_left regions ends ts c as_one
    ∙ ap (λ (n : ℕ). ends c + n) (by_classes (λ d. same_region (regions d) (regions c)) ts
    ∙ ap (summed (λ d. same_region (regions d) (regions c))) (fun_ext (λ d. sym (bytes d))))

-- something is needed of the class of a take
pub some_needed : (needs : Needs) (ts : List Take) (t : Take) → Contains ts t → 0 < t.len
    → needed needs t.class ≡ sum_of t.class ts
    → 0 < needed needs t.class
some_needed needs ts t (k, l, is) some bytes =
    let f : Take → ℕ = λ u. if number_of u.class == number_of t.class then rounded u.len else 0 in
    let own : f t ≡ rounded t.len = ap (λ (b : Bool). if b then rounded t.len else 0) (eq-eqb (number_of t.class)
    (number_of t.class) refl) in
    omega (arith, get_or-le-sum_by f ts k t l, ap f is, own, bytes, some)
