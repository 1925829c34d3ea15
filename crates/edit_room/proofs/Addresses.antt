-- Addresses of lists of blocks and of ranges.
use Rattle.std.proofs.Common.{◌≡◌, ◌⊎◌, inl, inr, ℕ, ◌+◌, ◌^◌, ◌<◌, ◌≤◌, ◌==◌, Bool, List, [], ◌∷◌, ◌++◌, refl, sym, ap}
use Rattle.std.proofs.Common.{subst, arith, if◌then◌else◌}
use Rattle.std.specs.List.{Contains, flat_map, sum_by}
use Rattle.std.specs.List.Sorted.{IsPermutation}
use Rattle.std.proofs.Math.Bridge.{le_prop}
use Rattle.std.proofs.lemmas.Bool.{cases_Bool, cases_lt, eqb-true}
use Rattle.std.proofs.lemmas.List.Elements.{Contains-append_cases, Contains-append_left, Contains-append_right}
use Rattle.std.proofs.lemmas.List.Sorted.{Contains-permutation}
use Rattle.std.proofs.lemmas.List.Sums.{sum_by-cons}
use Rattle.h5_base.specs.declared.extent.Extent.{Extent}
use Rattle.h5_base.specs.declared.extent.MemClass.{MemClass}
use Rattle.h5_base.specs.declared.extent.MemClass.TheVariants.{Super, Tree, Raw, GlobalHeap, LocalHeap, Header}
use Rattle.outside.specs.Blocks.{Block, placed}
use Rattle.block_space.specs.Catalogue.{block_of, blocks_of}
use Rattle.block_space.specs.Plans.{classes}
use Rattle.block_space.proofs.Apart.{contains_cons, contains_head, contains_tail, none_contained}
use Rattle.session_model.specs.State.{IsTouched}

-- an address lies in one of the blocks
abbrev pub IsIn : List Block → ℕ → Type 0
IsIn bs a = (b : Block) × Contains bs b × (b.start ≤ a) × (a < b.start + b.len)

-- ---- ranges as blocks

pub block_there : (xs : List Extent) (x : Extent) → Contains xs x → Contains (blocks_of xs) (block_of x)
block_there [] x has = absurd (none_contained x has)
block_there (y ∷ ys) x has = elim (contains_cons y ys x has) [
  | inl is ↦ subst (λ (z : Extent). Contains (blocks_of (y ∷ ys)) (block_of z)) is
      (contains_head (block_of y) (blocks_of ys))
  | inr later ↦ contains_tail (block_of y) (blocks_of ys) (block_of x) (block_there ys x later)
]

pub range_there : (xs : List Extent) (b : Block) → Contains (blocks_of xs) b
    → (r : Extent) × Contains xs r × (block_of r ≡ b)
range_there [] b has = absurd (none_contained b has)
range_there (x ∷ xs) b has = elim (contains_cons (block_of x) (blocks_of xs) b has) [
  | inl is ↦ (x, contains_head x xs, is)
  | inr later ↦ let r = range_there xs b later in (r.0, contains_tail x xs r.0 r.1, r.2)
]

pub in_ranges : (xs : List Extent) (a : ℕ) → IsTouched xs a → IsIn (blocks_of xs) a
in_ranges xs a t = (block_of t.0, block_there xs t.0 t.1, t.2, t.3)

pub ranges_in : (xs : List Extent) (a : ℕ) → IsIn (blocks_of xs) a → IsTouched xs a
ranges_in xs a i =
    let r = range_there xs i.0 i.1 in
    let start : r.0.start ≡ i.0.start = ap (λ (c : Block). c.start) r.2 in
    let len : r.0.len ≡ i.0.len = ap (λ (c : Block). c.len) r.2 in
    (r.0, r.1, omega (arith, i.2, start), omega (arith, i.3, start, len))

-- two ranges of one start and one length are equal
pub same_extent : (x y : Extent) → x.start ≡ y.start → x.len ≡ y.len → x ≡ y
same_extent x y start len =
    let here : (f : y.start + y.len < 2 ^ 64) → (record { start = y.start; len = y.len; fits = f }) ≡ y = λ f.
    ap (λ (p : y.start + y.len < 2 ^ 64). let z : Extent = record { start = y.start; len = y.len; fits = p } in z)
    (le_prop f y.fits) in
    let moved : (f : x.start + y.len < 2 ^ 64) → (record { start = x.start; len = y.len; fits = f }) ≡ y =
    subst (λ (s : ℕ). (f : s + y.len < 2 ^ 64) → (record { start = s; len = y.len; fits = f }) ≡ y) (sym start) here in
    subst (λ (l : ℕ). (f : x.start + l < 2 ^ 64) → (record { start = x.start; len = l; fits = f }) ≡ y) (sym len) moved
    x.fits

-- ---- lists of blocks

pub in_left : (xs ys : List Block) (a : ℕ) → IsIn xs a → IsIn (xs ++ ys) a
in_left xs ys a i = (i.0, Contains-append_left xs ys i.0 i.1, i.2, i.3)

pub in_right : (xs ys : List Block) (a : ℕ) → IsIn ys a → IsIn (xs ++ ys) a
in_right xs ys a i = (i.0, Contains-append_right xs ys i.0 i.1, i.2, i.3)

pub in_cases : (xs ys : List Block) (a : ℕ) → IsIn (xs ++ ys) a → IsIn xs a ⊎ IsIn ys a
in_cases xs ys a i = elim (Contains-append_cases xs ys i.0 i.1) [
  | inl left ↦ inl (i.0, left, i.2, i.3)
  | inr right ↦ inr (i.0, right, i.2, i.3)
]

pub in_other_order : (xs ys : List Block) (a : ℕ) → IsPermutation xs ys → IsIn xs a → IsIn ys a
in_other_order xs ys a all i = (i.0, Contains-permutation xs ys i.0 all i.1, i.2, i.3)

pub flat_there : {X A : Type 0} (f : X → List A) (xs : List X) (x : X) (y : A) → Contains xs x → Contains (f x) y
    → Contains (flat_map f xs) y
flat_there f [] x y has here = absurd (none_contained x has)
flat_there {X} {A} f (z ∷ zs) x y has here = elim (contains_cons z zs x has) [
  | inl is ↦ Contains-append_left (f z) (flat_map f zs) y (subst (λ (w : X). Contains (f w) y) (sym is) here)
  | inr later ↦ Contains-append_right (f z) (flat_map f zs) y (flat_there f zs x y later here)
]

pub there_flat : {X A : Type 0} (f : X → List A) (xs : List X) (y : A) → Contains (flat_map f xs) y
    → (x : X) × Contains xs x × Contains (f x) y
there_flat f [] y has = absurd (none_contained y has)
there_flat f (z ∷ zs) y has = elim (Contains-append_cases (f z) (flat_map f zs) y has) [
  | inl here ↦ (z, contains_head z zs, here)
  | inr later ↦ let x = there_flat f zs y later in (x.0, contains_tail z zs x.0 x.1, x.2)
]

-- ---- a block with a place

-- a block of at least one byte
abbrev pub one_block : ℕ → ℕ → Block
one_block start len = record { start = start; len = len }

pub placed_is : (start len : ℕ) (b : Block) → Contains (placed start len) b → (one_block start len ≡ b) × (0 < len)
placed_is start len b has = elim (cases_Bool (len == 0)) [
  | inl none ↦ absurd (none_contained b
      (subst (λ (t : Bool). Contains (if t then [] else (one_block start len ∷ [])) b) none has))
  | inr some ↦
      let here = subst (λ (t : Bool). Contains (if t then [] else (one_block start len ∷ [])) b) some has in
      elim (contains_cons (one_block start len) [] b here) [
        | inl is ↦ (is, grind (arith, some))
        | inr later ↦ absurd (none_contained b later)
      ]
]

pub placed_there : (start len : ℕ) → 0 < len → Contains (placed start len) (one_block start len)
placed_there start len some = elim (cases_Bool (len == 0)) [
  | inl none ↦ absurd (omega (arith, eqb-true len 0 none, some))
  | inr other ↦ subst (λ (t : Bool). Contains (if t then [] else (one_block start len ∷ [])) (one_block start len))
      (sym other) (contains_head (one_block start len) [])
]

-- ---- classes

pub class_there : (c : MemClass) → Contains classes c
class_there Super = (0, omega arith, refl)
class_there Tree = (1, omega arith, refl)
class_there Raw = (2, omega arith, refl)
class_there GlobalHeap = (3, omega arith, refl)
class_there LocalHeap = (4, omega arith, refl)
class_there Header = (5, omega arith, refl)

-- a sum that isn't 0 has a term that isn't
pub some_term : {X : Type 0} (f : X → ℕ) (xs : List X) → 0 < sum_by f xs → (x : X) × (0 < f x)
some_term f [] some = absurd (omega (arith, some))
some_term f (x ∷ xs) some = elim (cases_lt 0 (f x)) [
  | inl here ↦ (x, here)
  | inr none ↦ some_term f xs (omega (arith, some, none, sum_by-cons f x xs))
]
