-- The sums of what is taken, block by block.
use Rattle.std.proofs.Common.{◌≡◌, ℕ, ◌+◌, ◌<◌, ◌≤◌, ◌^◌, ◌==◌, Bool, true, false, cond, inl, inr, List, [], ◌∷◌}
use Rattle.std.proofs.Common.{length, take, get_or, sym, ap, ◌∙◌, arith}
use Rattle.std.specs.Prelude.{slice_index}
use Rattle.std.specs.List.{sum_by}
use Rattle.std.proofs.lemmas.Bool.{cases_Bool, eq-eqb, eqb-true, eqb-false}
use Rattle.std.proofs.lemmas.List.{get_or-map, length-map}
use Rattle.std.proofs.lemmas.List.Sums.{sum_by_more, sum_by_more_le_part, sum_by-cons}
use Rattle.h5_base.specs.declared.extent.MemClass.{MemClass}
use Rattle.h5_base.specs.declared.extent.MemClass.TheVariants.{Super, Tree, Raw, GlobalHeap, LocalHeap, Header}
use Rattle.block_space.specs.Plans.{all_needed, classes, needed, number_of, rounded, sum_of}
use Rattle.block_space.specs.declared.plan.Needs.{Needs}
use Rattle.block_space.specs.declared.plan.Take.{Take}
use Rattle.plan_pieces.specs.declared.image.NewBlock.{NewBlock}
use Rattle.plan_pieces.specs.Images.{take_of, takes_of}
use Rattle.plan_pieces.specs.Plan.{IsWithBlock, NeedsBelow}

-- what a take adds to a class
abbrev share : MemClass → Take → ℕ
share c t = cond (number_of t.class == number_of c) (rounded t.len) 0

one_share : (b : Bool) (n : ℕ) → cond b n 0 ≤ n
one_share true n = omega arith
one_share false n = omega arith

share_le : (c : MemClass) (t : Take) → share c t ≤ rounded t.len
share_le c t = one_share (number_of t.class == number_of c) (rounded t.len)

share_own : (c : MemClass) (t : Take) → number_of t.class ≡ number_of c → share c t ≡ rounded t.len
share_own c t same = ap (λ (b : Bool). cond b (rounded t.len) 0) (eq-eqb (number_of t.class) (number_of c) same)

share_other : (c : MemClass) (t : Take) → (number_of t.class == number_of c) ≡ false → share c t ≡ 0
share_other c t other = ap (λ (b : Bool). cond b (rounded t.len) 0) other

module _ (fills : List NewBlock) (i : ℕ) (n : NewBlock) (there : i < length fills) (is : n ≡ get_or fills i n) where
  taken : i < length (takes_of fills)
  taken = omega (arith, there, length-map fills take_of)

  its_take : get_or (takes_of fills) i (take_of n) ≡ take_of n
  its_take = get_or-map take_of fills i n (take_of n) there ∙ ap take_of (sym is)

  -- the sum of its class with the next block is within the sum of all
  pub next_below : (old : Needs) → NeedsBelow fills
      → ((c : MemClass) → needed old c ≡ sum_of c (take i (takes_of fills)))
      → needed old n.class + rounded (length n.image.bytes) < 2 ^ 64
  next_below old below sums =
      let most = sum_by_more_le_part (share n.class) (λ (t : Take). rounded t.len) (takes_of fills) i (take_of n) taken
      (share_le n.class) in
      omega (arith, below, most, sums n.class, ap (λ (t : Take). rounded t.len) its_take)

  more : (c : MemClass) → sum_of c (take (i + 1) (takes_of fills)) ≡ sum_of c (take i (takes_of fills)) + share c (take_of n)
  more c = sum_by_more (share c) (takes_of fills) i (take_of n) taken
      ∙ ap (λ (t : Take). sum_of c (take i (takes_of fills)) + share c t) its_take

  -- the sums with the next block
  pub next_sums : (old new : Needs) → ((c : MemClass) → needed old c ≡ sum_of c (take i (takes_of fills)))
      → IsWithBlock old n.class (length n.image.bytes) new
      → (c : MemClass) → needed new c ≡ sum_of c (take (i + 1) (takes_of fills))
  next_sums old new sums h c = elim (cases_Bool (number_of n.class == number_of c)) [
    | inl one ↦
        let same : number_of n.class ≡ number_of c = eqb-true (number_of n.class) (number_of c) one in
        omega (
          arith,
          h.own,
          sums c,
          more c,
          share_own c (take_of n) same,
          ap (slice_index new.bytes) same,
          ap (slice_index old.bytes) same,
        )
    | inr other ↦
        let apart : number_of c ≡ number_of n.class → ⊥ =
        λ e. eqb-false (number_of n.class) (number_of c) other (sym e) in
        omega (arith, h.others c apart, sums c, more c, share_other c (take_of n) other)
  ]

-- ---- all classes

-- a block is counted in one class
one_class : (c : MemClass) (n : ℕ) → sum_by (λ d. cond (number_of c == number_of d) n 0) classes ≡ n
one_class Super n = omega arith
one_class Tree n = omega arith
one_class Raw n = omega arith
one_class GlobalHeap n = omega arith
one_class LocalHeap n = omega arith
one_class Header n = omega arith

-- the bytes of all classes are all bytes
all_classes : (ts : List Take) → sum_by (λ c. sum_of c ts) classes ≡ sum_by (λ t. rounded t.len) ts
all_classes [] = omega arith
all_classes (t ∷ ts) = omega (
  arith,
  all_classes ts,
  one_class t.class (rounded t.len),
  sum_by-cons (share Super) t ts,
  sum_by-cons (share Tree) t ts,
  sum_by-cons (share Raw) t ts,
  sum_by-cons (share GlobalHeap) t ts,
  sum_by-cons (share LocalHeap) t ts,
  sum_by-cons (share Header) t ts,
  sum_by-cons (λ (u : Take). rounded u.len) t ts,
)

pub all_small : (fills : List NewBlock) (needs : Needs) → NeedsBelow fills
    → ((c : MemClass) → needed needs c ≡ sum_of c (takes_of fills)) → all_needed needs < 2 ^ 64
all_small fills needs below sums = omega (
  arith,
  below,
  all_classes (takes_of fills),
  sums Super,
  sums Tree,
  sums Raw,
  sums GlobalHeap,
  sums LocalHeap,
  sums Header,
)
