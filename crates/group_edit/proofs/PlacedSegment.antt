-- How a new segment is taken, and where it lies then.
use Rattle.std.proofs.Common.{◌≡◌, ◌⊎◌, ℕ, ◌-◌, ◌^◌, ◌<◌, min, List, [], ◌∷◌, ◌++◌, length, Option, Some, None}
use Rattle.std.proofs.Common.{sym, ◌∙◌, ap, subst, arith, inl, inr, cond, Bool}
use Rattle.std.specs.List.{AllByRecursion}
use Rattle.std.proofs.lemmas.Bool.{cases_lt, le-leb, lt-leb}
use Rattle.outside.specs.Blocks.{Block}
use Rattle.outside.specs.Space.{AreRegions, SpaceView}
use Rattle.h5_base.specs.declared.extent.MemClass.{MemClass}
use Rattle.h5_base.specs.declared.extent.MemClass.TheVariants as class
use Rattle.h5_base.specs.declared.kinds.BlockKind.TheVariants as kind
use Rattle.object_model.specs.Tree.{Name}
use Rattle.block_space.specs.Plans.{taken_blocks}
use Rattle.block_space.specs.declared.plan.Needs.{Needs}
use Rattle.block_space.specs.declared.plan.Take.{Take}
use Rattle.block_space.proofs.Apart.{contains_head, contains_tail}
use Rattle.plan_pieces.specs.Images.{image_blocks, images_of, take_of, takes_of}
use Rattle.plan_pieces.specs.Plan.{IsWhole}
use Rattle.plan_pieces.specs.declared.image.NewBlock.{NewBlock}
use Rattle.group_room.specs.Used.{Fits, name_end, segment_takes, wider_len}
use Rattle.group_heap.specs.declared.heap.Heap.{Heap}
use Rattle.group_heap.specs.declared.heap.HeapEdit.{HeapEdit}
use Rattle.group_heap.specs.Edits.{IsNamed, MovesTo}
use Rattle.group_facts.specs.Places.{ends_ahead}
use Rattle.group_facts.proofs.PlaceLemmas.{taken_behind}
use Rattle.group_edit.specs.Drafts.{new_fills}
use Rattle.group_edit.specs.Inserting.{IsBehind, next_segment}
use Rattle.group_edit.proofs.PlacedTakes.{AllBelow, told}

-- There is no new segment, where the name fits the old one, or there is one at this address.
abbrev pub IsFor : (at used len : ℕ) → Name → Option NewBlock → Type 0
IsFor at used len name segment = (Fits used len name × (segment ≡ None))
    ⊎ ((len < name_end used name) × MovesTo at (wider_len used len name) segment)

pub is_for : (heap : Heap) (used : ℕ) (name : Name) (at : ℕ) (edit : HeapEdit) → IsNamed heap used name at edit
    → IsFor at used heap.head.len name edit.segment
is_for heap used name at edit named = elim (cases_lt heap.head.len (name_end used name)) [
  | inl lt ↦ let moved = named.moves lt in inr (lt, moved.1)
  | inr le ↦ inl (le, named.stays le)
]

wider_some : (used len : ℕ) (name : Name) → 0 < wider_len used len name
wider_some used len name = omega arith

-- ---- how it is taken

-- the segment that is taken where the name doesn't fit
abbrev wider_take : (used len : ℕ) → Name → Take
wider_take used len name = record { class = class.LocalHeap; len = wider_len used len name; kind = kind.Heap }

pub segment_taken : (at used len : ℕ) (name : Name) (segment : Option NewBlock) → IsFor at used len name segment
    → takes_of (new_fills segment) ≡ segment_takes used len name
segment_taken at used len name None (inl (fits, is)) =
    ap (λ (b : Bool). cond b [] (wider_take used len name ∷ [])) (sym (le-leb (name_end used name) len fits))
segment_taken at used len name None (inr (lt, is)) = absurd is
segment_taken at used len name (Some n) (inl (fits, is)) = absurd cc
segment_taken at used len name (Some n) (inr (lt, is)) =
    let one : takes_of (n ∷ []) ≡ wider_take used len name ∷ [] =
    λ i. record { class = is.class_is i; len = is.len_is i; kind = is.kind_is i } ∷ [] in
    one ∙ ap (λ (b : Bool). cond b [] (wider_take used len name ∷ [])) (sym (lt-leb (name_end used name) len lt))

pub segment_whole : (at used len : ℕ) (name : Name) (segment : Option NewBlock) → IsFor at used len name segment
    → AllByRecursion IsWhole (new_fills segment)
segment_whole at used len name None is = tt
segment_whole at used len name (Some n) (inl (fits, is)) = absurd cc
segment_whole at used len name (Some n) (inr (lt, is)) = (
  record { some = omega (arith, is.len_is); eights = omega (arith, is.len_is) },
  tt,
)

-- ---- where it lies

module _ (v : SpaceView) (sound : AreRegions v.regions v.ends) (used len : ℕ) (name : Name) (ahead behind : Needs) where
  -- what is taken behind it lies where the regions end then
  pub segment_lies : (segment : Option NewBlock) → IsFor (next_segment v ahead) used len name segment
      → IsBehind ahead segment behind → (ts : List Take) (xs : List Block)
      → (AllBelow (taken_blocks v.regions (ends_ahead v behind) ts)
      → taken_blocks v.regions (ends_ahead v behind) ts ≡ xs)
      → AllBelow (taken_blocks v.regions (ends_ahead v ahead) (takes_of (new_fills segment) ++ ts))
      → taken_blocks v.regions (ends_ahead v ahead) (takes_of (new_fills segment) ++ ts)
      ≡ image_blocks (images_of (new_fills segment)) ++ xs
  segment_lies None is same ts xs lie below =
      subst (λ (needs : Needs). AllBelow (taken_blocks v.regions (ends_ahead v needs) ts)
      → taken_blocks v.regions (ends_ahead v needs) ts ≡ xs) same lie below
  segment_lies (Some n) (inl (fits, none)) one ts xs lie below = absurd cc
  segment_lies (Some n) (inr (lt, is)) one ts xs lie below =
      let size = length n.image.bytes in
      let end = ends_ahead v ahead n.class in
      let first : Block = record { start = end; len = size } in
      let later = taken_blocks v.regions (ends_ahead v behind) ts in
      let both : taken_blocks v.regions (ends_ahead v ahead) (take_of n ∷ ts) ≡ first ∷ later =
      taken_behind v ahead behind (take_of n) ts sound one in
      let under : AllBelow (first ∷ later) = subst AllBelow both below in
      let some : 0 < size = subst (λ (k : ℕ). 0 < k) (sym is.len_is) (wider_some used len name) in
      let here = told end size some (under first (contains_head first later)) in
      let there : end ≡ n.image.at =
      sym here
      ∙ ap (λ (c : MemClass). min (ends_ahead v ahead c) (2 ^ 64 - 1)) is.class_is
      ∙ sym is.at_is in
      let rest = lie (λ x has. under x (contains_tail first later x has)) in
      both ∙ (λ i. record { start = there i; len = size } ∷ rest i)
