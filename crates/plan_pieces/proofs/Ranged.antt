-- Images in the order of their addresses, and their ranges.
use Rattle.std.proofs.Common.{◌≡◌, ℕ, ◌+◌, ◌<◌, ◌≤◌, suc, List, [], ◌∷◌, ◌++◌, length, take, drop, get_or, sym, ap, subst, length-append, ◌∙◌}
use Rattle.std.proofs.Common.{arith}
use Rattle.std.specs.List.{All}
use Rattle.std.specs.List.Sorted.{IsNonDecreasingBy, IsPermutation}
use Rattle.std.proofs.lemmas.List.{get_or-map, get_or_append_left, length-map, map_push, take_all, take_more}
use Rattle.std.proofs.lemmas.List.Sorted.{All-permutation, IsPermutation-append_left, IsPermutation-trans}
use Rattle.h5_base.specs.declared.extent.Extent.{Extent}
use Rattle.h5_base.specs.declared.extent.MemClass.{MemClass}
use Rattle.outside.specs.Blocks.{Block}
use Rattle.outside.specs.Space.{Ascend}
use Rattle.block_space.specs.Catalogue.{blocks_of}
use Rattle.block_space.specs.Plans.{needed, sum_of}
use Rattle.block_space.specs.declared.plan.EditPlan.{EditPlan}
use Rattle.block_space.specs.declared.plan.Take.{Take}
use Rattle.plan_pieces.specs.declared.image.Image.{Image}
use Rattle.plan_pieces.specs.declared.image.NewBlock.{NewBlock}
use Rattle.plan_pieces.specs.Images.{image_block, image_blocks, images_of, take_of, takes_of}
use Rattle.plan_pieces.specs.Plan.{AreChanged, EndsBelow, IsPlanOf, NeedsBelow, bytes_in}
use Rattle.plan_pieces.proofs.Summed.{all_small}

-- the ranges with that of one image more
pub range_next : (images : List Image) (k : ℕ) (i : Image) (old new : List Extent) (r : Extent) → k < length images
    → i ≡ get_or images k i → new ≡ old ++ r ∷ [] → r.start ≡ i.at → r.len ≡ length i.bytes
    → blocks_of old ≡ take k (image_blocks images) → blocks_of new ≡ take (k + 1) (image_blocks images)
range_next images k i old new r there is pushed start len before =
    let block : Block = record { start = r.start; len = r.len } in
    let same : block ≡ image_block i = λ j. record { start = start j; len = len j } in
    let its : get_or (image_blocks images) k (image_block i) ≡ image_block i =
    get_or-map image_block images k i (image_block i) there ∙ ap image_block (sym is) in
    let one : blocks_of new ≡ blocks_of old ++ block ∷ [] =
    ap blocks_of pushed ∙ map_push (λ (x : Extent). record { start = x.start; len = x.len }) old r in
    one ∙ (λ j. before j ++ same j ∷ [])
    ∙ ap (λ (b : Block). take k (image_blocks images) ++ b ∷ []) (sym its)
    ∙ sym (take_more (image_blocks images) k (image_block i) (omega (arith, there, length-map images image_block)))

pub ranges_whole : (images : List Image) (k : ℕ) (ranges : List Extent) → length images ≤ k
    → blocks_of ranges ≡ take k (image_blocks images) → blocks_of ranges ≡ image_blocks images
ranges_whole images k ranges all have =
    have ∙ take_all k (image_blocks images) (omega (arith, all, length-map images image_block))

-- in any order
pub changed_order : (old images changed sorted : List Image) → IsPermutation changed sorted
    → AreChanged old images changed → AreChanged old images sorted
changed_order old images changed sorted moved h = record {
  same = h.same;
  all = IsPermutation-trans images (changed ++ h.same) (sorted ++ h.same) h.all
      (IsPermutation-append_left h.same changed sorted moved);
  stand = h.stand;
}

-- those that change end below 2^64 where all do
pub changed_below : (old images changed : List Image) → AreChanged old images changed → All EndsBelow images
    → All EndsBelow changed
changed_below old images changed h below k d low =
    let all = All-permutation EndsBelow images (changed ++ h.same) h.all below k d
    (omega (arith, low, length-append changed h.same)) in
    subst EndsBelow (get_or_append_left changed h.same d k low) all

-- ranges ascend as their images do
pub ranges_ascend : (ranges : List Extent) (images : List Image) → blocks_of ranges ≡ image_blocks images
    → IsNonDecreasingBy (λ (i : Image). i.at) images → Ascend ranges
ranges_ascend [] images same up = tt
ranges_ascend (x ∷ []) images same up = tt
ranges_ascend (x ∷ y ∷ ys) [] same up = absurd (omega (arith, ap (λ (bs : List Block). length bs) same))
ranges_ascend (x ∷ y ∷ ys) (i ∷ []) same up = absurd (omega (arith, ap (λ (bs : List Block). length bs) same))
ranges_ascend (x ∷ y ∷ ys) (i ∷ j ∷ js) same up =
    let d : Block = record { start = 0; len = 0 } in (
      omega (
        arith,
        up 0 1 i (omega arith) (omega arith),
        ap (λ (bs : List Block). (get_or bs 0 d).start) same,
        ap (λ (bs : List Block). (get_or bs 1 d).start) same,
      ),
      ranges_ascend (y ∷ ys) (j ∷ js) (ap (λ (bs : List Block). drop 1 bs) same)
          (λ k l e le low. up (suc k) (suc l) e (omega arith) (omega arith)),
    )

-- ---- the parts of a plan

pub plan_of : (old writes : List Image) (fills : List NewBlock) (images : List Image) (plan : EditPlan)
    → AreChanged old writes images → IsNonDecreasingBy (λ (i : Image). i.at) images → NeedsBelow fills
    → blocks_of plan.writes ≡ image_blocks images → plan.takes ≡ takes_of fills
    → plan.images ≡ bytes_in images ++ bytes_in (images_of fills)
    → ((c : MemClass) → needed plan.needs c ≡ sum_of c (takes_of fills)) → plan.needs.blocks ≡ length fills
    → IsPlanOf old writes fills plan
plan_of old writes fills images plan changed up below ranges takes bytes needs count = record {
  images = images;
  changed = changed;
  ranges = ranges;
  ascend = ranges_ascend plan.writes images ranges up;
  takes = takes;
  bytes = bytes;
  needs = λ c. needs c ∙ ap (sum_of c) (sym takes);
  count = omega (arith, count, length-map fills take_of, ap (λ (ts : List Take). length ts) takes);
  small = all_small fills plan.needs below needs;
}
