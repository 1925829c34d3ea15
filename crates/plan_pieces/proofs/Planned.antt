-- What a plan that is put together from images makes of an array.
use Rattle.std.proofs.Common.{◌≡◌, inr, ℕ, ◌+◌, ◌-◌, ◌%◌, List, [], ◌∷◌, ◌++◌, length, drop, replicate}
use Rattle.std.proofs.Common.{get_or, subst₂, refl, sym, ◌∙◌, ap, subst, arith, append-nil, append_assoc}
use Rattle.std.specs.List.{All, Contains}
use Rattle.std.specs.List.Sorted.{IsPermutation}
use Rattle.std.proofs.Math.Seq.{drop-append_seam}
use Rattle.std.proofs.lemmas.List.{get_or-map, length-map, map-append}
use Rattle.std.proofs.lemmas.List.Elements.{All-head, All-tail, Contains-append_left, Contains-append_right}
use Rattle.std.proofs.lemmas.List.Sorted.{Contains-permutation, IsPermutation-append_comm, IsPermutation-append_left}
use Rattle.std.proofs.lemmas.List.Sorted.{IsPermutation-append_right}
use Rattle.std.proofs.lemmas.List.Sorted.{IsPermutation-map, IsPermutation-sym, IsPermutation-trans}
use Rattle.h5_base.specs.declared.extent.Extent.{Extent}
use Rattle.h5_base.specs.declared.extent.MemClass.{MemClass}
use Rattle.h5_base.specs.declared.extent.Region.{Region}
use Rattle.outside.specs.Array.{Array, Ends, over}
use Rattle.outside.specs.Blocks.{Block, IsApart, AllApart, Agree}
use Rattle.outside.specs.Space.{raised}
use Rattle.block_space.specs.Catalogue.{blocks_of}
use Rattle.block_space.specs.Plans.{AreAsLong, AreFilled, FitsCatalogue, padded_to, planned, rounded}
use Rattle.block_space.specs.Plans.{taken_blocks, with_takes, with_writes}
use Rattle.block_space.specs.declared.plan.EditPlan.{EditPlan}
use Rattle.block_space.proofs.Apart.{apart_from_each, each_apart}
use Rattle.file_model.proofs.BlockOrder.{apart_order}
use Rattle.plan_pieces.specs.declared.image.Image.{Image}
use Rattle.plan_pieces.specs.declared.image.NewBlock.{NewBlock}
use Rattle.plan_pieces.specs.Images.{HaveImages, image_block, image_blocks, images_of, takes_of}
use Rattle.plan_pieces.specs.Plan.{IsPlanOf, IsWhole, LieWithin, PlanFits, PlanHas, PlanStays, TakesThere, bytes_in}
use Rattle.plan_pieces.proofs.Laid.{have_both, have_order, have_same, laid, laid_both, laid_outside}

-- ---- writes and takes, as images that are laid

same_start : (x y : Block) (xs ys : List Block) → (x ∷ xs) ≡ (y ∷ ys) → x.start ≡ y.start
same_start x y xs ys e = ap (λ (bs : List Block). (get_or bs 0 x).start) e

same_len : (x y : Block) (xs ys : List Block) → (x ∷ xs) ≡ (y ∷ ys) → x.len ≡ y.len
same_len x y xs ys e = ap (λ (bs : List Block). (get_or bs 0 x).len) e

same_rest : (x y : Block) (xs ys : List Block) → (x ∷ xs) ≡ (y ∷ ys) → xs ≡ ys
same_rest x y xs ys e = ap (λ (bs : List Block). drop 1 bs) e

abbrev range_of : Extent → Block
range_of w = record { start = w.start; len = w.len }

writes_laid : (ws : List Extent) (is : List Image) (rest : List (List ℕ)) (b : Array) → blocks_of ws ≡ image_blocks is
    → with_writes ws (bytes_in is ++ rest) b ≡ laid b is
writes_laid [] [] rest b ranges = refl
writes_laid [] (i ∷ is) rest b ranges = absurd (omega (arith, ap (λ (bs : List Block). length bs) ranges))
writes_laid (w ∷ ws) [] rest b ranges = absurd (omega (arith, ap (λ (bs : List Block). length bs) ranges))
writes_laid (w ∷ ws) (i ∷ is) rest b ranges =
    let start = same_start _ (image_block i) (blocks_of ws) (image_blocks is) ranges in
    writes_laid ws is rest (over b w.start i.bytes) (same_rest _ (image_block i) (blocks_of ws) (image_blocks is) ranges)
    ∙ ap (λ (at : ℕ). laid (over b at i.bytes) is) start

whole : (n : ℕ) → n % 8 ≡ 0 → rounded n ≡ n
whole n eights = omega (arith, eights)

padded_whole : (bytes : List ℕ) → length bytes % 8 ≡ 0 → padded_to (rounded (length bytes)) bytes ≡ bytes
padded_whole bytes eights =
    let none : rounded (length bytes) - length bytes ≡ 0 = omega (arith, whole (length bytes) eights) in
    ap (λ (n : ℕ). bytes ++ replicate n 0) none ∙ append-nil bytes

module _ (regions : MemClass → Region) where
  takes_laid : (ends : Ends) (fills : List NewBlock) (b : Array) → All IsWhole fills
      → taken_blocks regions ends (takes_of fills) ≡ image_blocks (images_of fills)
      → with_takes regions ends (takes_of fills) (bytes_in (images_of fills)) b ≡ laid b (images_of fills)
  takes_laid ends [] b wholes there = refl
  takes_laid ends (n ∷ ns) b wholes there =
      let block : Block = record { start = ends n.class; len = length n.image.bytes } in
      let after = raised regions ends n.class (ends n.class + rounded (length n.image.bytes)) in
      let bytes = padded_to (rounded (length n.image.bytes)) n.image.bytes in
      let start = same_start block (image_block n.image) (taken_blocks regions after (takes_of ns))
      (image_blocks (images_of ns)) there in
      let rest = same_rest block (image_block n.image) (taken_blocks regions after (takes_of ns))
      (image_blocks (images_of ns)) there in
      takes_laid after ns (over b (ends n.class) bytes) (All-tail IsWhole n ns wholes) rest
      ∙ ap (λ (at : ℕ). laid (over b at bytes) (images_of ns)) start
      ∙ ap (λ (bs : List ℕ). laid (over b n.image.at bs) (images_of ns))
      (padded_whole n.image.bytes (All-head IsWhole n ns wholes).eights)

as_long : (ws : List Extent) (is : List Image) (rest : List (List ℕ)) → blocks_of ws ≡ image_blocks is
    → AreAsLong ws (bytes_in is ++ rest)
as_long [] is rest ranges = tt
as_long (w ∷ ws) [] rest ranges = absurd (omega (arith, ap (λ (bs : List Block). length bs) ranges))
as_long (w ∷ ws) (i ∷ is) rest ranges = (
  sym (same_len _ (image_block i) (blocks_of ws) (image_blocks is) ranges),
  as_long ws is rest (same_rest _ (image_block i) (blocks_of ws) (image_blocks is) ranges),
)

filled : (fills : List NewBlock) → All IsWhole fills → AreFilled (takes_of fills) (bytes_in (images_of fills))
filled [] wholes = refl
filled (n ∷ ns) wholes =
    ((All-head IsWhole n ns wholes).some, inr refl, filled ns (All-tail IsWhole n ns wholes))

-- ---- a plan

module _ (old writes : List Image) (fills : List NewBlock) (plan : EditPlan) (p : IsPlanOf old writes fills plan) where
  -- the images that are laid: those of the takes, and then those that change
  new : List Image
  new = images_of fills ++ p.images

  count : length plan.writes ≡ length (bytes_in p.images)
  count =
      let ranges = ap (λ (bs : List Block). length bs) p.ranges in
      omega (
        arith,
        ranges,
        length-map plan.writes range_of,
        length-map p.images image_block,
        length-map p.images (λ (i : Image). i.bytes),
      )

  own : drop (length plan.writes) plan.images ≡ bytes_in (images_of fills)
  own = (λ j. drop (count j) (p.bytes j)) ∙ drop-append_seam (bytes_in p.images) (bytes_in (images_of fills))

  planned_laid : (regions : MemClass → Region) (ends : Ends) (c : Array) → All IsWhole fills
      → TakesThere regions ends plan fills → planned regions ends plan c ≡ laid c new
  unfolding new
  planned_laid regions ends c wholes there =
      let taken = with_takes regions ends plan.takes (drop (length plan.writes) plan.images) c in
      let blocks : taken_blocks regions ends (takes_of fills) ≡ image_blocks (images_of fills) =
      ap (taken_blocks regions ends) (sym p.takes) ∙ there in
      let takes : taken ≡ laid c (images_of fills) =
      (λ j. with_takes regions ends (p.takes j) (own j) c) ∙ takes_laid regions ends fills c wholes blocks in
      ap (λ (bs : List (List ℕ)). with_writes plan.writes bs taken) p.bytes
      ∙ writes_laid plan.writes p.images (bytes_in (images_of fills)) taken p.ranges
      ∙ ap (λ (b : Array). laid b p.images) takes ∙ sym (laid_both c (images_of fills) p.images)

  -- all images: those that stand already, and those that are laid
  all : IsPermutation (writes ++ images_of fills) (p.changed.same ++ new)
  unfolding new
  all =
      let same = p.changed.same in
      let front : IsPermutation writes (same ++ p.images) = IsPermutation-trans writes (p.images ++ same)
      (same ++ p.images) p.changed.all (IsPermutation-append_comm p.images same) in
      IsPermutation-trans (writes ++ images_of fills) ((same ++ p.images) ++ images_of fills) _
      (IsPermutation-append_left (images_of fills) writes (same ++ p.images) front)
      (subst (λ (xs : List Image). IsPermutation xs (same ++ (images_of fills ++ p.images)))
      (sym (append_assoc same p.images (images_of fills)))
      (IsPermutation-append_right same (p.images ++ images_of fills) (images_of fills ++ p.images)
      (IsPermutation-append_comm p.images (images_of fills))))

  all_blocks : IsPermutation (image_blocks writes ++ image_blocks (images_of fills))
      (image_blocks p.changed.same ++ image_blocks new)
  all_blocks = subst₂ IsPermutation (map-append image_block writes (images_of fills))
      (map-append image_block p.changed.same new)
      (IsPermutation-map image_block (writes ++ images_of fills) (p.changed.same ++ new) all)

  -- those that stand already are among the writes
  same_written : (i : Image) → Contains p.changed.same i → Contains writes i
  same_written i has = Contains-permutation (p.images ++ p.changed.same) writes i
      (IsPermutation-sym writes (p.images ++ p.changed.same) p.changed.all)
      (Contains-append_right p.images p.changed.same i has)

  has : (b c : Array) → HaveImages b old → Agree b c (image_blocks writes)
      → AllApart (image_blocks writes ++ image_blocks (images_of fills)) → HaveImages (laid c new) (writes ++ images_of fills)
  has b c have agree apart = have_order (laid c new) (p.changed.same ++ new) (writes ++ images_of fills)
      (IsPermutation-sym (writes ++ images_of fills) (p.changed.same ++ new) all)
      (have_both c p.changed.same new (apart_order _ _ all_blocks apart)
      (have_same b c old writes p.changed.same have agree p.changed.stand same_written))

  stays : (c : Array) (x : Block) → IsApart x (image_blocks writes ++ image_blocks (images_of fills))
      → Agree c (laid c new) (x ∷ [])
  stays c x apart = (
    laid_outside c new x (apart_from_each x (image_blocks new) (λ y has.
        each_apart x (image_blocks writes ++ image_blocks (images_of fills)) apart y
        (Contains-permutation (image_blocks p.changed.same ++ image_blocks new) _ y (IsPermutation-sym _ _ all_blocks)
        (Contains-append_right (image_blocks p.changed.same) (image_blocks new) y has)))),
    tt,
  )

  -- a range that is written is that of an image
  range_there : (w : Extent) → Contains plan.writes w → Contains (image_blocks writes) (range_of w)
  range_there w (k, low, is) = Contains-permutation (image_blocks (p.images ++ p.changed.same)) (image_blocks writes)
      (range_of w)
      (IsPermutation-sym _ _ (IsPermutation-map image_block writes (p.images ++ p.changed.same) p.changed.all))
      (subst (λ (bs : List Block). Contains bs (range_of w)) (sym (map-append image_block p.images p.changed.same))
      (Contains-append_left (image_blocks p.images) (image_blocks p.changed.same) (range_of w)
      (subst (λ (bs : List Block). Contains bs (range_of w)) p.ranges (
        k,
        omega (
          arith,
          low,
          length-map plan.writes range_of,
        ),
        get_or-map range_of plan.writes k w (range_of w) low ∙ ap range_of is,
      ))))

  fits : (met : List Block) → All IsWhole fills → LieWithin met (image_blocks writes) → FitsCatalogue met plan
  fits met wholes within = record {
    ascend = p.ascend;
    within = λ w has. within (range_of w) (range_there w has);
    as_long = subst (AreAsLong plan.writes) (sym p.bytes)
        (as_long plan.writes p.images (bytes_in (images_of fills)) p.ranges);
    filled = subst₂ AreFilled (sym p.takes) (sym own) (filled fills wholes);
    bytes = p.needs;
    blocks = p.count;
    small = p.small;
  }

pub plan_has : PlanHas
plan_has regions ends b c old writes fills plan p have agree wholes there apart =
    subst (λ (d : Array). HaveImages d (writes ++ images_of fills))
    (sym (planned_laid old writes fills plan p regions ends c wholes there))
    (has old writes fills plan p b c have agree apart)

pub plan_stays : PlanStays
plan_stays regions ends c old writes fills plan p wholes there x apart =
    subst (λ (d : Array). Agree c d (x ∷ []))
    (sym (planned_laid old writes fills plan p regions ends c wholes there))
    (stays old writes fills plan p c x apart)

pub plan_fits : PlanFits
plan_fits met old writes fills plan p wholes within = fits old writes fills plan p met wholes within
