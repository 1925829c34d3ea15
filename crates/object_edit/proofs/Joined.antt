-- What two plans as one make of an array, and when they fit.
use Rattle.std.proofs.Common.{◌≡◌, ℕ, ◌+◌, ◌^◌, ◌<◌, List, [], ◌++◌, length, take, drop, sym, ◌∙◌, ap, subst, subst₂}
use Rattle.std.proofs.Common.{arith, length-append}
use Rattle.std.specs.List.{Contains}
use Rattle.std.proofs.lemmas.List.{append_assoc}
use Rattle.std.proofs.lemmas.List.Sums.{sum_by-append}
use Rattle.h5_base.specs.declared.extent.Extent.{Extent}
use Rattle.h5_base.specs.declared.extent.MemClass.{MemClass}
use Rattle.h5_base.specs.declared.extent.MemClass.TheVariants.{Super, Tree, Raw, GlobalHeap, LocalHeap, Header}
use Rattle.h5_base.specs.declared.extent.Region.{Region}
use Rattle.outside.specs.Array.{Array, Ends}
use Rattle.outside.specs.Blocks.{Block}
use Rattle.outside.specs.Space.{Ascend}
use Rattle.block_space.specs.Plans.{AreAsLong, AreFilled, FitsCatalogue, LiesInOne, all_needed, ends_after, needed}
use Rattle.block_space.specs.Plans.{planned, sum_of, with_takes, with_writes}
use Rattle.block_space.specs.declared.plan.EditPlan.{EditPlan}
use Rattle.block_space.specs.declared.plan.Take.{Take}
use Rattle.object_edit.specs.Joined.{IsJoined, JoinedFits, JoinedMeans}
use Rattle.object_edit.proofs.Parts.{behind_writes, filled_in_parts, long_alone, takes_in_parts, writes_alone}

module _ (met : List Block) (own link joined : EditPlan) (j : IsJoined own link joined) (none : own.writes ≡ [])
    (fits : FitsCatalogue met own) (follows : FitsCatalogue met link) where
  abbrev front : List (List ℕ)
  front = take (length link.writes) link.images

  abbrev behind : List (List ℕ)
  behind = drop (length link.writes) link.images

  -- the images, with those of the writes told apart
  images_are : joined.images ≡ front ++ (own.images ++ behind)
  images_are = j.images ∙ append_assoc front own.images behind

  rest : drop (length joined.writes) joined.images ≡ own.images ++ behind
  rest = (λ i. drop (length (j.writes i)) (images_are i))
      ∙ behind_writes link.writes link.images (own.images ++ behind) follows.as_long

  own_filled : AreFilled own.takes own.images
  own_filled = subst (λ (ws : List Extent). AreFilled own.takes (drop (length ws) own.images)) none fits.filled

  pub means : (regions : MemClass → Region) (ends : Ends) (b : Array) → planned regions ends joined b
      ≡ planned regions (ends_after regions ends own.takes) link (planned regions ends own b)
  means regions ends b =
      let after = ends_after regions ends own.takes in
      let first : Array = with_takes regions ends own.takes own.images b in
      let own_is : planned regions ends own b ≡ first = λ i.
      with_writes (none i) own.images (with_takes regions ends own.takes (drop (length (none i)) own.images) b) in
      let second : Array = with_takes regions after link.takes behind first in
      let takes : with_takes regions ends joined.takes (drop (length joined.writes) joined.images) b ≡ second =
      (λ i. with_takes regions ends (j.takes i) (rest i) b)
      ∙ takes_in_parts regions ends own.takes link.takes own.images behind b own_filled in
      (λ i. with_writes (j.writes i) (images_are i) (takes i))
      ∙ writes_alone link.writes link.images (own.images ++ behind) second follows.as_long
      ∙ ap (λ (d : Array). planned regions after link d) (sym own_is)

  sums : (c : MemClass) → needed joined.needs c ≡ sum_of c joined.takes
  sums c = j.bytes c ∙ (λ i. fits.bytes c i + follows.bytes c i)
      ∙ sym (ap (λ (ts : List Take). sum_of c ts) j.takes ∙ sum_by-append _ own.takes link.takes)

  pub joins : all_needed own.needs + all_needed link.needs < 2 ^ 64 → FitsCatalogue met joined
  joins small = record {
    ascend = subst Ascend (sym j.writes) follows.ascend;
    within = subst (λ (ws : List Extent). (w : Extent) → Contains ws w → LiesInOne met w.start w.len) (sym j.writes)
        follows.within;
    as_long = subst₂ AreAsLong (sym j.writes) (sym images_are)
        (long_alone link.writes link.images (own.images ++ behind) follows.as_long);
    filled = subst₂ AreFilled (sym j.takes) (sym rest)
        (filled_in_parts own.takes link.takes own.images behind own_filled follows.filled);
    bytes = sums;
    blocks = omega (
      arith,
      j.blocks,
      fits.blocks,
      follows.blocks,
      ap (λ (ts : List Take). length ts) j.takes,
      length-append own.takes link.takes,
    );
    small = omega (
      arith,
      small,
      j.bytes Super,
      j.bytes Tree,
      j.bytes Raw,
      j.bytes GlobalHeap,
      j.bytes LocalHeap,
      j.bytes Header,
    );
  }

pub joined_means : JoinedMeans
joined_means regions ends met own link joined b j none fits follows =
    means met own link joined j none fits follows regions ends b

pub joined_fits : JoinedFits
joined_fits met own link joined j none fits follows small = joins met own link joined j none fits follows small
