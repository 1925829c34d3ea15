-- What an applied plan makes of a group: its blocks lie apart from those that were taken, since the catalogue has both.
use Rattle.std.proofs.Common.{◌≡◌, List, [], ◌∷◌, ◌++◌, sym, ◌∙◌, ap, subst, None, Bool, IsTrue, drop, length}
use Rattle.std.specs.List.Sorted.{IsPermutation}
use Rattle.std.proofs.lemmas.List.{append_assoc}
use Rattle.std.proofs.lemmas.List.Elements.{Contains-append_right}
use Rattle.std.proofs.lemmas.List.Sorted.{IsPermutation-append_comm, IsPermutation-append_left}
use Rattle.std.proofs.lemmas.List.Sorted.{IsPermutation-append_right, IsPermutation-trans}
use Rattle.outside.specs.Array.{Array}
use Rattle.outside.specs.Blocks.{Block, AllApart, IsApart}
use Rattle.outside.specs.Space.{AreRegions, SpaceView, bounds_of}
use Rattle.block_space.specs.Applied.{IsApplied}
use Rattle.block_space.specs.Blocks.{Keeps, array_of}
use Rattle.block_space.specs.Plans.{FitsCatalogue, planned, taken_blocks, with_takes, with_writes}
use Rattle.block_space.specs.declared.blocks.Blocks.{Blocks}
use Rattle.block_space.specs.declared.plan.EditPlan.{EditPlan}
use Rattle.block_space.specs.declared.plan.Take.{Take}
use Rattle.block_space.proofs.Fresh.{each_inside}
use Rattle.block_space.proofs.Stopped.{inside_fits}
use Rattle.file_model.proofs.BlockOrder.{apart_order}
use Rattle.group_facts.specs.Places.{planned_ahead, taken_ahead}
use Rattle.group_edit.specs.Applied.{InsertsNow, RemovesNow}
use Rattle.group_edit.specs.Edited.{HasInserted, HasPlace, HasRemoved}

apart_left : (x : Block) (xs ys : List Block) → IsApart x (xs ++ ys) → IsApart x xs
apart_left x [] ys h = tt
apart_left x (y ∷ xs) ys h = (h.0, apart_left x xs ys h.1)

all_left : (xs ys : List Block) → AllApart (xs ++ ys) → AllApart xs
all_left [] ys h = tt
all_left (x ∷ xs) ys h = (apart_left x xs ys h.0, all_left xs ys h.1)

-- some of the blocks are apart from what is behind them
some_apart : (met bs others taken : List Block) → IsPermutation met (bs ++ others) → AllApart (met ++ taken)
    → AllApart (bs ++ taken)
some_apart met bs others taken among all =
    let first : IsPermutation (met ++ taken) (bs ++ (others ++ taken)) =
    subst (IsPermutation (met ++ taken)) (append_assoc bs others taken)
    (IsPermutation-append_left taken met (bs ++ others) among) in
    let second : IsPermutation (bs ++ (others ++ taken)) ((bs ++ taken) ++ others) =
    subst (IsPermutation (bs ++ (others ++ taken))) (sym (append_assoc bs taken others))
    (IsPermutation-append_right bs _ _ (IsPermutation-append_comm others taken)) in
    all_left (bs ++ taken) others
    (apart_order (met ++ taken) ((bs ++ taken) ++ others) (IsPermutation-trans _ _ _ first second) all)

-- two lists of the blocks of one catalogue have the same blocks
fits_as : {V : Type 0} (view : V → SpaceView) (old : Blocks V) (plan : EditPlan) (met other : List Block)
    → Keeps view old met → Keeps view old other → FitsCatalogue met plan → FitsCatalogue other plan
fits_as view old plan met other keeps kept fits = record {
  ascend = fits.ascend;
  as_long = fits.as_long;
  filled = fits.filled;
  bytes = fits.bytes;
  blocks = fits.blocks;
  small = fits.small;
  within = λ w there.
      let lies = fits.within w there in
      let x : Block = lies.0 in
      (x, (kept.lists.entries x.start x.len).0 ((keeps.lists.entries x.start x.len).1 lies.1), lies.2, lies.3);
}

module _ {V : Type 0} (view : V → SpaceView) (tells : Bool) (old new : Blocks V) (plan : EditPlan)
    (told : IsTrue tells) (done : IsApplied view tells old new plan)
    (regions : AreRegions (view new.space).regions (view new.space).ends) (met : List Block)
    (keeps : Keeps view old met) (fits : FitsCatalogue met plan) where
  pub inserts_now : InsertsNow view old new plan
  inserts_now v g ahead name target inserts fs bs was since listed =
      let same : taken_blocks (view old.space).regions (view old.space).ends plan.takes ≡ taken_ahead v ahead plan =
      λ i. taken_blocks (since.regions i) (since.ends i) plan.takes in
      let keeps_new : Keeps view new (listed.met ++ taken_ahead v ahead plan) =
      subst (λ (t : List Block). Keeps view new (listed.met ++ t)) same
      (done.found listed.met listed.keeps (fits_as view old plan met listed.met keeps listed.keeps fits)) in
      let place : HasPlace v ahead bs plan = record {
        below = λ x there. inside_fits (view new.space) x regions
            (each_inside (bounds_of (view new.space) None) _ (keeps_new.inside None) x
            (Contains-append_right listed.met (taken_ahead v ahead plan) x there));
        apart = some_apart listed.met bs listed.others (taken_ahead v ahead plan) listed.among keeps_new.lists.apart;
      } in
      let is : array_of view new ≡ planned_ahead v ahead plan (array_of view old) =
      done.array told ∙ (λ i. planned (since.regions i) (since.ends i) plan (array_of view old)) in
      subst (λ (c : Array). HasInserted v.array c g fs bs was name target (taken_ahead v ahead plan)) (sym is)
      (inserts fs bs was (array_of view old) since.agree place)

  pub removes_now : RemovesNow view old new plan
  removes_now v g name removes fs bs was agree listed =
      let is : array_of view new ≡ planned (view old.space).regions (view old.space).ends plan (array_of view old) =
      done.array told in
      let apart : AllApart bs = all_left bs listed.others
      (apart_order listed.met (bs ++ listed.others) listed.among listed.keeps.lists.apart) in
      subst (λ (c : Array). HasRemoved v.array c g fs bs was name) (sym (is ∙ anywhere removes.takes))
      (removes.makes fs bs was (array_of view old) (view old.space).ends agree apart)
    where
      -- where nothing is taken, it doesn't matter where the regions lie
      anywhere : plan.takes ≡ [] → planned (view old.space).regions (view old.space).ends plan (array_of view old)
          ≡ planned v.regions (view old.space).ends plan (array_of view old)
      anywhere none = ap (λ (ts : List Take). with_writes plan.writes plan.images
          (with_takes (view old.space).regions (view old.space).ends ts (drop (length plan.writes) plan.images)
          (array_of view old))) none
          ∙ ap (λ (ts : List Take). with_writes plan.writes plan.images
          (with_takes v.regions (view old.space).ends ts (drop (length plan.writes) plan.images) (array_of view old)))
          (sym none)
