-- A line whose plan edits one group is done: what it leaves besides the tree.
use Rattle.std.proofs.Common.{◌≡◌, ◌⊎◌, ℕ, zero, suc, ◌+◌, ◌<◌, ◌≤◌, List, [], ◌∷◌, ◌++◌, length, refl, sym, ◌∙◌, ap, subst}
use Rattle.std.proofs.Common.{arith, ⊎_elim, None, Bool, true, false}
use Rattle.std.specs.Prelude.{◌||◌}
use Rattle.std.specs.List.{AllZip, Contains}
use Rattle.std.specs.List.Sorted.{IsPermutation}
use Rattle.std.proofs.Math.Path.{fun_ext}
use Rattle.std.proofs.lemmas.List.Elements.{Contains-append_left, Contains-append_right, Contains-append_cases}
use Rattle.std.proofs.lemmas.List.Sorted.{Contains-permutation, IsPermutation-sym}
use Rattle.h5_base.specs.declared.extent.MemClass.{MemClass}
use Rattle.outside.specs.Array.{Ends}
use Rattle.outside.specs.Blocks.{AllApart, AllSome, AreKept, Block, Bounds, IsApart}
use Rattle.outside.specs.Space.{AreRegions, SpaceView}
use Rattle.block_space.specs.Plans.{FitsCatalogue, ends_after, need_of, rounded, taken_blocks}
use Rattle.block_space.specs.declared.plan.EditPlan.{EditPlan}
use Rattle.block_space.specs.declared.plan.Take.{Take}
use Rattle.block_space.proofs.Apart.{each_apart}
use Rattle.block_space.proofs.Ends.{ends_as_one}
use Rattle.block_space.proofs.Readied.{ends_behind_needs}
use Rattle.session_model.specs.Line.{AreBuilt, IsBuilt}
use Rattle.session_model.specs.State.{Setting, need, risen}
use Rattle.group_lines.specs.States.{plain_setting}
use Rattle.group_lines.proofs.Taken.{IsTakenAt, taken_there}

pub or_true : (b : Bool) → (b || true) ≡ true
or_true true = refl
or_true false = refl

-- ---- blocks that were taken aren't among those that were there

apart_from : (xs ys : List Block) (x y : Block) → AllApart (xs ++ ys) → Contains xs x → Contains ys y
    → (x.start + x.len ≤ y.start) ⊎ (y.start + y.len ≤ x.start)
apart_from [] ys x y all (n, low, is) has = absurd (omega (arith, low))
apart_from (z ∷ xs) ys x y all (zero, low, is) has =
    subst (λ (b : Block). (b.start + b.len ≤ y.start) ⊎ (y.start + y.len ≤ b.start)) is
    (each_apart z (xs ++ ys) all.0 y (Contains-append_right xs ys y has))
apart_from (z ∷ xs) ys x y all (suc n, low, is) has = apart_from xs ys x y all.1 (n, omega (arith, low), is) has

each_some : (xs : List Block) (x : Block) → AllSome xs → Contains xs x → 0 < x.len
each_some [] x all (n, low, is) = absurd (omega (arith, low))
each_some (z ∷ xs) x all (zero, low, is) = subst (λ (b : Block). 0 < b.len) is all.0
each_some (z ∷ xs) x all (suc n, low, is) = each_some xs x all.1 (n, omega (arith, low), is)

no_both : (e : Bounds) (xs ys : List Block) (y : Block) → AreKept e (xs ++ ys) → Contains xs y → Contains ys y → ⊥
no_both e xs ys y kept old new =
    let some : 0 < y.len = each_some (xs ++ ys) y kept.some (Contains-append_left xs ys y old) in
    ⊎_elim (λ before. omega (arith, some, before)) (λ behind. omega (arith, some, behind))
    (apart_from xs ys y y kept.apart old new)

-- of lists that are as many together, what is in the one and not gone is in the other
still_there : (e : Bounds) (all taken later gone : List Block) → AreKept e (all ++ taken)
    → IsPermutation (later ++ gone) (all ++ taken) → ((y : Block) → Contains gone y → Contains all y) → (y : Block)
    → Contains taken y → Contains later y
still_there e all taken later gone kept moved gone_old y has =
    ⊎_elim (λ there. there) (λ lost. absurd (no_both e all taken y kept (gone_old y lost) has))
    (Contains-append_cases later gone y
    (Contains-permutation (all ++ taken) (later ++ gone) y (IsPermutation-sym _ _ moved)
    (Contains-append_right all taken y has)))

-- ---- where they lie

built_from : (k : Setting) (ends : Ends) (ts us : List Take) (later ys : List Block) (first last : Ends) → first ≡ ends
    → last ≡ risen k ends us → AllZip (IsTakenAt first last) ts ys → ((y : Block) → Contains ys y → Contains later y)
    → AllZip (IsBuilt k ends us later) ts ys
built_from k ends [] us later [] first last f l zip there = zip
built_from k ends [] us later (y ∷ ys) first last f l zip there = zip
built_from k ends (t ∷ ts) us later [] first last f l zip there = zip
built_from k ends (t ∷ ts) us later (y ∷ ys) first last f l zip there = (
  record {
    one = there y (0, omega arith, refl);
    len = ap rounded zip.0.len;
    behind = omega (arith, zip.0.behind, ap (λ (e : Ends). e t.class) f);
    before = omega (arith, zip.0.before, ap (λ (e : Ends). e t.class) l);
  },
  built_from k ends ts us later ys first last f l zip.1
      (λ z has. there z (suc has.0, omega (arith, has.1), has.2)),
)

module _ (v w : SpaceView) (old : Ends) (met : List Block) (plan : EditPlan) (regions : AreRegions v.regions v.ends)
    (told : old ≡ v.ends) (is : w.ends ≡ ends_after v.regions v.ends plan.takes) (fits : FitsCatalogue met plan)
    (same_needs : (c : MemClass) → need_of v.regions plan.needs c ≡ need (plain_setting v) plan.takes c) where
  risen_by : ends_after v.regions v.ends plan.takes ≡ risen (plain_setting v) old plan.takes
  risen_by = fun_ext (λ (c : MemClass). omega (
    arith,
    ends_behind_needs v.regions v.ends met plan c regions fits,
    same_needs c,
    ap (λ (e : Ends). e c) told,
  ))

  -- each region's end rises by what is needed of it
  pub ends_risen : w.ends ≡ risen (plain_setting v) old plan.takes
  ends_risen = is ∙ risen_by

  -- each block that was taken is one of the file's
  pub are_built : (e : Bounds) (all later gone : List Block)
      → AreKept e (all ++ taken_blocks v.regions v.ends plan.takes)
      → IsPermutation (later ++ gone) (all ++ taken_blocks v.regions v.ends plan.takes)
      → ((y : Block) → Contains gone y → Contains all y) → AllApart (taken_blocks v.regions v.ends plan.takes)
      → AreBuilt (plain_setting v) old plan.takes later
  are_built e all later gone kept moved gone_old apart = record {
    built = taken_blocks v.regions v.ends plan.takes;
    are = built_from (plain_setting v) old plan.takes plan.takes later (taken_blocks v.regions v.ends plan.takes) v.ends
        (ends_after v.regions v.ends plan.takes) (sym told) risen_by
        (taken_there v.regions v.ends plan.takes (ends_as_one v.regions v.ends regions))
        (still_there e all (taken_blocks v.regions v.ends plan.takes) later gone kept moved gone_old);
    apart = apart;
  }
