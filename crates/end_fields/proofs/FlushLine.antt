-- How the line of a script that flushes is answered.
use Rattle.std.proofs.Common.{◌≡◌, ◌≤◌, Bool, List, [], refl, sym, ap, subst, arith, length}
use Rattle.std.specs.Prelude.{Option, Some, None, not, Ok}
use Rattle.std.specs.List.{Contains}
use Rattle.h5_base.specs.declared.extent.Extent.{Extent}
use Rattle.h5_base.specs.declared.extent.MemClass.{MemClass}
use Rattle.outside.specs.Array.{Ends}
use Rattle.outside.specs.Revisions.{Committed}
use Rattle.outside.specs.Space.{HasRoom, SpaceView}
use Rattle.block_space.specs.Plans.{HasRoomFor}
use Rattle.block_space.specs.declared.plan.Take.{Take}
use Rattle.object_model.specs.declared.answer.Answer.TheVariants as answer
use Rattle.object_model.specs.declared.command.Command.TheVariants as command
use Rattle.object_model.specs.Step.{Gives, step}
use Rattle.session_model.specs.Line.{Done, Over}
use Rattle.session_model.specs.State.{Blocks, Goes, IsOver, IsRevisionOver, Plan, Revision, Revisions, Segment, Setting}
use Rattle.session_model.specs.State.{State, needs_of, setting_of, stack_of, tree_of, view_of}
use Rattle.end_fields.specs.Laws.{FlushIsDone, FlushIsOver, IsOfRanges, MayFlush}
use Rattle.end_fields.proofs.Plans.{flush_does, flush_plan, need_none}

no_take : (x : Take) → Contains [] x → ⊥
no_take x has = omega (arith, has.1)

no_revision : (m : Option Committed) (ranges : List Extent) → IsRevisionOver m ranges command.Flush → ⊥
no_revision None ranges h = h
no_revision (Some m) ranges h = h

module _ (v : SpaceView) (s : State) (ranges : List Extent) (may : MayFlush v s ranges) where
  abbrev k : Setting
  k = setting_of v None

  steps : step (stack_of k s) (tree_of s) command.Flush ≡ Ok (tree_of s, Gives answer.Done)
  steps = ap (λ (b : Bool). step (record { read_only = not b; has_revisions = (stack_of k s).has_revisions })
      (tree_of s) command.Flush) may.writable

  pub planned : (p : Plan k s command.Flush) × IsOfRanges p ranges
  planned = flush_plan v None s ranges may.told may.are

  -- nothing is passed where there is room for the pages
  none_over : (p : Plan k s command.Flush) → IsOfRanges p ranges → HasRoom v.committed ranges
      → IsOver k s command.Flush p → ⊥
  none_over p are room (Blocks h) =
      let none : length p.takes ≡ 0 = ap length are.takes in omega (arith, h, none, may.few)
  none_over p are room (Segment x has local h) = no_take x (subst (λ (ts : List Take). Contains ts x) are.takes has)
  none_over p are room (Revisions writes h) = h (subst (λ (m : Option Committed). HasRoom m p.ranges) (sym
      may.told.committed) (subst (λ (rs : List Extent). HasRoom v.committed rs) (sym are.ranges_are) room))
  none_over p are room (Revision h) = no_revision s.committed p.ranges h

  fits : (p : Plan k s command.Flush) → IsOfRanges p ranges → ((c : MemClass) → v.ends c ≤ (v.regions c).limit)
      → HasRoomFor (view_of k s) s.blocks (needs_of p.takes)
  fits p are low = subst (λ (ts : List Take). HasRoomFor (view_of k s) s.blocks (needs_of ts)) (sym are.takes) (record {
    few = omega (arith, may.few);
    below = λ c.
        let n = need_none k.regions c in
        let here : s.ends c ≡ v.ends c = ap (λ (e : Ends). e c) may.told.ends in
        let l = low c in omega (arith, n, here, l);
  })

pub is_done : FlushIsDone
is_done tells v w s ranges secs sound may room puts =
    let plan = planned v s ranges may in
    let goes : Goes (setting_of v None) s command.Flush plan.0 (tree_of s) (Gives answer.Done) = record {
      steps = steps v s ranges may;
      under = record { asked = λ h. h; planned = none_over v s ranges may plan.0 plan.1 room };
      fits = fits v s ranges may plan.0 plan.1 sound.regions.high;
    } in
    Done (tree_of s) plan.0 goes
    (flush_does v w s ranges plan.0 may.told sound.revisions may.held may.are plan.1 puts)

pub is_over : FlushIsOver
is_over v s ranges secs may none =
    let plan = planned v s ranges may in
    Over (tree_of s) (Gives answer.Done) plan.0 (steps v s ranges may) (Revisions refl (λ room. none (subst
    (λ (m : Option Committed). HasRoom m ranges) may.told.committed
    (subst (λ (rs : List Extent). HasRoom s.committed rs) plan.1.ranges_are room)))) refl refl
