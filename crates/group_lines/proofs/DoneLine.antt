-- A line whose plan was done is answered so.
use Rattle.std.proofs.Common.{◌≡◌, ℕ, ℤ, ◌<◌, ◌≤◌, Bool, true, IsTrue, List, ◌++◌, length, Ok, Option, refl, sym, ◌∙◌, ap, subst}
use Rattle.std.proofs.Common.{⊎_elim, arith}
use Rattle.std.specs.Prelude.{◌||◌}
use Rattle.std.specs.List.{Contains}
use Rattle.std.proofs.lemmas.Bool.{cases_lt}
use Rattle.h5_base.specs.declared.extent.Extent.{Extent}
use Rattle.h5_base.specs.declared.extent.MemClass.TheVariants as class
use Rattle.outside.specs.Blocks.{Block}
use Rattle.outside.specs.Revisions.{Committed}
use Rattle.outside.specs.Space.{SpaceView}
use Rattle.block_space.specs.declared.plan.EditPlan.{EditPlan}
use Rattle.block_space.specs.declared.plan.Take.{Take}
use Rattle.object_model.specs.Step.{Gives, step}
use Rattle.object_model.specs.declared.answer.Answer.TheVariants as answer
use Rattle.object_model.specs.declared.command.Command.{Command}
use Rattle.file_model.specs.Holds.{Full, plain}
use Rattle.file_model.specs.Limits.{most_segment}
use Rattle.session_model.specs.Line.{Done, is_edit}
use Rattle.session_model.specs.State.{IsRevisionOver, State, full_of, is_writing, stack_of, tree_of}
use Rattle.session_model.specs.TooLarge.{IsTooLarge}
use Rattle.edit_room.specs.Judged.{PassesALimit, Segment}
use Rattle.group_lines.specs.Lines.{IsAnswered, IsLineDone, WasDone}
use Rattle.group_lines.specs.States.{plain_setting}
use Rattle.group_lines.proofs.Done.{or_true}
use Rattle.group_lines.proofs.Judged.{has_room, under}

-- a plan that passes no limit takes no segment that is too long
pub short_segments : (v : SpaceView) (count : ℕ) (plan : EditPlan) (ranges : List Extent)
    → ¬ PassesALimit v count plan ranges → (x : Take) → Contains plan.takes x → x.class ≡ class.LocalHeap
    → x.len ≤ most_segment
short_segments v count plan ranges passes x has is =
    ⊎_elim (λ long. absurd (passes (Segment x has is long))) (λ few. omega (arith, few)) (cases_lt most_segment x.len)

module _ (v w : SpaceView) (s : State) (c : Command) (met : List Block) (plan : EditPlan) (ranges : List Extent) (t : Full)
    (secs : ℤ) (d : WasDone v w s met plan ranges) (l : IsLineDone v w s c met plan ranges t)
    (steps : step (stack_of (plain_setting v) s) (tree_of s) c ≡ Ok (plain t, Gives answer.Done))
    (asked : ¬ IsTooLarge (full_of s) c) (writes : IsTrue (is_writing c)) (edits : is_edit c ≡ true)
    (single : (m : Option Committed) (rs : List Extent) → ¬ IsRevisionOver m rs c)
    (passes : ¬ PassesALimit v (length met) plan ranges) where
  pub answered : IsAnswered v w s c met plan t secs
  answered = record {
    next = l.new;
    line = Done (plain t) l.planned (record {
      steps = steps;
      under = record {
        asked = asked;
        planned = under v s met d.stands plan d.fits d.ranged.needs c l.planned l.takes writes
            (single s.committed l.planned.ranges)
            (λ p. passes (subst (PassesALimit v (length met) plan) l.ranges_are p));
      };
      fits = has_room v s met d.stands plan d.fits d.ranged.needs c l.planned l.takes writes d.room;
    }) l.does;
    stands = l.stands;
    tree = l.tree;
    super = l.super;
    edited = l.does.edited ∙ ap (λ (b : Bool). s.edited || b) edits ∙ or_true s.edited;
  }
