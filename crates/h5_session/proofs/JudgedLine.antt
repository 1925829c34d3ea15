-- A line that edits, by what came of its plan: a limit, no room, or a fault on the way.
use Rattle.std.proofs.Common.{◌≡◌, ℕ, ℤ, Bool, true, IsTrue, List, length, Ok, Option, refl, sym, ◌∙◌, ap, subst}
use Rattle.std.specs.Prelude.{pos}
use Rattle.h5_base.specs.declared.extent.Extent.{Extent}
use Rattle.outside.specs.Array.{Array}
use Rattle.outside.specs.Blocks.{Block}
use Rattle.outside.specs.Revisions.{Committed}
use Rattle.outside.specs.Space.{SpaceView}
use Rattle.block_space.specs.Plans.{FitsCatalogue, IsNoRoom}
use Rattle.block_space.specs.declared.plan.EditPlan.{EditPlan}
use Rattle.block_space.specs.declared.plan.ReserveStop.TheVariants as reserve
use Rattle.edit_room.specs.Judged.{PassesALimit}
use Rattle.edit_room.specs.Touched.{IsTouchedBy}
use Rattle.edit_room.proofs.Touched.{needs_are_taken}
use Rattle.object_model.specs.Step.{Gives, Plain, new_group, step}
use Rattle.object_model.specs.Tree.{Empty, Group, Name, dir_of, last_of}
use Rattle.object_model.specs.declared.answer.Answer.TheVariants as answer
use Rattle.object_model.specs.declared.answer.Code.TheVariants as code
use Rattle.object_model.specs.declared.command.Command.{Command}
use Rattle.object_model.specs.declared.command.Command.TheVariants as command
use Rattle.file_model.specs.Holds.{Full, FullLinks, GroupAt, plain}
use Rattle.tree_places.specs.Places.{add_place, remove_place, to_add, to_remove}
use Rattle.group_edit.specs.Edited.{Removes}
use Rattle.object_edit.specs.Making.{MakesGroup}
use Rattle.object_edit.specs.declared.making.GroupPlan.{GroupPlan}
use Rattle.session_model.specs.Line.{Full as NoRegion, Line, Over}
use Rattle.session_model.specs.State.{AreTouched, Goes, IsOver, IsRevisionOver, IsTouched, IsUnder, Plan, State, full_of, is_writing}
use Rattle.session_model.specs.State.{stack_of, tree_of}
use Rattle.session_model.specs.TooLarge.{IsTooLarge}
use Rattle.group_lines.specs.Lines.{place_of}
use Rattle.group_lines.specs.States.{StandsFor, plain_setting}
use Rattle.group_lines.proofs.Answered.{mkgroup_steps, remove_steps}
use Rattle.group_lines.proofs.Judged.{has_room, no_room, over, under}
use Rattle.group_lines.proofs.Parents.{added_to, removed_from}
use Rattle.group_lines.proofs.Plans.{mkgroup_plan, remove_plan}
use Rattle.h5_session.specs.Doing.{InPart}
use Rattle.h5_session.specs.Steps.{IsCutOff, Touches}
use Rattle.h5_session.proofs.Found.{new_one}
use Rattle.h5_session.proofs.MadeLine.{no_drop, no_revision}

-- The plan of an edit is the plan of a line that goes on, with whatever ranges it touches.
pub record IsLinePlan (v : SpaceView) (s : State) (plan : EditPlan) (c : Command) : Type 0 where
  pub tree : Plain
  pub steps : step (stack_of (plain_setting v) s) (tree_of s) c ≡ Ok (tree, Gives answer.Done)
  pub asked : ¬ IsTooLarge (full_of s) c
  pub writes : IsTrue (is_writing c)
  pub single : (m : Option Committed) (rs : List Extent) → ¬ IsRevisionOver m rs c
  pub plan_of : (ranges : List Extent) → IsTouchedBy v plan ranges
      → (p : Plan (plain_setting v) s c) × (p.takes ≡ plan.takes) × (p.ranges ≡ ranges)

-- the ranges of a plan, as a line has them
pub touched_ranges : (v : SpaceView) (plan : EditPlan) (ranges : List Extent) → IsTouchedBy v plan ranges
    → AreTouched (plain_setting v) v.ends plan.takes (IsTouched plan.writes) ranges
touched_ranges v plan ranges t = record { some = t.some; reached = t.reached; taken = t.taken }

module _ (v : SpaceView) (s : State) (met : List Block) (stands : StandsFor (plain_setting v) v s met) (plan : EditPlan)
    (fits : FitsCatalogue met plan) (c : Command) (l : IsLinePlan v s plan c) where
  pub limit_line : (ranges : List Extent) → IsTouchedBy v plan ranges → PassesALimit v (length met) plan ranges → (secs : ℤ)
      → Line (plain_setting v) s c secs s (answer.No code.Limit)
  limit_line ranges touched passes secs =
      let (p, takes, are) = l.plan_of ranges touched in
      Over l.tree (Gives answer.Done) p l.steps
      (over v s met stands plan fits (needs_are_taken v met plan fits) c p takes l.writes
      (subst (PassesALimit v (length met) plan) (sym are) passes)) refl refl

  is_under : (ranges : List Extent) (p : Plan (plain_setting v) s c) → p.takes ≡ plan.takes → p.ranges ≡ ranges
      → ¬ PassesALimit v (length met) plan ranges → IsUnder (plain_setting v) s c p
  is_under ranges p takes are passes = record {
    asked = l.asked;
    planned = under v s met stands plan fits (needs_are_taken v met plan fits) c p takes l.writes
        (l.single s.committed p.ranges) (λ h. passes (subst (PassesALimit v (length met) plan) are h));
  }

  pub full_line : (ranges : List Extent) → IsTouchedBy v plan ranges → ¬ PassesALimit v (length met) plan ranges
      → (end need : ℕ) → IsNoRoom v (length met) plan.needs (reserve.Full end need) → (secs : ℤ)
      → Line (plain_setting v) s c secs s (answer.Full end need)
  full_line ranges touched passes end need short secs =
      let (p, takes, are) = l.plan_of ranges touched in
      NoRegion l.tree (Gives answer.Done) p end need l.steps (is_under ranges p takes are passes)
      (no_room v s met stands plan fits (needs_are_taken v met plan fits) c p takes l.writes end need short) refl refl

  pub cut_line : (w : SpaceView) → InPart v w met plan → IsCutOff (plain_setting v) s c w
  cut_line w h =
      let (p, takes, are) = l.plan_of h.ranges h.touched in
      record {
        ranges = h.ranges;
        would = Touches p l.tree (Gives answer.Done) (record {
          steps = l.steps;
          under = is_under h.ranges p takes are h.under;
          fits = has_room v s met stands plan fits (needs_are_taken v met plan fits) c p takes l.writes h.room;
        }) (sym are);
        stays = λ a out. h.stays a out ∙ sym (ap (λ (b : Array). b a) stands.told.array);
      }

module _ (v : SpaceView) (s : State) (met : List Block) (stands : StandsFor (plain_setting v) v s met) (p : List Name)
    (parent : GroupAt) (below : FullLinks) (writable : v.writable ≡ true) where
  pub mkgroup_planned : (made : GroupPlan) → to_add (full_of s) p ≡ Ok (Group parent below)
      → ¬ IsTooLarge (full_of s) (command.Mkgroup p) → MakesGroup v (place_of s.super parent) (last_of p) made
      → IsLinePlan v s made.plan (command.Mkgroup p)
  mkgroup_planned made found small makes = record {
    tree = plain (add_place (λ g. g) p new_one (full_of s));
    steps = mkgroup_steps (plain_setting v) s p (pos 0) (λ g. g) new_one refl (Group parent below) writable found;
    asked = small;
    writes = refl;
    single = no_revision p;
    plan_of = λ ranges touched. (
      mkgroup_plan v s met stands p parent below (added_to (full_of s) p parent below found).walked made makes ranges
          (touched_ranges v made.plan ranges touched),
      refl,
      refl,
    );
  }

  pub remove_planned : (plan : EditPlan) → to_remove (full_of s) p ≡ Ok (Group parent below)
      → Removes v (place_of s.super parent) (last_of p) plan → IsLinePlan v s plan (command.Rm p)
  remove_planned plan found removes = record {
    tree = plain (remove_place (λ g. g) p (full_of s));
    steps = remove_steps (plain_setting v) s p (pos 0) (λ g. g) (Group parent below) writable found;
    asked = λ large. large;
    writes = refl;
    single = no_drop p;
    plan_of = λ ranges touched. (
      remove_plan v s met stands p parent below (removed_from (full_of s) p parent below found).walked plan ranges
          (touched_ranges v plan ranges touched) removes,
      refl,
      refl,
    );
  }
