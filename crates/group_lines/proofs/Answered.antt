-- The answers of the lines that make a group and that remove a link, by what the tree of places tells and how the plan is
-- judged.
use Rattle.std.proofs.Common.{◌≡◌, ℕ, ℤ, Bool, true, false, List, length, Ok, Err, Result, refl, sym, ◌∙◌, ap, subst}
use Rattle.std.specs.Prelude.{not}
use Rattle.h5_base.specs.declared.extent.Extent.{Extent}
use Rattle.outside.specs.Blocks.{Block}
use Rattle.outside.specs.Space.{SpaceView}
use Rattle.block_space.specs.declared.plan.ReserveStop.TheVariants as stop
use Rattle.block_space.specs.Plans.{HasRoomFor, IsNoRoom}
use Rattle.object_model.specs.Step.{Gives, Plain, new_group, step}
use Rattle.object_model.specs.Tree.{Empty, Group, Name}
use Rattle.object_model.specs.declared.answer.Answer.TheVariants as answer
use Rattle.object_model.specs.declared.answer.Code.{Code}
use Rattle.object_model.specs.declared.answer.Code.TheVariants as code
use Rattle.object_model.specs.declared.command.Command.{Command}
use Rattle.object_model.specs.declared.command.Command.TheVariants as command
use Rattle.file_model.specs.EditLaws.{group_at}
use Rattle.file_model.specs.Holds.{Full, FullLinks, GroupAt, plain}
use Rattle.tree_places.specs.Places.{add_place, remove_place, to_add, to_remove}
use Rattle.tree_places.proofs.Steps.{add_step, remove_step}
use Rattle.session_model.specs.Line.{Full as NoRegion, Line, Over, Refused, TooLarge}
use Rattle.session_model.specs.State.{IsOver, IsUnder, Plan, Setting, State, full_of, needs_of, stack_of, tree_of, view_of}
use Rattle.session_model.specs.TooLarge.{IsTooLarge}

module _ (k : Setting) (s : State) (p : List Name) (secs : ℤ) where
  -- ---- `mkgroup`

  module _ (f : GroupAt → GroupAt) (new : Full) (fresh : plain new ≡ new_group) where
    pub mkgroup_read_only : k.writable ≡ false → Line k s (command.Mkgroup p) secs s (answer.No code.ReadOnly)
    mkgroup_read_only closed = Refused code.ReadOnly
        (add_step (stack_of k s) f p new (full_of s) fresh ∙ rw closed refl) refl refl

    pub mkgroup_refused : (why : Code) → k.writable ≡ true → to_add (full_of s) p ≡ Err why
        → Line k s (command.Mkgroup p) secs s (answer.No why)
    mkgroup_refused why open_for is = Refused why
        (add_step (stack_of k s) f p new (full_of s) fresh ∙ rw (open_for, is) refl) refl refl

    pub mkgroup_steps : (dir : Full) → k.writable ≡ true → to_add (full_of s) p ≡ Ok dir
        → step (stack_of k s) (tree_of s) (command.Mkgroup p) ≡ Ok (plain (add_place f p new (full_of s)), Gives answer.Done)
    mkgroup_steps dir open_for is = add_step (stack_of k s) f p new (full_of s) fresh ∙ rw (open_for, is) refl

  -- ---- `rm`

  module _ (f : GroupAt → GroupAt) where
    pub remove_read_only : k.writable ≡ false → Line k s (command.Rm p) secs s (answer.No code.ReadOnly)
    remove_read_only closed = Refused code.ReadOnly (remove_step (stack_of k s) f p (full_of s) ∙ rw closed refl) refl refl

    pub remove_refused : (why : Code) → k.writable ≡ true → to_remove (full_of s) p ≡ Err why
        → Line k s (command.Rm p) secs s (answer.No why)
    remove_refused why open_for is = Refused why
        (remove_step (stack_of k s) f p (full_of s) ∙ rw (open_for, is) refl) refl refl

    pub remove_steps : (dir : Full) → k.writable ≡ true → to_remove (full_of s) p ≡ Ok dir
        → step (stack_of k s) (tree_of s) (command.Rm p) ≡ Ok (plain (remove_place f p (full_of s)), Gives answer.Done)
    remove_steps dir open_for is = remove_step (stack_of k s) f p (full_of s) ∙ rw (open_for, is) refl
