-- A session over which only something was planned: in the same state, over an alike space.
use Rattle.std.proofs.Common.{◌≡◌, ℕ, ℤ, Bool, true, List, [], None, Result, Ok, Err, refl, sym, ◌∙◌, ap, subst}
use Rattle.std.specs.Prelude.{IfErr, IsErrOf}
use Rattle.std.specs.List.{Contains}
use Rattle.outside.specs.Array.{Array}
use Rattle.outside.specs.Causes.{Counts, OneRose}
use Rattle.outside.specs.Space.{SameKind, SpaceView}
use Rattle.block_space.specs.Catalogue.{blocks_of}
use Rattle.end_fields.specs.Field.{field_of}
use Rattle.object_model.specs.declared.answer.Answer.{Answer}
use Rattle.object_model.specs.declared.command.Command.{Command}
use Rattle.file_model.specs.RefusedTree.{super_block}
use Rattle.super_codec.specs.declared.superblock.Superblock.{Superblock}
use Rattle.tree_nodes.specs.Entries.{superblock_of}
use Rattle.tree_places.specs.Kept.{HasPlaces}
use Rattle.tree_places.proofs.Edited.{same_stays}
use Rattle.session_model.specs.State.{IsTouched, State, full_of}
use Rattle.group_lines.specs.States.{StandsFor, plain_setting}
use Rattle.h5_session.specs.Session.{IsIn, IsSameButEnd, IsSound, setting_in, space_in}
use Rattle.h5_session.specs.Steps.{IsCutOff, Leaves, Nothing, StepsFrom}
use Rattle.h5_session.specs.Stops.{HasCauses, IsFault, IsMalformed}
use Rattle.h5_session.specs.Waits.{Waits}
use Rattle.h5_session.specs.declared.session.Session.{Session}
use Rattle.h5_session.specs.declared.stop.StepStop.{StepStop}
use Rattle.h5_session.specs.declared.stop.StepStop.TheVariants as stop

module _ {V T : Type 0} (view : V → SpaceView) (Alike : V → V → Type 0) (faults : V → Counts) (old new : Session V)
    (r : Result T StepStop) (w : Waits view Alike faults old new r)
    (same : view (space_in old) ≡ view (space_in new)) where
  abbrev pub waits_in : (s : State) → IsIn view old s → IsIn view new s
  waits_in s i = record {
    met = i.met;
    keeps = w.kept i.met i.keeps;
    stands = subst (λ (v : SpaceView). StandsFor (plain_setting v) v s i.met) same i.stands;
    places = (same_stays old.tree new.tree w.tree).places (full_of s) i.places;
    super = subst (λ (x : Superblock). IsSameButEnd x s.super) (sym w.tree.superblock) i.super;
    edited = w.edited ∙ i.edited;
  }

  abbrev pub waits_sound : IsSound view old → IsSound view new
  waits_sound h = record {
    tree = (same_stays old.tree new.tree w.tree).sound h.tree;
    met = h.met;
    keeps = w.kept h.met h.keeps;
    super = subst (λ (x : Superblock). Contains h.met (super_block x)) (sym w.tree.superblock) h.super;
    closes = λ is without. closes is without;
  }
    where
      closes : new.edited ≡ true → (view (space_in new)).committed ≡ None
          → Contains (blocks_of (view (space_in new)).prepared) (field_of (superblock_of new.tree).version)
      closes is without = subst (λ (x : Superblock). Contains (blocks_of (view (space_in new)).prepared) (field_of x.version))
          (sym w.tree.superblock)
          (subst (λ (v : SpaceView). Contains (blocks_of v.prepared) (field_of (superblock_of old.tree).version)) same
          (h.closes (sym w.edited ∙ is) (ap (λ (v : SpaceView). v.committed) same ∙ without)))

-- a stop is the same whatever the call would have answered else
pub same_stop : {A B : Type 0} (why e : StepStop) → IsErrOf {T = A} (Err why) e → IsErrOf {T = B} (Err why) e
same_stop {A} {B} why e is =
    let same : why ≡ e = cc in
    subst (λ (x : StepStop). IsErrOf {T = B} (Err why) x) same refl

-- a line that isn't planned
module _ {V T : Type 0} (view : V → SpaceView) (Alike GoesOn : V → V → Type 0) (Stands : V → Type 0)
    (faults copy_faults : V → Counts) (old new : Session V) (r : Result T StepStop) (why : StepStop) (is : r ≡ Err why)
    (w : Waits view Alike faults old new r) (same : view (space_in old) ≡ view (space_in new)) where
  pub waited : (s : State) (c : Command) (secs : ℤ) → IsIn view old s → ¬ IsMalformed why
      → StepsFrom view old new s c secs (Err why)
  waited s c secs i well = record {
    answered = tt;
    stays = λ calm. waits_in view Alike faults old new r w same s i;
    well = well;
    cut_off = λ fault. record {
      ranges = [];
      would = Nothing refl;
      stays = λ a out. sym (ap (λ (v : SpaceView). v.array a) same) ∙ sym (ap (λ (b : Array). b a) i.stands.told.array);
    };
  }

  pub waited_leaves : IsSound view old → Stands (space_in new) → GoesOn (space_in old) (space_in new)
      → copy_faults (space_in new) ≡ copy_faults (space_in old)
      → Leaves view Stands GoesOn faults copy_faults old new (Err why)
  waited_leaves h stands goes copy = record {
    sound = (tt, λ calm. waits_sound view Alike faults old new r w same h);
    stands = (tt, λ calm. stands);
    text = tt;
    cause = record {
      failed = λ f. w.failed (subst (λ (x : Result T StepStop). IsErrOf x stop.Failed) (sym is)
          (same_stop why stop.Failed f));
      copy_failed = λ f. absurd (w.no_copy (subst (λ (x : Result T StepStop). IsErrOf x stop.WoFailed) (sym is)
          (same_stop why stop.WoFailed f)));
      calm = λ other. w.calm (λ f. other (same_stop why stop.Failed
          (subst (λ (x : Result T StepStop). IsErrOf x stop.Failed) is f)));
      copy_calm = λ other. copy;
    };
    kind = subst (λ (v : SpaceView). SameKind (view (space_in old)) v) same (record {
      regions = refl;
      writable = refl;
      revisions = (λ h. h, λ h. h);
    });
    goes = goes;
  }
