-- A line whose plan was judged and, where it was admitted, begun: what its session is then.
use Rattle.std.proofs.Common.{◌≡◌, ℕ, ℤ, Bool, true, IsTrue, List, Option, Some, None, Result, Ok, Err, refl, sym, ◌∙◌, ap, subst}
use Rattle.std.proofs.Common.{◌++◌}
use Rattle.std.specs.Prelude.{IfErr, IfNone, IfOk, IfSome, IsErrOf}
use Rattle.std.proofs.lemmas.List.Elements.{Contains-append_left}
use Rattle.h5_base.specs.declared.extent.Extent.{Extent}
use Rattle.std.specs.List.{Contains}
use Rattle.outside.specs.Blocks.{Block}
use Rattle.outside.specs.Causes.{Counts}
use Rattle.outside.specs.Space.{SameKind, SpaceView}
use Rattle.block_space.specs.Blocks.{Keeps, space_of}
use Rattle.block_space.specs.Catalogue.{block_of, blocks_of}
use Rattle.block_space.specs.Plans.{FitsCatalogue}
use Rattle.block_space.specs.declared.blocks.Blocks.{Blocks}
use Rattle.block_space.specs.declared.plan.EditPlan.{EditPlan}
use Rattle.end_fields.specs.Field.{field_of}
use Rattle.file_model.specs.EditLaws.{end_place}
use Rattle.file_model.specs.RefusedTree.{super_block}
use Rattle.super_codec.specs.declared.superblock.Superblock.{Superblock}
use Rattle.tree_nodes.specs.Entries.{superblock_of}
use Rattle.tree_nodes.specs.declared.tree.ObjectTree.{ObjectTree}
use Rattle.object_tree.specs.Sound.{IsSoundTree}
use Rattle.object_model.specs.declared.answer.Answer.{Answer}
use Rattle.object_model.specs.declared.answer.Answer.TheVariants as answer
use Rattle.object_model.specs.declared.answer.Code.TheVariants as code
use Rattle.object_model.specs.declared.command.Command.{Command}
use Rattle.script.specs.Print.{HasText}
use Rattle.session_model.specs.Line.{Line}
use Rattle.session_model.specs.State.{State}
use Rattle.group_lines.specs.States.{plain_setting}
use Rattle.h5_session.specs.Doing.{ComesTo, InPart}
use Rattle.h5_session.specs.Session.{IsIn, IsSound, setting_in, space_in}
use Rattle.h5_session.specs.Steps.{IsCutOff, Leaves, StepsFrom}
use Rattle.h5_session.specs.Stops.{HasCauses, IsFault, IsMalformed}
use Rattle.h5_session.specs.declared.doing.Outcome.{Outcome}
use Rattle.h5_session.specs.declared.doing.Outcome.TheVariants as outcome
use Rattle.h5_session.specs.declared.session.Session.{Session}
use Rattle.h5_session.specs.declared.stop.StepStop.{StepStop}
use Rattle.h5_session.specs.declared.stop.StepStop.TheVariants as stop
use Rattle.object_model.specs.Tree.{Name, last_of}
use Rattle.object_model.specs.declared.command.Command.TheVariants as command
use Rattle.tree_nodes.specs.declared.node.NodeId.{NodeId}
use Rattle.object_edit.specs.Making.{MakesGroup}
use Rattle.object_edit.specs.declared.making.GroupPlan.{GroupPlan}
use Rattle.group_lines.specs.Lines.{place_of}
use Rattle.h5_session.specs.Making.{CanMake}
use Rattle.h5_session.proofs.JudgedLine.{IsLinePlan, cut_line, full_line, limit_line, mkgroup_planned}
use Rattle.h5_session.proofs.Kept.{next, readied_in, readied_sound, same_in, same_sound}
use Rattle.h5_session.proofs.Waited.{same_stop}

-- ---- causes and kinds

-- a stop has the same causes whatever the call would have answered else, from counts that were the same before
pub err_causes : {A B : Type 0} (b0 b n c0 cb cn : Counts) (why : StepStop) → b ≡ b0 → cb ≡ c0
    → HasCauses {T = A} b n cb cn (Err why) → HasCauses {T = B} b0 n c0 cn (Err why)
err_causes {A} {B} b0 b n c0 cb cn why one other h =
    let there : HasCauses {T = B} b n cb cn (Err why) = record {
      failed = λ f. h.failed (same_stop why stop.Failed f);
      copy_failed = λ f. h.copy_failed (same_stop why stop.WoFailed f);
      calm = λ f. h.calm (λ k. f (same_stop why stop.Failed k));
      copy_calm = λ f. h.copy_calm (λ k. f (same_stop why stop.WoFailed k));
    } in
    subst (λ (x : Counts). HasCauses {T = B} x n c0 cn (Err why)) one
    (subst (λ (x : Counts). HasCauses {T = B} b n x cn (Err why)) other there)

pub ok_causes : {A B : Type 0} (b0 b n c0 cb cn : Counts) (x : A) (y : B) → b ≡ b0 → cb ≡ c0
    → HasCauses b n cb cn (Ok x) → HasCauses b0 n c0 cn (Ok y)
ok_causes b0 b n c0 cb cn x y one other h = record {
  failed = λ f. cc;
  copy_failed = λ f. cc;
  calm = λ f. h.calm (λ k. cc) ∙ one;
  copy_calm = λ f. h.copy_calm (λ k. cc) ∙ other;
}

-- ---- the line

module _ {V : Type 0} (view : V → SpaceView) (tells : Bool) (old mid : Session V) (blocks : Blocks V)
    (same : view (space_in old) ≡ view (space_in mid)) (s : State) (i : IsIn view mid s) (plan : EditPlan)
    (fits : FitsCatalogue i.met plan) (c : Command)
    (l : IsLinePlan (view (space_in mid)) s plan c) where
  abbrev v : SpaceView
  v = view (space_in mid)

  pub limit_stepped : ComesTo view tells mid.blocks blocks i.met plan outcome.Limit → (secs : ℤ)
      → Line (setting_in view old) s c secs s (answer.No code.Limit)
  limit_stepped o secs = subst (λ (x : SpaceView). Line (plain_setting x) s c secs s (answer.No code.Limit)) (sym same)
      (limit_line v s i.met i.stands plan fits c l o.ranges o.touched o.comes.0 secs)

  pub full_stepped : (end need : ℕ) → ComesTo view tells mid.blocks blocks i.met plan (outcome.Full end need) → (secs : ℤ)
      → Line (setting_in view old) s c secs s (answer.Full end need)
  full_stepped end need o secs = subst (λ (x : SpaceView). Line (plain_setting x) s c secs s (answer.Full end need)) (sym same)
      (full_line v s i.met i.stands plan fits c l o.ranges o.touched o.comes.0 end need o.comes.1 secs)

  pub cut_stepped : InPart v (view (space_of blocks)) i.met plan
      → IsCutOff (setting_in view old) s c (view (space_of blocks))
  cut_stepped h = subst (λ (x : SpaceView). IsCutOff (plain_setting x) s c (view (space_of blocks))) (sym same)
      (cut_line v s i.met i.stands plan fits c l (view (space_of blocks)) h)

-- ---- what a stop that is no fault is

pub only_memory : (why : StepStop) → ¬ IsFault why → ¬ IsMalformed why → why ≡ stop.NoMemory
only_memory stop.Failed fault malformed = absurd (fault tt)
only_memory stop.WoFailed fault malformed = absurd (fault tt)
only_memory stop.NoMemory fault malformed = refl
only_memory (stop.Malformed at kind) fault malformed = absurd (malformed tt)

-- ---- the range that closes a file

module _ (version : ℕ) (q : List Extent) (NoRevisions : Type 0) where
  same_block : (r : Extent) → r.start ≡ end_place version → r.len ≡ 8 → block_of r ≡ field_of version
  same_block r start len = λ j. record { start = start j; len = len j }

  -- where there are no revisions the range is the end field
  pub closing_given : (o : Option Extent) → NoRevisions → IfNone o (¬ NoRevisions)
      → IfSome o (λ r. NoRevisions × (r.start ≡ end_place version) × (r.len ≡ 8))
      → IfSome o (λ r. Contains (blocks_of q) (block_of r)) → Contains (blocks_of q) (field_of version)
  closing_given None none with_them without given = absurd (with_them none)
  closing_given (Some r) none with_them without given =
      subst (Contains (blocks_of q)) (same_block r without.1 without.2) given

  pub closing_kept : (p : List Extent) (o : Option Extent) → NoRevisions → IfNone o (¬ NoRevisions)
      → IfSome o (λ r. NoRevisions × (r.start ≡ end_place version) × (r.len ≡ 8))
      → IfSome o (λ r. Contains (blocks_of p) (block_of r) → Contains (blocks_of q) (block_of r))
      → Contains (blocks_of p) (field_of version) → Contains (blocks_of q) (field_of version)
  closing_kept p None none with_them without given had = absurd (with_them none)
  closing_kept p (Some r) none with_them without given had =
      subst (Contains (blocks_of q)) (same_block r without.1 without.2)
      (given (subst (Contains (blocks_of p)) (sym (same_block r without.1 without.2)) had))

-- ---- what is left

module _ {V : Type 0} (view : V → SpaceView) (Stands : V → Type 0) (GoesOn : V → V → Type 0)
    (faults copy_faults : V → Counts) (old mid new : Session V) (same : view (space_in old) ≡ view (space_in mid))
    (calm : faults (space_in mid) ≡ faults (space_in old))
    (copy : copy_faults (space_in mid) ≡ copy_faults (space_in old))
    (kind : SameKind (view (space_in mid)) (view (space_in new))) (goes : GoesOn (space_in old) (space_in new)) where
  old_kind : SameKind (view (space_in old)) (view (space_in new))
  old_kind = subst (λ (v : SpaceView). SameKind v (view (space_in new))) (sym same) kind

  pub leaves_done : {A : Type 0} (x : A) (a : Answer) → HasText a → IsSound view new → Stands (space_in new)
      → HasCauses (faults (space_in mid)) (faults (space_in new)) (copy_faults (space_in mid)) (copy_faults (space_in new))
      (Ok x) → Leaves view Stands GoesOn faults copy_faults old new (Ok a)
  leaves_done x a text sound stands cause = record {
    sound = (sound, tt);
    stands = (stands, tt);
    text = text;
    cause = ok_causes _ _ _ _ _ _ x a calm copy cause;
    kind = old_kind;
    goes = goes;
  }

  pub leaves_stop : {A : Type 0} (why : StepStop) → (¬ IsFault why → IsSound view new)
      → (¬ IsFault why → Stands (space_in new))
      → HasCauses {T = A} (faults (space_in mid)) (faults (space_in new)) (copy_faults (space_in mid))
      (copy_faults (space_in new)) (Err why) → Leaves view Stands GoesOn faults copy_faults old new (Err why)
  leaves_stop why sound stands cause = record {
    sound = (tt, sound);
    stands = (tt, stands);
    text = tt;
    cause = err_causes _ _ _ _ _ _ why calm copy cause;
    kind = old_kind;
    goes = goes;
  }

-- ---- a session whose plan was done

module _ {V : Type 0} (view : V → SpaceView) (mid : Session V) (blocks : Blocks V) (tree : ObjectTree)
    (taken : List Block) (same : superblock_of tree ≡ superblock_of mid.tree) where
  abbrev pub after : Session V
  after = record { blocks = blocks; tree = tree; edited = true }

  pub done_sound : (h : IsSound view mid) → IsSoundTree tree → Keeps view blocks (h.met ++ taken)
      → ((view (space_of blocks)).committed ≡ None
      → Contains (blocks_of (view (space_of blocks)).prepared) (field_of (superblock_of mid.tree).version))
      → IsSound view after
  done_sound h sound keeps closes = record {
    tree = sound;
    met = h.met ++ taken;
    keeps = keeps;
    super = subst (λ (x : Superblock). Contains (h.met ++ taken) (super_block x)) (sym same)
        (Contains-append_left h.met taken _ h.super);
    closes = λ is without. subst
        (λ (x : Superblock). Contains (blocks_of (view (space_of blocks)).prepared) (field_of x.version)) (sym same)
        (closes without);
  }

-- ---- the plans of `mkgroup`

module _ {V : Type 0} (view : V → SpaceView) (old mid : Session V) (same : view (space_in old) ≡ view (space_in mid))
    (s : State) (i : IsIn view old s) (p : List Name) (id : NodeId) where
  pub planned_line : (can : CanMake old s p id) (made : GroupPlan) → (view (space_in old)).writable ≡ true
      → MakesGroup (view (space_in old)) (place_of s.super can.parent) (last_of p) made
      → IsLinePlan (view (space_in mid)) s made.plan (command.Mkgroup p)
  planned_line can made writable makes =
      subst (λ (v : SpaceView). IsLinePlan v s made.plan (command.Mkgroup p)) same
      (mkgroup_planned (view (space_in old)) s i.met i.stands p can.parent can.below writable made can.found can.small makes)
