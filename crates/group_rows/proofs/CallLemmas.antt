-- What calls that read leave one after the other.
use Rattle.std.proofs.Common.{◌≡◌, List, Result, Ok, Err, IsErrOf, IfErr, sym, ◌∙◌, ap, subst}
use Rattle.std.specs.Result.{IsErrAnd}
use Rattle.outside.specs.Blocks.{Block}
use Rattle.outside.specs.Causes.{Counts, OneRose}
use Rattle.outside.specs.Space.{SpaceView}
use Rattle.block_space.specs.Blocks.{Keeps, space_of}
use Rattle.block_space.specs.declared.blocks.Blocks.{Blocks}
use Rattle.block_space.specs.declared.plan.PlanStop.{PlanStop}
use Rattle.block_space.specs.declared.plan.PlanStop.TheVariants.{Failed}
use Rattle.group_rows.specs.Gathering.{Reads}

-- what reading leaves where no fault came
pub record Leaves {V : Type 0} (view : V → SpaceView) (Alike : V → V → Type 0) (faults : V → Counts)
    (old new : Blocks V) : Type 0 where
  pub kept : (met : List Block) → Keeps view old met → Keeps view new met
  pub alike : Alike (space_of old) (space_of new)
  pub calm : faults (space_of new) ≡ faults (space_of old)

module _ {V : Type 0} (view : V → SpaceView) (Alike : V → V → Type 0) (faults : V → Counts) where
  pub left_ok : {T : Type 0} (old new : Blocks V) (x : T) → Reads view Alike faults old new (Ok x)
      → Leaves view Alike faults old new
  left_ok old new x h = record { kept = h.kept; alike = h.alike; calm = h.calm (λ failed. cc) }

  pub left_none : (old : Blocks V) → Alike (space_of old) (space_of old) → Leaves view Alike faults old old
  left_none old alike = record { kept = λ met keeps. keeps; alike = alike; calm = λ j. faults (space_of old) }

  -- a stop of another cause
  pub stopped : {T : Type 0} (old new : Blocks V) (r : Result T PlanStop) → ¬ IsErrOf r Failed
      → Leaves view Alike faults old new → Reads view Alike faults old new r
  stopped old new r none h = record {
    kept = h.kept;
    alike = h.alike;
    failed = λ failed. absurd (none failed);
    calm = λ other. h.calm;
  }

  pub stopped_by : {T : Type 0} (old new : Blocks V) (r : Result T PlanStop) (e : PlanStop) → IsErrAnd r (λ x. x ≡ e)
      → ¬ (e ≡ Failed) → Leaves view Alike faults old new → Reads view Alike faults old new r
  stopped_by old new (Ok x) e is none h = absurd is
  stopped_by old new (Err x) e is none h =
      stopped old new (Err x) (λ failed. let same : e ≡ Failed = cc in none same) h

  module _ (transitive : (a b c : V) → Alike a b → Alike b c → Alike a c) where
    pub leaves_on : (old mid new : Blocks V) → Leaves view Alike faults old mid → Leaves view Alike faults mid new
        → Leaves view Alike faults old new
    leaves_on old mid new first next = record {
      kept = λ met keeps. next.kept met (first.kept met keeps);
      alike = transitive (space_of old) (space_of mid) (space_of new) first.alike next.alike;
      calm = next.calm ∙ first.calm;
    }

    pub reads_on : {T : Type 0} (old mid new : Blocks V) (r : Result T PlanStop) → Leaves view Alike faults old mid
        → Reads view Alike faults mid new r → Reads view Alike faults old new r
    reads_on old mid new r first next = record {
      kept = λ met keeps. next.kept met (first.kept met keeps);
      alike = transitive (space_of old) (space_of mid) (space_of new) first.alike next.alike;
      failed = λ failed. subst (λ (c : Counts). OneRose c (faults (space_of new))) first.calm (next.failed failed);
      calm = λ other. next.calm other ∙ first.calm;
    }

-- what is shown of an error is shown of the result that hands it on
pub passed : {T : Type 0} (r : Result T PlanStop) (e : PlanStop) (P : PlanStop → Type 0) → IsErrAnd r (λ x. x ≡ e)
    → P e → IfErr r P
passed (Ok x) e P is h = tt
passed (Err x) e P is h = subst P (sym is) h

-- a stop that is handed on
pub handed : {V S T : Type 0} (view : V → SpaceView) (Alike : V → V → Type 0) (faults : V → Counts) (old new : Blocks V)
    (r : Result T PlanStop) (e : PlanStop) → IsErrAnd r (λ x. x ≡ e)
    → Reads {V = V} {T = S} view Alike faults old new (Err e) → Reads view Alike faults old new r
handed view Alike faults old new (Ok x) e is h = absurd is
handed view Alike faults old new (Err x) e is h = record {
  kept = h.kept;
  alike = h.alike;
  failed = λ failed. let same : x ≡ Failed = cc in h.failed (ap Err (sym is ∙ same));
  calm = λ other. h.calm (λ failed. let same : e ≡ Failed = cc in other (ap Err (is ∙ same)));
}
