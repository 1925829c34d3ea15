-- Why a line isn't answered, and what a fault comes from. Cited by each call of a session.
use Rattle.std.specs.Prelude.{◌≡◌, Result, IfErr, IsErrOf}
use Rattle.outside.specs.Causes.{Counts, OneRose}
use Rattle.block_space.specs.declared.plan.PlanStop.{PlanStop}
use Rattle.block_space.specs.declared.plan.PlanStop.TheVariants as plan
use Rattle.outside.specs.declared.space.WriteStop.{WriteStop}
use Rattle.outside.specs.declared.space.WriteStop.TheVariants as write
use Rattle.h5_session.specs.declared.stop.StepStop.{StepStop}
use Rattle.h5_session.specs.declared.stop.StepStop.TheVariants as stop

abbrev pub of_plan : PlanStop → StepStop
of_plan plan.Failed = stop.Failed
of_plan plan.NoMemory = stop.NoMemory
of_plan (plan.Malformed at kind) = stop.Malformed at kind

abbrev pub of_write : WriteStop → StepStop
of_write write.Failed = stop.Failed
of_write write.WoFailed = stop.WoFailed

-- a call of the space, or of its copy, failed
abbrev pub IsFault : StepStop → Type 0
IsFault stop.Failed = Unit {0}
IsFault stop.WoFailed = Unit {0}
IsFault stop.NoMemory = ⊥
IsFault (stop.Malformed at kind) = ⊥

-- a block that is read again spells its kind no longer
abbrev pub IsMalformed : StepStop → Type 0
IsMalformed stop.Failed = ⊥
IsMalformed stop.WoFailed = ⊥
IsMalformed stop.NoMemory = ⊥
IsMalformed (stop.Malformed at kind) = Unit {0}

-- Each fault comes only where one of its own counts rose, and no fault is passed over.
pub record HasCauses {T : Type 0} (before now copy_before copy_now : Counts) (result : Result T StepStop) : Type 0 where
  pub failed : IsErrOf result stop.Failed → OneRose before now
  pub copy_failed : IsErrOf result stop.WoFailed → OneRose copy_before copy_now
  pub calm : ¬ IsErrOf result stop.Failed → now ≡ before
  pub copy_calm : ¬ IsErrOf result stop.WoFailed → copy_now ≡ copy_before
