-- Laws of what the run of a script prints.
-- Each is the clause of a small public function of this crate.
use Rattle.std.specs.Prelude.{Bool, ℕ, List}
use Rattle.object_model.specs.Step.{Plain}
use Rattle.script_run.specs.declared.stop.Ended.{Ended}
use Rattle.script_run.specs.Run.{IsAnswered, IsStopped, IsInPart}

-- all answers of a script are some first part of them
abbrev pub AnsweredInPart : Type 0
AnsweredInPart = (prints : Bool) (t : Plain) (script : List ℕ) (ended : Ended) (old new : List ℕ)
    → IsAnswered prints t script ended old new → IsInPart prints t script old new

-- and so are those to the lines whose LF was taken
abbrev pub StoppedInPart : Type 0
StoppedInPart = (prints : Bool) (t : Plain) (script left old new : List ℕ) → IsStopped prints t script left old new
    → IsInPart prints t script old new
