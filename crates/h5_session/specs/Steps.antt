-- What a line comes to in a session. Cited by each line, and by the step.
use Rattle.std.specs.Prelude.{◌≡◌, ℕ, ℤ, List, [], Result, Some, IfErr, IfOk}
use Rattle.h5_base.specs.declared.extent.Extent.{Extent}
use Rattle.outside.specs.Causes.{Counts}
use Rattle.outside.specs.Space.{SameKind, SpaceView}
use Rattle.object_model.specs.Step.{Plain, Reply}
use Rattle.object_model.specs.declared.answer.Answer.{Answer}
use Rattle.object_model.specs.declared.answer.Answer.TheVariants as answer
use Rattle.object_model.specs.declared.answer.Code.{Code}
use Rattle.object_model.specs.declared.command.Command.{Command}
use Rattle.script.specs.Print.{HasText}
use Rattle.session_model.specs.Line.{Answered, Line}
use Rattle.session_model.specs.State.{Goes, IsTouched, Plan, Setting, State}
use Rattle.h5_session.specs.Given.{given}
use Rattle.h5_session.specs.Session.{IsIn, IsSound, setting_in, space_in}
use Rattle.h5_session.specs.Stops.{HasCauses, IsFault, IsMalformed}
use Rattle.h5_session.specs.declared.session.Session.{Session}
use Rattle.h5_session.specs.declared.stop.StepStop.{StepStop}

-- the line is refused, whatever the moment, and the state stays
abbrev pub IsRefusedAs : {V : Type 0} → (V → SpaceView) → Session V → State → Command → Code → Type 0
IsRefusedAs view session s c why = (secs : ℤ) → Line (setting_in view session) s c secs s (answer.No why)

-- What a line would touch: the ranges of a plan with which it goes on to be done, or nothing.
pub data WouldTouch (k : Setting) (s : State) (c : Command) (ranges : List Extent) : Type 0 where
  Nothing : ranges ≡ [] → WouldTouch k s c ranges
  Touches : (p : Plan k s c) (t : Plain) (r : Reply) → Goes k s c p t r → ranges ≡ p.ranges → WouldTouch k s c ranges

-- What a fault within a line leaves: what the line doesn't touch is as it was.
pub record IsCutOff (k : Setting) (s : State) (c : Command) (w : SpaceView) : Type 0 where
  pub ranges : List Extent
  pub would : WouldTouch k s c ranges
  pub stays : (a : ℕ) → ¬ IsTouched ranges a → w.array a ≡ s.array a

-- The line in a session that is in this state: it is answered, and the session is in the state that the line leads to; or
-- it isn't, and all is as before but after a fault.
pub record StepsFrom {V : Type 0} (view : V → SpaceView) (old new : Session V) (s : State) (c : Command) (secs : ℤ)
    (result : Result Answer StepStop) : Type 0 where
  pub answered : IfOk result (λ a. (next : State) × Answered given (setting_in view old) s (Some c) secs next a
      × IsIn view new next)
  pub stays : IfErr result (λ stop. ¬ IsFault stop → IsIn view new s)
  pub well : IfErr result (λ stop. ¬ IsMalformed stop)
  pub cut_off : IfErr result (λ stop. IsFault stop → IsCutOff (setting_in view old) s c (view (space_in new)))

-- so it is, unless a call failed
abbrev pub UnlessFault : {T : Type 0} → Result T StepStop → Type 0 → Type 0
UnlessFault result So = IfOk result (λ _. So) × IfErr result (λ stop. ¬ IsFault stop → So)

-- What a line leaves of a session, whatever the space tells.
pub record Leaves {V : Type 0} (view : V → SpaceView) (Stands : V → Type 0) (GoesOn : V → V → Type 0)
    (faults copy_faults : V → Counts) (old new : Session V) (result : Result Answer StepStop) : Type 0 where
  pub sound : UnlessFault result (IsSound view new)
  pub stands : UnlessFault result (Stands (space_in new))
  pub text : IfOk result HasText
  pub cause : HasCauses (faults (space_in old)) (faults (space_in new)) (copy_faults (space_in old))
      (copy_faults (space_in new)) result
  pub kind : SameKind (view (space_in old)) (view (space_in new))
  pub goes : GoesOn (space_in old) (space_in new)
