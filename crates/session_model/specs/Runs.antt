-- The lines of a script one after another, how a run begins and ends, and what it leaves and prints where it stops
-- early. Cited by the run of a script, and by the top call.
use Rattle.std.specs.Prelude.{◌≡◌, ℕ, ◌≤◌, Bool, false, IsTrue, ℤ, List, [], ◌∷◌, ◌++◌, length, Option, Some, None}
use Rattle.std.specs.List.{AllZip}
use Rattle.h5_base.specs.declared.extent.Extent.{Extent}
use Rattle.outside.specs.Array.{Array, Ends}
use Rattle.outside.specs.Ports.{next_moment, later_moments}
use Rattle.outside.specs.Revisions.{Stored, Committed}
use Rattle.outside.specs.Space.{SpaceView}
use Rattle.object_model.specs.declared.command.Command.{Command}
use Rattle.object_model.specs.declared.command.Command.TheVariants as command
use Rattle.object_model.specs.declared.answer.Answer.{Answer}
use Rattle.object_model.specs.Step.{Plain, Reply}
use Rattle.script.specs.Print.{text}
use Rattle.script.specs.Script.{Means, lines}
use Rattle.script.specs.Words.{split_on}
use Rattle.script_lines.specs.Written.{WrittenInPart}
use Rattle.file_model.specs.Holds.{Holds}
use Rattle.file_model.specs.Limits.{IsWithinLimits}
use Rattle.session_model.specs.EndFields.{HasEndFields, InEndFields}
use Rattle.session_model.specs.State.{Setting, State, Plan, Goes, IsHeld, IsTouched, IsToldBy, bounds, blocks_of}
use Rattle.session_model.specs.State.{full_of, tree_of, setting_of}
use Rattle.session_model.specs.Line.{Answered}

-- ---- one line after another

-- the moments that a clock tells after a line: each commit that is spelled takes one
abbrev pub moments_after : Option Command → List ℤ → List ℤ
moments_after (Some (command.Commit comment)) moments = later_moments moments
moments_after line moments = moments

-- The lines are answered one after another, each in the state that the one before it led to.
abbrev pub AnswersAll : (given : Command → Bool) → Setting → State → List ℤ → List (Option Command) → State → List ℤ
    → List Answer → Type 0
AnswersAll given k s moments [] new left answers = (new ≡ s) × (left ≡ moments) × (answers ≡ [])
AnswersAll given k s moments (line ∷ more) new left answers =
    (next : State) × (a : Answer) × (later : List Answer) × Answered given k s line (next_moment moments) next a
    × AnswersAll given k next (moments_after line moments) more new left later × (answers ≡ a ∷ later)

-- ---- how a run begins and ends

-- no page is written
abbrev pub IsFresh : Option Committed → Type 0
IsFresh None = Unit {0}
IsFresh (Some m) = m.written ≡ []

-- A run begins with what the space tells: the bytes and ends of the files, or of the revision that is opened. They hold
-- a tree within the limits, its blocks are counted, and no line that edits was done.
pub record Begins (v : SpaceView) (own : Option (List ℕ)) (s : State) : Type 0 where
  pub told : IsToldBy v s
  pub fresh : IsFresh s.committed
  pub held : IsHeld (setting_of v own) s
  pub within : IsWithinLimits s.array (blocks_of (setting_of v own) s held) (full_of s)
  pub blocks : s.blocks ≡ length (blocks_of (setting_of v own) s held)
  pub idle : s.edited ≡ false

-- what a run leaves of the stack: without revisions its bytes and ends, with them the list
pub record Left : Type 0 where
  pub array : Array
  pub ends : Ends
  pub revisions : List Stored

-- Without revisions the end fields are written where a line that edits was done, and nothing else changes.
pub record ClosesFile (k : Setting) (s : State) (left : Left) : Type 0 where
  pub held : Holds left.array (bounds k left.ends) (tree_of s)
  pub ends : left.ends ≡ s.ends
  pub fields : IsTrue s.edited → HasEndFields k.regions k.own s.super s.ends left.array
  pub stays : (a : ℕ) → ¬ InEndFields k.own s.super s.array a → left.array a ≡ s.array a
  pub idle : s.edited ≡ false → left.array ≡ s.array

-- With revisions what isn't committed is given up, and the list is kept.
abbrev pub Closes : Setting → State → Option Committed → Left → Type 0
Closes k s None left = ClosesFile k s left
Closes k s (Some m) left = left.revisions ≡ s.history.revisions

-- ---- the lines that were done

-- Some first lines of a script were done, from a state on: their answers, and the state and the moments after them.
pub record Did (given : Command → Bool) (k : Setting) (begun : State) (moments : List ℤ)
    (script : List ℕ) : Type 0 where
  pub done : List (List ℕ)
  pub rest : List (List ℕ)
  pub lines_are : lines script ≡ done ++ rest
  pub commands : List (Option Command)
  pub read : AllZip Means done commands
  pub state : State
  pub later : List ℤ
  pub answers : List Answer
  pub answered : AnswersAll given k begun moments commands state later answers

-- The answers are printed, but at most the last one, of which some first part is.
pub record AreCut (answers : List Answer) (old new : List ℕ) : Type 0 where
  pub whole : List Answer
  pub last : List Answer
  pub are : answers ≡ whole ++ last
  pub one : length last ≤ 1
  pub part : WrittenInPart (text last) (old ++ text whole) new

-- the lines that LFs end: all but what stands behind the last LF
abbrev pub ended_lines : List (List ℕ) → List (List ℕ)
ended_lines [] = []
ended_lines (w ∷ []) = []
ended_lines (w ∷ v ∷ ws) = w ∷ ended_lines (v ∷ ws)

-- just the lines whose LF was taken were done; `left` are the bytes that weren't taken
pub record TookAll (script left : List ℕ) (done : List (List ℕ)) : Type 0 where
  pub taken : List ℕ
  pub script_is : script ≡ taken ++ left
  pub done_is : done ≡ ended_lines (split_on 10 taken)

-- ---- a fault within a line

-- The ranges that the next line would touch if it were done; none where there is no next line or it would be refused.
pub data WouldTouch (given : Command → Bool) (k : Setting) (s : State) (rest : List (List ℕ))
    (ranges : List Extent) : Type 0 where
  Nothing : ranges ≡ [] → WouldTouch given k s rest ranges
  NextLine : (line : List ℕ) (more : List (List ℕ)) (c : Command) (p : Plan k s c) (t : Plain) (r : Reply)
      → rest ≡ line ∷ more → Means line (Some c) → IsTrue (given c) → Goes k s c p t r → ranges ≡ p.ranges
      → WouldTouch given k s rest ranges

-- Without revisions: bytes that are neither of the end fields nor touched by the next line are as after the done lines.
pub record FaultsFile (given : Command → Bool) (k : Setting) (s : State) (rest : List (List ℕ))
    (left : Left) : Type 0 where
  pub next : List Extent
  pub would : WouldTouch given k s rest next
  pub stays : (a : ℕ) → ¬ InEndFields k.own s.super s.array a → ¬ IsTouched next a → left.array a ≡ s.array a

-- the revisions so far, and at most the one that the next line makes
pub data MayBeKept (given : Command → Bool) (k : Setting) (s : State) (moments : List ℤ) (rest : List (List ℕ))
    (list : List Stored) : Type 0 where
  SoFar : list ≡ s.history.revisions → MayBeKept given k s moments rest list
  WithNext : (line : List ℕ) (more : List (List ℕ)) (c : Command) (new : State) (a : Answer) → rest ≡ line ∷ more
      → Means line (Some c) → Answered given k s (Some c) (next_moment moments) new a
      → list ≡ new.history.revisions → MayBeKept given k s moments rest list

-- what a store fault leaves: of a stack with revisions, in each image that a stop may leave
abbrev pub Faults : (given : Command → Bool) → Setting → State → List ℤ → (rest : List (List ℕ)) → Option Committed
    → Left → Type 0
Faults given k s moments rest None left = FaultsFile given k s rest left
Faults given k s moments rest (Some m) left = MayBeKept given k s moments rest left.revisions

-- ---- the ends of a run

-- the four ways in which a run over an opened tree ends
pub data Stop : Type 0 where
  -- the script was read to its end
  AtEnd : Stop
  -- the source stopped: a fault, or too many bytes
  AtSource : Stop
  -- the output or the memory stopped
  AtLine : Stop
  -- the store stopped
  AtStore : Stop

-- what stands on the output, and what the run leaves, once these lines were done
abbrev pub EndsAs : (given : Command → Bool) (k : Setting) (begun : State) (moments : List ℤ)
    (script unread old new : List ℕ) (left : Left) → Did given k begun moments script → Stop → Type 0
EndsAs given k begun moments script unread old new left d AtEnd =
    (d.rest ≡ []) × (new ≡ old ++ text d.answers) × Closes k d.state d.state.committed left
EndsAs given k begun moments script unread old new left d AtSource =
    TookAll script unread d.done × (new ≡ old ++ text d.answers) × Closes k d.state d.state.committed left
EndsAs given k begun moments script unread old new left d AtLine =
    AreCut d.answers old new × Closes k d.state d.state.committed left
EndsAs given k begun moments script unread old new left d AtStore =
    AreCut d.answers old new × Faults given k d.state d.later d.rest d.state.committed left

-- The clause of a run over an opened tree, whatever the way in which it ended.
pub record Ran (given : Command → Bool) (v : SpaceView) (own : Option (List ℕ)) (moments : List ℤ)
    (script unread old new : List ℕ) (left : Left) (stop : Stop) : Type 0 where
  pub begun : State
  pub begins : Begins v own begun
  pub did : Did given (setting_of v own) begun moments script
  pub ends : EndsAs given (setting_of v own) begun moments script unread old new left did stop
