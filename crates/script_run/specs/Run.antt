-- What the run of a script over a tree answers, how far it goes where it stops, and what it prints.
-- Cited by `answer_script`, and by the top call.
use Rattle.std.specs.Prelude.{◌≡◌, ℕ, ◌^◌, ◌<◌, ◌≤◌, Bool, IsTrue, List, [], ◌∷◌, ◌++◌, length, Option, if◌then◌else◌}
use Rattle.std.specs.List.{AllZip, list_all}
use Rattle.object_model.specs.declared.answer.Answer.{Answer}
use Rattle.object_model.specs.declared.command.Command.{Command}
use Rattle.object_model.specs.Step.{Plain}
use Rattle.script.specs.Print.{text}
use Rattle.script.specs.Script.{AreCommands, Means, lines}
use Rattle.script.specs.Words.{split_on}
use Rattle.script_lines.specs.Written.{WrittenInPart}
use Rattle.tree_answers.specs.Answers.{answer_to, answers_to, is_done}
use Rattle.script_run.specs.declared.stop.Ended.{Ended}
use Rattle.script_run.specs.declared.stop.Ended.TheVariants.{AllDone, SomeNot}

-- whether each line was done
abbrev pub ended_of : List Answer → Ended
ended_of answers = if list_all is_done answers then AllDone else SomeNot

-- The script was read to its end, and each line is answered.
pub record IsAnswered (prints : Bool) (t : Plain) (script : List ℕ) (ended : Ended) (old new : List ℕ) : Type 0 where
  pub commands : List (Option Command)
  pub read : AreCommands script commands
  pub short : length script < 2 ^ 32
  pub ended_is : ended ≡ ended_of (answers_to t commands)
  pub printed : IsTrue prints → new ≡ old ++ text (answers_to t commands)

-- without the last one
abbrev pub without_last : List (List ℕ) → List (List ℕ)
without_last [] = []
without_last (w ∷ []) = []
without_last (w ∷ v ∷ ws) = w ∷ without_last (v ∷ ws)

-- the lines that LFs end
abbrev pub lines_ended : List ℕ → List (List ℕ)
lines_ended bytes = without_last (split_on 10 bytes)

-- The reading of the script stopped: just the lines whose LF was taken are answered. `left` are the bytes that weren't
-- taken.
pub record IsStopped (prints : Bool) (t : Plain) (script left : List ℕ) (old new : List ℕ) : Type 0 where
  pub taken : List ℕ
  pub script_is : script ≡ taken ++ left
  pub commands : List (Option Command)
  pub read : AllZip Means (lines_ended taken) commands
  pub printed : IsTrue prints → new ≡ old ++ text (answers_to t commands)

-- The answers are printed, but at most the last one, of which some first part is.
pub record AreCut (answers : List Answer) (old new : List ℕ) : Type 0 where
  pub whole : List Answer
  pub last : List Answer
  pub are : answers ≡ whole ++ last
  pub one : length last ≤ 1
  pub part : WrittenInPart (text last) (old ++ text whole) new

-- Some first lines of the script are answered, and the text of the last answer may be cut short.
pub record IsInPart (prints : Bool) (t : Plain) (script : List ℕ) (old new : List ℕ) : Type 0 where
  pub some : List (List ℕ)
  pub rest : List (List ℕ)
  pub lines_are : lines script ≡ some ++ rest
  pub commands : List (Option Command)
  pub read : AllZip Means some commands
  pub printed : IsTrue prints → AreCut (answers_to t commands) old new

-- ---- one line

-- the answer so far, and a line that was done or not
abbrev pub after : Ended → Bool → Ended
after ended done = if done then ended else SomeNot

-- The line is answered.
pub record IsLineAnswered (prints : Bool) (t : Plain) (line : List ℕ) (ended now : Ended)
    (old new : List ℕ) : Type 0 where
  pub command : Option Command
  pub means : Means line command
  pub now_is : now ≡ after ended (is_done (answer_to t command))
  pub printed : IsTrue prints → new ≡ old ++ text (answer_to t command ∷ [])

-- The line's answer was printed in part.
pub record IsLineCut (prints : Bool) (t : Plain) (line : List ℕ) (old new : List ℕ) : Type 0 where
  pub command : Option Command
  pub means : Means line command
  pub printed : IsTrue prints → WrittenInPart (text (answer_to t command ∷ [])) old new
