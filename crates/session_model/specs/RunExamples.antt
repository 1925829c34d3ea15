-- Worked runs over the empty file, of a script of one line that makes a group: whole, stopped, cut short, and with a
-- fault of the store. Each is the clause of a small public function of this crate.
use Rattle.std.specs.Prelude.{◌≡◌, true, ℤ, List, [], ◌∷◌, ◌++◌, codes, ℕ, Some, None}
use Rattle.outside.specs.Space.{SpaceView}
use Rattle.script.specs.Script.{Means, lines}
use Rattle.script.specs.Words.{split_on}
use Rattle.session_model.specs.State.{view_of}
use Rattle.session_model.specs.Runs.{Begins, Left, Ran, Stop, AtEnd, AtSource, AtLine, AtStore, ended_lines}
use Rattle.session_model.specs.GroupFile.{empty_state, group_bytes, flushed_bytes}
use Rattle.session_model.specs.Examples.{plain_file, mkgroup_g}

-- what a space over the empty file tells
abbrev pub empty_view : SpaceView
empty_view = view_of plain_file empty_state

-- a run over it begins with one group without links, in five blocks
abbrev pub EmptyBegins : Type 0
EmptyBegins = Begins empty_view None empty_state

-- the script has one line, which makes a group
pub record IsOneGroup (script line : List ℕ) : Type 0 where
  pub one : lines script ≡ line ∷ []
  pub means : Means line (Some mkgroup_g)

abbrev pub RunOf : (script unread old new : List ℕ) → Left → Stop → Type 0
RunOf script unread old new left stop =
    (moments : List ℤ) → Ran (λ c. true) empty_view None moments script unread old new left stop

-- the file with the group, and its end told
abbrev pub flushed_left : Left
flushed_left = record { array = flushed_bytes; ends = λ c. 1832; revisions = [] }

abbrev pub ok_line : List ℕ
ok_line = codes "ok" ++ 10 ∷ []

-- read to its end, the run prints `ok`, and leaves the file with its end told
abbrev pub WholeRun : Type 0
WholeRun = (script line old : List ℕ) → IsOneGroup script line
    → RunOf script [] old (old ++ ok_line) flushed_left AtEnd

-- where the source stops behind the line's LF, it does so too
abbrev pub StoppedRun : Type 0
StoppedRun = (script line taken unread old : List ℕ) → IsOneGroup script line → script ≡ taken ++ unread
    → ended_lines (split_on 10 taken) ≡ line ∷ []
    → RunOf script unread old (old ++ ok_line) flushed_left AtSource

-- where the output takes one byte of the answer, the line was done all the same
abbrev pub CutRun : Type 0
CutRun = (script line old : List ℕ) → IsOneGroup script line
    → RunOf script [] old (old ++ codes "o") flushed_left AtLine

-- where the store fails within the line, nothing is printed, and the bytes may be those of the file with the group,
-- whose end is told by no field yet
abbrev pub FaultRun : Type 0
FaultRun = (script line old : List ℕ) → IsOneGroup script line
    → RunOf script [] old old (record { array = group_bytes; ends = λ c. 1832; revisions = [] }) AtStore
