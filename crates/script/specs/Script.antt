-- A whole script: its lines, and what each of them asks for.
-- Cited by the laws of this crate, and by the theorem of a script's run.
use Rattle.std.specs.Prelude.{◌≡◌, ℕ, List, [], ◌∷◌, ◌++◌, codes, Option, Some, None}
use Rattle.std.specs.List.{AllZip}
use Rattle.object_model.specs.declared.answer.Answer.TheVariants as answer
use Rattle.object_model.specs.declared.answer.Code.TheVariants.{Absent}
use Rattle.object_model.specs.declared.command.Command.{Command}
use Rattle.object_model.specs.declared.command.Command.TheVariants as command
use Rattle.script.specs.Words.{split_on}
use Rattle.script.specs.Line.{IsLine}
use Rattle.script.specs.Print.{text}

-- without the last one, where that has no byte
abbrev pub without_empty_last : List (List ℕ) → List (List ℕ)
without_empty_last [] = []
without_empty_last ([] ∷ []) = []
without_empty_last ((b ∷ bs) ∷ []) = (b ∷ bs) ∷ []
without_empty_last (w ∷ v ∷ ws) = w ∷ without_empty_last (v ∷ ws)

-- what each LF ends, and what stands behind the last LF where that has a byte
abbrev pub lines : List ℕ → List (List ℕ)
lines bytes = without_empty_last (split_on 10 bytes)

-- what a line comes to: the command that it spells, or none where it spells none and is a bad line
abbrev pub Means : List ℕ → Option Command → Type 0
Means line (Some c) = IsLine line c
Means line None = (c : Command) → IsLine line c → ⊥

-- the commands and the bad lines of a script's bytes
abbrev pub AreCommands : List ℕ → List (Option Command) → Type 0
AreCommands bytes commands = AllZip Means (lines bytes) commands

-- ---- laws

-- a line spells one command
abbrev pub OneCommand : Type 0
OneCommand = (line : List ℕ) (c d : Command) → IsLine line c → IsLine line d → c ≡ d

-- and a script one list of commands and bad lines
abbrev pub OneScript : Type 0
OneScript = (bytes : List ℕ) (cs ds : List (Option Command)) → AreCommands bytes cs → AreCommands bytes ds → cs ≡ ds

-- ---- worked examples

-- `ls /`, and `flush` without an LF
abbrev pub two_lines : List ℕ
two_lines = codes "ls /" ++ 10 ∷ codes "flush"

abbrev pub TwoLines : Type 0
TwoLines = (lines two_lines ≡ codes "ls /" ∷ codes "flush" ∷ [])
    × AreCommands two_lines (Some (command.Ls []) ∷ Some command.Flush ∷ [])

-- an empty line is a line, and what stands behind the last LF is none where it has no byte
abbrev pub EmptyLines : Type 0
EmptyLines = (lines (10 ∷ []) ≡ [] ∷ []) × (lines [] ≡ []) × AreCommands (10 ∷ []) (None ∷ [])

-- each answer is printed with an LF
abbrev pub TwoAnswers : Type 0
TwoAnswers = text (answer.Done ∷ answer.No Absent ∷ []) ≡ codes "ok" ++ (10 ∷ []) ++ codes "no absent" ++ (10 ∷ [])
