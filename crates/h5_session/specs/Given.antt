-- Which commands are given, and which a step may be asked. Cited by `step`, and by the run of a script.
use Rattle.std.specs.Prelude.{ℕ, Bool, true, false, List}
use Rattle.object_model.specs.declared.command.Command.{Command}
use Rattle.object_model.specs.declared.command.Command.TheVariants as command
use Rattle.script.specs.Line.{IsLine}

-- the commands that are given: the others are answered `no not-built`
abbrev pub given : Command → Bool
given (command.Mkgroup p) = true
given (command.Mkdata p elem dims chunk max fill) = false
given (command.Write p start count values) = false
given (command.Read p start count) = false
given (command.Ls p) = true
given (command.Stat p) = true
given (command.Extend p dims) = false
given (command.Rm p) = true
given command.Flush = true
given (command.Commit comment) = false

-- some line spells the command
abbrev pub IsSpelled : Command → Type 0
IsSpelled c = (line : List ℕ) × IsLine line c
