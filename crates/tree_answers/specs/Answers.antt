-- Which commands are given so far, and what a line of a script is answered over a tree.
-- Cited by `answer`, and by the theorem of a script's run.
use Rattle.std.specs.Prelude.{Bool, true, false, if◌then◌else◌, List, map, Option, Some, None, Ok, Err}
use Rattle.object_model.specs.declared.command.Command.{Command}
use Rattle.object_model.specs.declared.command.Command.TheVariants as command
use Rattle.object_model.specs.declared.answer.Answer.{Answer}
use Rattle.object_model.specs.declared.answer.Answer.TheVariants as answer
use Rattle.object_model.specs.declared.answer.Code.TheVariants.{BadLine, NotBuilt}
use Rattle.object_model.specs.Step.{Plain, Stack, Reply, Gives, Commits, Outcome, step}

-- the commands that are given so far: those that only look at the tree
abbrev pub is_given : Command → Bool
is_given (command.Mkgroup p) = false
is_given (command.Mkdata p elem dims chunk max fill) = false
is_given (command.Write p start count values) = false
is_given (command.Read p start count) = false
is_given (command.Ls p) = true
is_given (command.Stat p) = true
is_given (command.Extend p dims) = false
is_given (command.Rm p) = false
is_given command.Flush = false
is_given (command.Commit comment) = false

-- a stack that may be written to, and has no revisions
abbrev pub plain_stack : Stack
plain_stack = record { read_only = false; has_revisions = false }

-- the answer of a reply; no given command makes a revision
abbrev pub answer_of : Reply → Answer
answer_of (Gives a) = a
answer_of (Commits comment) = answer.Done

-- the answer of a step, or its refusal
abbrev pub reply_to : Outcome → Answer
reply_to (Ok done) = answer_of done.1
reply_to (Err code) = answer.No code

-- what a line is answered, by the command that it spells: a line that spells none, a command that isn't given yet, or
-- the step's reply
abbrev pub answer_to : Plain → Option Command → Answer
answer_to t None = answer.No BadLine
answer_to t (Some c) = if is_given c then reply_to (step plain_stack t c) else answer.No NotBuilt

-- the answers of a script's lines: a given command leaves the tree as it is
abbrev pub answers_to : Plain → List (Option Command) → List Answer
answers_to t commands = map (answer_to t) commands

-- the line was done
abbrev pub is_done : Answer → Bool
is_done answer.Done = true
is_done (answer.Values elem bytes) = true
is_done (answer.Links items) = true
is_done (answer.Group links) = true
is_done (answer.Dataset elem dims max chunk fill filtered) = true
is_done (answer.Soft target) = true
is_done answer.Other = true
is_done (answer.Committed rev pages) = true
is_done (answer.Full end need) = false
is_done (answer.No code) = false
