-- How the program ends: the exit status of each way, and its line on standard error.
-- Cited by `run` and by the functions that it is made of.
use Rattle.std.specs.Prelude.{ℕ, List, [], codes}
use Rattle.h5_base.specs.Refusals.{line_of}
use Rattle.h5_base.specs.declared.refusal.Stop.{Stop}
use Rattle.h5_base.specs.declared.refusal.Stop.TheVariants as stop
use Rattle.h5stack_core.specs.Words.{usage_line}
use Rattle.h5stack_core.specs.declared.ending.Ending.{Ending}
use Rattle.h5stack_core.specs.declared.ending.Ending.TheVariants.{Done, SomeNot, Words, Store, Refused, Input, Output}
use Rattle.h5stack_core.specs.declared.ending.Ending.TheVariants.{Memory, ScriptMemory, Limit}

-- an exit status, and what is written on standard error with it
pub record Told : Type 0 where
  pub status : ℕ
  pub line : List ℕ

abbrev pub told : Ending → Told
told Done = record { status = 0; line = [] }
told SomeNot = record { status = 1; line = [] }
told (Words fault) = record { status = 2; line = usage_line fault }
told Store = record { status = 3; line = codes "fault: store\n" }
told (Refused why) = record { status = 4; line = line_of why }
told Input = record { status = 5; line = codes "fault: input\n" }
told Output = record { status = 6; line = codes "fault: output\n" }
told Memory = record { status = 8; line = codes "fault: memory\n" }
told ScriptMemory = record { status = 8; line = codes "fault: memory\n" }
told Limit = record { status = 9; line = codes "limit: script\n" }

-- how the program ends where a file isn't read
abbrev pub stopped : Stop → Ending
stopped (stop.Refused why) = Refused why
stopped stop.Failed = Store
stopped stop.NoMemory = Memory

-- the words or the file are refused
abbrev pub IsRefusal : Ending → Type 0
IsRefusal Done = ⊥
IsRefusal SomeNot = ⊥
IsRefusal (Words fault) = Unit {0}
IsRefusal Store = ⊥
IsRefusal (Refused why) = Unit {0}
IsRefusal Input = ⊥
IsRefusal Output = ⊥
IsRefusal Memory = ⊥
IsRefusal ScriptMemory = ⊥
IsRefusal Limit = ⊥

-- where the words or the file are refused, or there was no memory before anything was done: `Same` says what stays
abbrev pub IfNothingDone : Ending → Type 0 → Type 0
IfNothingDone Done Same = Unit {0}
IfNothingDone SomeNot Same = Unit {0}
IfNothingDone (Words fault) Same = Same
IfNothingDone Store Same = Unit {0}
IfNothingDone (Refused why) Same = Same
IfNothingDone Input Same = Unit {0}
IfNothingDone Output Same = Unit {0}
IfNothingDone Memory Same = Same
IfNothingDone ScriptMemory Same = Unit {0}
IfNothingDone Limit Same = Unit {0}

-- all was done that was asked for, or there is no memory
abbrev pub EndsDone : Ending → Type 0
EndsDone Done = Unit {0}
EndsDone SomeNot = Unit {0}
EndsDone (Words fault) = ⊥
EndsDone Store = ⊥
EndsDone (Refused why) = ⊥
EndsDone Input = ⊥
EndsDone Output = ⊥
EndsDone Memory = Unit {0}
EndsDone ScriptMemory = Unit {0}
EndsDone Limit = ⊥

-- the file is refused, or there is no memory
abbrev pub EndsRefused : Ending → Type 0
EndsRefused Done = ⊥
EndsRefused SomeNot = ⊥
EndsRefused (Words fault) = ⊥
EndsRefused Store = ⊥
EndsRefused (Refused why) = Unit {0}
EndsRefused Input = ⊥
EndsRefused Output = ⊥
EndsRefused Memory = Unit {0}
EndsRefused ScriptMemory = ⊥
EndsRefused Limit = ⊥
