-- When what was asked for is done, and when a file is refused, if nothing fails.
-- Cited by `run`.
use Rattle.std.specs.Prelude.{◌≡◌, ℕ, ◌<◌, ◌^◌, Bool, IsTrue, List, [], length, Result, Ok, Err}
use Rattle.outside.specs.Causes.{Rose}
use Rattle.outside.specs.Files.{Files}
use Rattle.outside.specs.Store.{View, SomeRose}
use Rattle.object_model.specs.Step.{Plain}
use Rattle.h5stack_core.specs.Files.{Opens}
use Rattle.h5stack_core.specs.declared.asked.Asked.{Asked}
use Rattle.h5stack_core.specs.declared.asked.Asked.TheVariants.{Create, Run}
use Rattle.h5stack_core.specs.declared.words.WordFault.{WordFault}

-- the words name this file
abbrev pub IsNamed : Result Asked WordFault → List ℕ → Type 0
IsNamed (Ok (Create file)) q = q ≡ file
IsNamed (Ok (Run file)) q = q ≡ file
IsNamed (Err fault) q = ⊥

-- the words ask for something that reads the script
abbrev pub IsScripted : Result Asked WordFault → Type 0
IsScripted (Ok (Create file)) = ⊥
IsScripted (Ok (Run file)) = Unit {0}
IsScripted (Err fault) = ⊥

-- The files, and the script where it is told, admit it: no line refuses the file, and the script isn't too long.
abbrev pub CanBeDone : Asked → Files → (reads : Bool) → (script : List ℕ) → Type 0
CanBeDone (Create file) files reads script = files file ≡ []
CanBeDone (Run file) files reads script = ((t : Plain) × Opens (files file) t) × IsTrue reads × (length script < 2 ^ 32)

-- the file is to be refused
abbrev pub IsToBeRefused : Asked → Files → Type 0
IsToBeRefused (Create file) files = 0 < length (files file)
IsToBeRefused (Run file) files = (t : Plain) → Opens (files file) t → ⊥

-- No count of faults rose: of the store, of the output, and, where a script is read, of the source.
pub record IsCalm (Scripted : Type 0) (old new : View) (reads reads_now prints prints_now : ℕ) : Type 0 where
  pub store : SomeRose old new → ⊥
  pub source : Scripted → Rose reads reads_now → ⊥
  pub output : Rose prints prints_now → ⊥
