-- `create plain=F`: what it leaves and prints, by how it ends. F is the file's name.
-- Cited by `run` and by `create_file`.
use Rattle.std.specs.Prelude.{◌≡◌, ℕ, ◌<◌, ◌≤◌, Bool, IsTrue, List, [], length, ◌++◌, codes}
use Rattle.outside.specs.Files.{Files, RestsAt}
use Rattle.outside.specs.Store.{GoesOver}
use Rattle.empty_file.specs.Empty.{empty_file}
use Rattle.script_lines.specs.Written.{WrittenInPart}
use Rattle.h5stack_core.specs.Stores.{Telling, Moment}
use Rattle.h5_base.specs.declared.refusal.Refusal.TheVariants.{Exists}
use Rattle.h5stack_core.specs.declared.ending.Ending.{Ending}
use Rattle.h5stack_core.specs.declared.ending.Ending.TheVariants.{Done, SomeNot, Words, Store, Refused, Input, Output}
use Rattle.h5stack_core.specs.declared.ending.Ending.TheVariants.{Memory, ScriptMemory, Limit}

-- F was empty, has the bytes of the empty HDF5 file, and lasts: over an honest store each stop leaves them.
pub record IsMade (tells : Telling) (file : List ℕ) (before after : Moment) : Type 0 where
  pub was_empty : IsTrue tells.files → before.view.files file ≡ []
  pub bytes : IsTrue tells.files → after.view.files file ≡ empty_file
  pub lasts : IsTrue tells.files → IsTrue tells.images → IsTrue before.view.honest
      → RestsAt file empty_file after.leaves

-- Where it is done, F is made and `created` is printed; where the output fails, the line may be cut short. A file that
-- isn't empty is refused. Where the store fails nothing is printed, and F is no longer than the empty HDF5 file.
abbrev pub LeftByCreate : (tells : Telling) (file : List ℕ) (before after : Moment) (prints : Bool) (old new : List ℕ)
    → Ending → Type 0
LeftByCreate tells file before after prints old new Done = IsMade tells file before after
    × (IsTrue prints → new ≡ old ++ codes "created\n")
LeftByCreate tells file before after prints old new SomeNot = ⊥
LeftByCreate tells file before after prints old new (Words fault) = ⊥
LeftByCreate tells file before after prints old new Store = (IsTrue prints → new ≡ old)
    × (IsTrue tells.files → before.view.files file ≡ [] → length (after.view.files file) ≤ length empty_file)
LeftByCreate tells file before after prints old new (Refused why) = (why ≡ Exists)
    × (IsTrue tells.files → 0 < length (before.view.files file))
LeftByCreate tells file before after prints old new Input = ⊥
LeftByCreate tells file before after prints old new Output = IsMade tells file before after
    × (IsTrue prints → WrittenInPart (codes "created\n") old new)
LeftByCreate tells file before after prints old new Memory = Unit {0}
LeftByCreate tells file before after prints old new ScriptMemory = ⊥
LeftByCreate tells file before after prints old new Limit = ⊥

-- Whatever it ends with, a file F that isn't empty stays as it is, and then a stop leaves only what it could leave
-- before. No stop leaves of another file what it couldn't leave before.
pub record Creates (tells : Telling) (file : List ℕ) (before after : Moment) (prints : Bool) (old new : List ℕ)
    (ending : Ending) : Type 0 where
  pub kept : IsTrue tells.files → 0 < length (before.view.files file) → after.view.files file ≡ before.view.files file
  pub rested : IsTrue tells.files → IsTrue tells.images → 0 < length (before.view.files file) → (c : Files)
      → after.leaves c → before.leaves c
  pub images : IsTrue tells.images → GoesOver (λ q. q ≡ file) before.leaves after.leaves before.past after.past
  pub left : LeftByCreate tells file before after prints old new ending
