-- A store at one moment, as far as it tells, and what a run of the program may leave of it.
-- Cited by `run`, and by what each action leaves.
use Rattle.std.specs.Prelude.{◌≡◌, ℕ, Bool, IsTrue, List}
use Rattle.outside.specs.Files.{Files, Snapshot}
use Rattle.outside.specs.Store.{View}

-- what a store tells: its files, and what a stop leaves of them
pub record Telling : Type 0 where
  pub files : Bool
  pub images : Bool

-- a store at a moment: its view, the images that a stop may leave, and the snapshots so far
pub record Moment : Type 1 where
  pub view : View
  pub leaves : Files → Type 0
  pub past : Snapshot → Type 0

-- every file is as it was
abbrev pub SameFiles : Bool → View → View → Type 0
SameFiles tells old new = IsTrue tells → (q : List ℕ) → new.files q ≡ old.files q
