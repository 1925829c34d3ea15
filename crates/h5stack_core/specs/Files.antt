-- When a plain file is opened for a run, and why it is refused, by its bytes.
-- Cited by `run` and by the functions that it is made of.
use Rattle.std.specs.Prelude.{ℕ, List, length}
use Rattle.outside.specs.Array.{Array, array_of}
use Rattle.object_model.specs.Step.{Plain}
use Rattle.file_model.specs.Laws.{one_region}
use Rattle.plain_space.specs.File.{seen}
use Rattle.stack_mount.specs.Mounted.{IsRefused, IsAdmitted}
use Rattle.h5stack_core.specs.Script.{HoldsWithin, IsRefusedTree}
use Rattle.h5_base.specs.declared.refusal.Refusal.{Refusal}

-- a plain file's bytes by address, and where they end
abbrev pub array_in : List ℕ → Array
array_in file = array_of (seen file)

abbrev pub end_in : List ℕ → ℕ
end_in file = length (seen file)

-- The file is mounted, and its bytes hold this tree.
pub record Opens (file : List ℕ) (t : Plain) : Type 0 where
  pub admitted : IsAdmitted (array_in file) (end_in file)
  pub held : HoldsWithin (array_in file) (one_region (end_in file)) t

-- Why a file isn't opened: when it is mounted, or else when its tree is read.
pub data IsRefusedFile (file : List ℕ) (reason : Refusal) : Type 0 where
  AtMount : IsRefused (array_in file) (end_in file) reason → IsRefusedFile file reason
  InTree : IsAdmitted (array_in file) (end_in file) → IsRefusedTree (array_in file) (one_region (end_in file)) reason
      → IsRefusedFile file reason
