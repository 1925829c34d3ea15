-- The end field of a superblock, and what is left where it is written: HDF5 File Format Specification 3.0, II.A.
-- Cited by `tells_end`, `write_end` and `put_end`, and by what flushes, commits and closes.
use Rattle.std.specs.Prelude.{◌≡◌, ◌⊎◌, ℕ, ◌^◌, ◌<◌, [], ◌∷◌, Option}
use Rattle.std.specs.Int.{w64, to_le_bytes}
use Rattle.outside.specs.Array.{Array, SameOutside, bytes_of}
use Rattle.outside.specs.Blocks.{Block}
use Rattle.outside.specs.Revisions.{Committed, IsLogicalEnd}
use Rattle.outside.specs.Space.{SpaceView}
use Rattle.block_space.specs.Written.{TellsAllWritten}
use Rattle.file_model.specs.EditLaws.{end_place}
use Rattle.session_model.specs.EndFields.{number_at}

-- where a superblock of a version tells the end of the file
abbrev pub field_of : ℕ → Block
field_of version = record { start = end_place version; len = 8 }

-- the end field of these bytes tells the end of a space: the greatest end of a region that isn't empty
abbrev pub IsTold : ℕ → SpaceView → Array → Type 0
IsTold version v b = IsLogicalEnd v.regions v.ends (number_at b (end_place version))

-- the 8 bytes from an address on are those of a number of 64 bits, the low byte first
pub record IsNumber (b : Array) (at : ℕ) : Type 0 where
  pub small : number_at b at < 2 ^ 64
  pub bytes : bytes_of b at 8 ≡ to_le_bytes w64 (number_at b at)

-- The end field tells the end. What lies outside it, and the revisions, are as before.
pub record TellsEnd (version : ℕ) (v w : SpaceView) : Type 0 where
  pub told : IsTold version v w.array
  pub spelled : IsNumber w.array (end_place version)
  pub stays : SameOutside (end_place version) 8 v.array w.array
  pub history : w.history ≡ v.history

-- And where it told the end before, nothing was written; else the field was.
pub record PutsEnd (version : ℕ) (v w : SpaceView) : Type 0 where
  pub tells : TellsEnd version v w
  pub right : IsTold version v v.array → w ≡ v
  pub pages : ¬ IsTold version v v.array → TellsAllWritten (field_of version ∷ []) v.committed w.committed

-- the pages of the field are written from now on, or nothing was written
abbrev pub MayWrite : ℕ → Option Committed → Option Committed → Type 0
MayWrite version old new = (new ≡ old) ⊎ TellsAllWritten (field_of version ∷ []) old new

-- the second came from the first by reads alone, and then by calls that write
abbrev pub ReadThenEdited : {V : Type 0} → (Alike Edited : V → V → Type 0) → V → V → Type 0
ReadThenEdited {V} Alike Edited old new = (read : V) × Alike old read × Edited read new
