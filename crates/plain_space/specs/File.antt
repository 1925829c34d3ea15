-- One file of a store by address: what a space over it tells, when it stands and when it rests.
-- Cited by `PlainSpace`, and by its callers.
use Rattle.std.specs.Prelude.{◌≡◌, ◌≢◌, ℕ, ◌^◌, ◌<◌, Bool, true, false, IsTrue, List, length, take, drop, Option, Some}
use Rattle.std.specs.Prelude.{None, []}
use Rattle.h5_base.specs.declared.extent.Extent.{Extent}
use Rattle.h5_base.specs.declared.extent.Region.{Region}
use Rattle.outside.specs.Array.{Array, array_of}
use Rattle.outside.specs.Causes.{Counts}
use Rattle.outside.specs.Files.{Files, Snapshot, RestsAt}
use Rattle.outside.specs.Space.{SpaceView}
use Rattle.outside.specs.Store.{View, Goes, GoesOver}

-- the bytes of the file with an id
abbrev pub file_in : View → ℕ → List ℕ
file_in v id = v.files (v.names id)

-- the bytes of a file that a space sees: those whose addresses lie below 2^48
abbrev pub seen : List ℕ → List ℕ
seen file = take (2 ^ 48) file

-- address a is byte a of the file, where the store tells its files; where it doesn't, each byte is told as 0
abbrev pub array_in : Bool → List ℕ → Array
array_in true file = array_of (seen file)
array_in false file = λ address. 0

-- the one region, of each class
abbrev pub whole : Region
whole = record { start = 0; limit = 2 ^ 48 }

-- what a space over one file tells
abbrev pub view_of : Bool → View → ℕ → ℕ → List Extent → SpaceView
view_of tells v id end prepared = record {
  array = array_in tells (file_in v id);
  ends = λ class. end;
  regions = λ class. whole;
  writable = true;
  prepared = prepared;
  committed = None;
  history = record { revisions = []; origin = λ class. 0 };
}

-- the faults of its one file, whatever the number
abbrev pub faults_of : View → ℕ → Counts
faults_of v id = λ k. v.counts (Some id)

-- The id was given, and the end is the number of the bytes that are seen of its file, where it is told.
pub record IsOpen (tells : Bool) (v : View) (id end : ℕ) : Type 0 where
  pub given : 0 < length (v.names id)
  pub length_is : IsTrue tells → end ≡ length (seen (file_in v id))

-- Over an honest store that tells its files and images, a stop leaves the file just as it reads.
abbrev pub RestsIn : Bool → Bool → View → (Files → Type 0) → ℕ → Type 0
RestsIn tells tells_images v leaves id = IsTrue tells → IsTrue tells_images → IsTrue v.honest
    → RestsAt (v.names id) (file_in v id) leaves

-- What a run of calls that only look at one file leaves of its store: names, files and the faults of other files stay,
-- and each image and each snapshot since is one that a stop could leave before.
pub record Looks (tells tells_images : Bool) (id : ℕ) (v w : View) (leaves new_leaves : Files
    → Type 0) (past new_past : Snapshot → Type 0) : Type 0 where
  pub names : w.names ≡ v.names
  pub ids : w.ids ≡ v.ids
  pub goes : Goes tells (λ _. ⊥) v w
  pub others : (k : Option ℕ) → k ≢ Some id → w.counts k ≡ v.counts k
  pub fewer : IsTrue tells_images → (c : Files) → new_leaves c → leaves c
  pub since : IsTrue tells_images → GoesOver (λ _. ⊥) leaves new_leaves past new_past

-- What a run of calls on one file leaves of its store: names, the other files and their faults stay, the bytes of the
-- file that aren't seen stay, and each image and each snapshot since agrees with one that a stop could leave before in
-- every other file.
pub record Touches (tells tells_images : Bool) (id : ℕ) (v w : View) (leaves new_leaves : Files
    → Type 0) (past new_past : Snapshot → Type 0) : Type 0 where
  pub names : w.names ≡ v.names
  pub ids : w.ids ≡ v.ids
  pub goes : Goes tells (λ q. q ≡ v.names id) v w
  pub others : (k : Option ℕ) → k ≢ Some id → w.counts k ≡ v.counts k
  pub unseen : IsTrue tells → drop (2 ^ 48) (file_in w id) ≡ drop (2 ^ 48) (file_in v id)
  pub since : IsTrue tells_images → GoesOver (λ q. q ≡ v.names id) leaves new_leaves past new_past
