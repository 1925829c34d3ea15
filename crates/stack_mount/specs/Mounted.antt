-- When a file is mounted, and why not, by its bytes and where they end; and what judging it leaves of its store.
-- Cited by `mount`, and by its callers.
use Rattle.std.specs.Prelude.{◌≡◌, ◌≢◌, ℕ, ◌<◌, ◌≤◌, Bool, IsTrue, List, Option, Some, None, Result, Ok, Err}
use Rattle.outside.specs.Array.{Array}
use Rattle.outside.specs.Causes.{Rose}
use Rattle.outside.specs.Files.{Files, Snapshot}
use Rattle.outside.specs.Store.{View, Goes, GoesOver}
use Rattle.super_codec.specs.Super.{Spells, stop_of}
use Rattle.super_codec.specs.declared.superblock.Superblock.{Superblock}
use Rattle.file_model.specs.Holds.{super_bytes_of}
use Rattle.file_model.specs.Laws.{one_region}
use Rattle.file_model.specs.RefusedTree.{of_super}
use Rattle.plain_space.specs.Plain.{store_of}
use Rattle.plain_space.specs.declared.space.PlainSpace.{PlainSpace}
use Rattle.h5_base.specs.declared.refusal.Refusal.{Refusal}
use Rattle.h5_base.specs.declared.refusal.Refusal.TheVariants as why
use Rattle.stack_mount.specs.declared.faults.MountRefused.{MountRefused}

-- the bytes spell no superblock below the end, and this is the refusal
pub record LacksSuper (b : Array) (end : ℕ) (reason : Refusal) : Type 0 where
  pub none : (s : Superblock) → Spells s (super_bytes_of b (one_region end)) → ⊥
  pub line : reason ≡ of_super (stop_of (super_bytes_of b (one_region end)))

-- The file is refused, the first of: it is empty, its superblock isn't spelled, it ends before the end that is stored.
pub data IsRefused (b : Array) (end : ℕ) (reason : Refusal) : Type 0 where
  EmptyFile : end ≡ 0 → reason ≡ why.Absent → IsRefused b end reason
  NoSuper : end ≢ 0 → LacksSuper b end reason → IsRefused b end reason
  ShortFile : (s : Superblock) → Spells s (super_bytes_of b (one_region end)) → end < s.end_at
      → reason ≡ why.Truncated end s.end_at
      → IsRefused b end reason

-- The file is mounted: it isn't empty, a superblock is spelled, and the end that it stores is no greater.
pub record IsAdmitted (b : Array) (end : ℕ) : Type 0 where
  pub some : end ≢ 0
  pub superblock : Superblock
  pub spelled : Spells superblock (super_bytes_of b (one_region end))
  pub whole : superblock.end_at ≤ end

-- no file is refused and mounted
abbrev pub OneVerdict : Type 0
OneVerdict = (b : Array) (end : ℕ) (f : Refusal) → IsRefused b end f → IsAdmitted b end → ⊥

-- a file is refused for one reason
abbrev pub OneFault : Type 0
OneFault = (b : Array) (end : ℕ) (f g : Refusal) → IsRefused b end f → IsRefused b end g → f ≡ g

-- the store after a file was mounted, or wasn't
abbrev pub store_left : {S : Type 0} → Result (PlainSpace S) (MountRefused S) → S
store_left (Ok space) = store_of space
store_left (Err refused) = refused.store

-- one of the counts that calls for this file alone may raise: that of `file`, or that of the file's id
abbrev pub IsCountOf : List ℕ → View → Option ℕ → Type 0
IsCountOf file v None = Unit {0}
IsCountOf file v (Some id) = v.names id ≡ file

-- one of these counts rose
abbrev pub FileRose : List ℕ → View → View → Type 0
FileRose file v w = (k : Option ℕ) × IsCountOf file w k × Rose (v.counts k) (w.counts k)

-- What calls for one file that change none leave of a store: the counts of the other files stay, and each image and
-- each snapshot since is one that a stop could leave before.
pub record IsOnlySeen (tells tells_images : Bool) (file : List ℕ) (v w : View) (leaves new_leaves : Files
    → Type 0) (past new_past : Snapshot → Type 0) : Type 0 where
  pub goes : Goes tells (λ _. ⊥) v w
  pub others : (k : Option ℕ) → ¬ IsCountOf file w k → w.counts k ≡ v.counts k
  pub fewer : IsTrue tells_images → (c : Files) → new_leaves c → leaves c
  pub since : IsTrue tells_images → GoesOver (λ _. ⊥) leaves new_leaves past new_past
