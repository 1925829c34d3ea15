-- What a store tells, and what each of its calls leaves of it.
-- Cited by `Store`, by each store, and by every function that works on one.
use Rattle.std.specs.Prelude.{◌≡◌, ◌≢◌, ◌⊎◌, ℕ, ◌<◌, ◌≤◌, Bool, IsTrue, List, [], ◌∷◌, ◌++◌, length, slice_index}
use Rattle.std.specs.Prelude.{Option, Some}
use Rattle.outside.specs.Causes.{Rose}
use Rattle.outside.specs.Files.{Files, Snapshot}

-- What a store always tells, and its files, which mean something only where it tells them. A store is honest
-- where a file that was synced has one image.
pub record View : Type 0 where
  -- the ids given so far
  pub ids : List ℕ
  -- the name that an id stands for, empty where the id isn't given yet
  pub names : ℕ → List ℕ
  -- the faults of `file`, at None, and of each id
  pub counts : Option ℕ → ℕ
  -- the number of calls so far
  pub moment : ℕ
  pub honest : Bool
  pub files : Files

-- The ids given so far differ, and each has a name. No other number has a name or a fault.
pub record AreIds (v : View) : Type 0 where
  pub differ : (j k : ℕ) → j < length v.ids → k < length v.ids → slice_index v.ids j ≡ slice_index v.ids k → j ≡ k
  pub named : (k : ℕ) → k < length v.ids → 0 < length (v.names (slice_index v.ids k))
  pub others : (i : ℕ) → ((k : ℕ) → k < length v.ids → slice_index v.ids k ≢ i) → (v.names i ≡ [])
      × (v.counts (Some i) ≡ 0)

-- The common part of each call. `own` is the count that it may raise, and raises where it answers a fault (`Failed`)
-- alone; `Changed` holds of the file that it may change.
pub record Calls (tells : Bool) (own : Option ℕ) (Failed : Type 0) (Changed : List ℕ
    → Type 0) (old new : View) : Type 0 where
  pub later : (k : Option ℕ) → old.counts k ≤ new.counts k
  pub failed : Failed → Rose (old.counts own) (new.counts own)
  pub calm : ¬ Failed → new.counts own ≡ old.counts own
  pub counts : (k : Option ℕ) → k ≢ own → new.counts k ≡ old.counts k
  pub moment : old.moment ≤ new.moment
  pub honest : new.honest ≡ old.honest
  pub others : IsTrue tells → (q : List ℕ) → (Changed q → ⊥) → new.files q ≡ old.files q

-- What a run of calls keeps. Each call has it, and it composes.
pub record Goes (tells : Bool) (Changed : List ℕ → Type 0) (old new : View) : Type 0 where
  pub names : (i : ℕ) → 0 < length (old.names i) → new.names i ≡ old.names i
  pub counts : (k : Option ℕ) → old.counts k ≤ new.counts k
  pub moment : old.moment ≤ new.moment
  pub honest : new.honest ≡ old.honest
  pub others : IsTrue tells → (q : List ℕ) → (Changed q → ⊥) → new.files q ≡ old.files q

-- one of the counts rose
abbrev pub SomeRose : View → View → Type 0
SomeRose old new = (k : Option ℕ) × Rose (old.counts k) (new.counts k)

-- no count changed
abbrev pub NoneRose : View → View → Type 0
NoneRose old new = (k : Option ℕ) → new.counts k ≡ old.counts k

-- This name has this id from now on, and had no other. So one name always gets one id, and two names get two.
pub record Gives (name : List ℕ) (id : ℕ) (old new : View) : Type 0 where
  pub named : new.names id ≡ name
  pub again : (i : ℕ) → old.names i ≡ name → i ≡ id
  pub others : (i : ℕ) → i ≢ id → new.names i ≡ old.names i
  pub was : 0 < length (old.names id) → old.names id ≡ name
  pub ids : (new.ids ≡ old.ids) ⊎ (new.ids ≡ old.ids ++ id ∷ [])

-- no id was given
pub record SameIds (old new : View) : Type 0 where
  pub names : new.names ≡ old.names
  pub ids : new.ids ≡ old.ids

-- a snapshot of this very moment
pub record IsNow (now : View) (leaves : Files → Type 0) (snapshot : Snapshot) : Type 0 where
  pub moment : snapshot.moment ≡ now.moment
  pub image : leaves snapshot.image

-- Time goes on: the snapshots so far stay, and at most those of the new moment join them, with these readings.
pub record Passes (readings : List Files) (now : View) (leaves : Files → Type 0) (past new_past : Snapshot
    → Type 0) : Type 0 where
  pub keeps : (s : Snapshot) → past s → new_past s
  pub nothing_else : (s : Snapshot) → new_past s → past s ⊎ (IsNow now leaves s × (s.readings ≡ readings))

-- c agrees with d in each file that isn't changed
abbrev pub Agrees : (List ℕ → Type 0) → Files → Files → Type 0
Agrees Changed d c = (q : List ℕ) → (Changed q → ⊥) → c q ≡ d q

-- What a run of calls keeps of images: each image now, and each snapshot since, is one of those that could be
-- left at first, but for the changed files. Each call has it, and it composes.
pub record GoesOver (Changed : List ℕ → Type 0) (leaves new_leaves : Files → Type 0) (past new_past : Snapshot
    → Type 0) : Type 0 where
  pub now : (c : Files) → new_leaves c → (d : Files) × leaves d × Agrees Changed d c
  pub since : (s : Snapshot) → new_past s → past s ⊎ ((d : Files) × leaves d × Agrees Changed d s.image)
