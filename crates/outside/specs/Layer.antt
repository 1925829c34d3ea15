-- What a layer tells over the files of a store, and what each of its calls leaves of them.
-- Cited by `Layer`, by each layer, and by whatever works on one.
use Rattle.std.specs.Prelude.{◌≡◌, ◌⊎◌, ℕ, ◌<◌, ◌≤◌, Bool, IsTrue, List, [], ◌∷◌, length, Option, Some, None}
use Rattle.std.specs.List.{Contains}
use Rattle.h5_base.specs.declared.extent.MemClass.{MemClass}
use Rattle.h5_base.specs.declared.extent.Region.{Region}
use Rattle.outside.specs.Causes.{Rose}
use Rattle.outside.specs.Files.{Files}
use Rattle.outside.specs.Store.{View}

-- What never changes of a layer: its regions, the names of its files, and of those the ones whose faults it answers as
-- its own and the ones whose faults it answers as a copy's.
pub record LayerShape : Type 0 where
  pub regions : MemClass → Region
  pub files : List (List ℕ)
  pub blamed : List (List ℕ)
  pub copied : List (List ℕ)

-- the files are the same in those of the layer
abbrev pub SameIn : List (List ℕ) → Files → Files → Type 0
SameIn own f g = (q : List ℕ) → Contains own q → g q ≡ f q

-- the file is one of the layer's
abbrev pub IsOwn : LayerShape → List ℕ → Type 0
IsOwn shape q = Contains shape.files q

-- the count of one of these files rose
pub record RoseIn (own : List (List ℕ)) (old new : View) : Type 0 where
  pub id : ℕ
  pub file : Contains own (old.names id)
  pub rose : Rose (old.counts (Some id)) (new.counts (Some id))

-- the counts of these files are as they were
abbrev pub StayIn : List (List ℕ) → View → View → Type 0
StayIn own old new = (id : ℕ) → Contains own (old.names id) → new.counts (Some id) ≡ old.counts (Some id)

-- Each file that lasted after a settle still does, but one whose count rose.
abbrev pub LastOn : List (List ℕ) → List (List ℕ) → View → View → Type 0
LastOn before now old new = (q : List ℕ) → Contains before q → Contains now q ⊎ RoseIn (q ∷ []) old new

-- No count falls, and those of other files stay.
pub record KeepsCounts (shape : LayerShape) (old new : View) : Type 0 where
  pub later : (k : Option ℕ) → old.counts k ≤ new.counts k
  pub opening : new.counts None ≡ old.counts None
  pub others : (id : ℕ) → (¬ IsOwn shape (old.names id)) → new.counts (Some id) ≡ old.counts (Some id)

-- what is between two moments at which a layer stands as well: ids stay, and so do its files where they are told
pub record Undisturbed (tells : Bool) (shape : LayerShape) (old new : View) : Type 0 where
  pub names : (i : ℕ) → 0 < length (old.names i) → new.names i ≡ old.names i
  pub files : IsTrue tells → SameIn shape.files old.files new.files

-- each of these files is one of those
abbrev pub AreAmong : List (List ℕ) → List (List ℕ) → Type 0
AreAmong these those = (q : List ℕ) → Contains these q → Contains those q
