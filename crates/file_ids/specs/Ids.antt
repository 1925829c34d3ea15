-- The ids of a store as lists: an id is the place of its file's name.
-- Cited by the stores, whose names and counts of faults are told by these lists.
use Rattle.std.specs.Prelude.{◌≡◌, ℕ, suc, ◌+◌, ◌-◌, ◌^◌, ◌<◌, ◌≤◌, ◌≢◌, Bool, List, [], ◌∷◌, ◌++◌, length, slice_set}
use Rattle.std.specs.Prelude.{slice_index, slice_index_or, nat_lt, Option, Some, None, if◌then◌else◌}
use Rattle.std.specs.List.{range_with_len}
use Rattle.std.specs.Str.{bytes_eq}
use Rattle.outside.specs.Causes.{Rose}
use Rattle.outside.specs.Files.{Files}
use Rattle.outside.specs.Store.{View}

-- the names by id, the faults by id, and those of `file`
pub record Ids : Type 0 where
  pub names : List (List ℕ)
  pub faults : List ℕ
  pub own : ℕ

abbrev pub no_ids : Ids
no_ids = record { names = []; faults = []; own = 0 }

-- the first place of a name, or the length
abbrev pub place_of : List ℕ → List (List ℕ) → ℕ
place_of name [] = 0
place_of name (n ∷ names) = if bytes_eq name n then 0 else suc (place_of name names)

-- No name stands twice or is empty, and each has its count.
pub record AreSound (ids : Ids) : Type 0 where
  pub distinct : (i : ℕ) → i < length ids.names → place_of (slice_index_or ids.names i []) ids.names ≡ i
  pub named : (i : ℕ) → i < length ids.names → 0 < length (slice_index_or ids.names i [])
  pub faults : length ids.faults ≡ length ids.names

-- one more, where the type has room
abbrev pub one_more : ℕ → ℕ
one_more n = if nat_lt n (2 ^ 64 - 1) then n + 1 else n

-- a call on this id failed
abbrev pub struck : ℕ → Ids → Ids
struck i ids = record ids { faults = slice_set ids.faults i (one_more (slice_index ids.faults i)) }

-- a call of `file` failed
abbrev pub struck_own : Ids → Ids
struck_own ids = record ids { own = one_more ids.own }

-- one file more
abbrev pub added : List ℕ → Ids → Ids
added name ids = record ids { names = ids.names ++ name ∷ []; faults = ids.faults ++ 0 ∷ [] }

abbrev pub counts_of : ℕ → List ℕ → Option ℕ → ℕ
counts_of own faults None = own
counts_of own faults (Some i) = slice_index faults i

-- what a store with these ids tells, whatever it tells of its files
unfoldable pub told : Ids → ℕ → Bool → Files → View
told ids moment honest files = record {
  ids = range_with_len 0 (length ids.names);
  names = λ i. slice_index_or ids.names i [];
  counts = counts_of ids.own ids.faults;
  moment = moment;
  honest = honest;
  files = files;
}

-- the counts before and after a call whose own count is this one
pub record Counts (own : Option ℕ) (Failed : Type 0) (a b : Ids) : Type 0 where
  pub later : (k : Option ℕ) → counts_of a.own a.faults k ≤ counts_of b.own b.faults k
  pub failed : Failed → Rose (counts_of a.own a.faults own) (counts_of b.own b.faults own)
  pub calm : ¬ Failed → counts_of b.own b.faults own ≡ counts_of a.own a.faults own
  pub counts : (k : Option ℕ) → k ≢ own → counts_of b.own b.faults k ≡ counts_of a.own a.faults k
