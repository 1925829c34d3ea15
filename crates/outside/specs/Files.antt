-- What stands in files, what a stop may leave of it, and what the calls of a store do to both.
-- Cited by `Store`, by each store, and by every theorem about stops.
use Rattle.std.specs.Prelude.{◌≡◌, ◌≢◌, ℕ, ◌+◌, ◌-◌, ◌<◌, ◌≤◌, min, max, List, ◌++◌, length, take, drop, replicate}
use Rattle.std.specs.Prelude.{slice_index, if◌then◌else◌}
use Rattle.std.specs.Str.{bytes_eq}

-- The bytes of each file, by its name. An absent file has none.
abbrev pub Files : Type 0
Files = List ℕ → List ℕ

-- after a change of the length: cut, or with zeros behind
abbrev pub resized : ℕ → List ℕ → List ℕ
resized n old = take n old ++ replicate (n - length old) 0

-- after a write at an offset, with zeros up to it where the file is shorter
abbrev pub written : ℕ → List ℕ → List ℕ → List ℕ
written at bytes old = resized at old ++ bytes ++ drop (at + length bytes) old

-- the files with other bytes in one of them
abbrev pub with_file : Files → List ℕ → List ℕ → Files
with_file files name bytes = λ q. if bytes_eq q name then bytes else files q

-- as it reads after a write of n bytes that failed: changed in the range alone, and by zeros up to it
pub record WrittenInPart (at n : ℕ) (old new : List ℕ) : Type 0 where
  pub no_shorter : length old ≤ length new
  pub no_longer : length new ≤ max (length old) (at + n)
  pub below : (i : ℕ) → i < at → slice_index new i ≡ slice_index old i
  pub above : (i : ℕ) → at + n ≤ i → slice_index new i ≡ slice_index old i

-- as it reads after a change of the length that failed: some length between, and zeros in what is new
pub record ResizedInPart (n : ℕ) (old new : List ℕ) : Type 0 where
  pub no_shorter : min (length old) n ≤ length new
  pub no_longer : length new ≤ max (length old) n
  pub each : (i : ℕ) → i < length new → slice_index new i ≡ slice_index old i

-- what a stop may make of a file by a write of n bytes: any bytes in the range and past the end, the same elsewhere
pub record Torn (at n : ℕ) (old new : List ℕ) : Type 0 where
  pub no_shorter : length old ≤ length new
  pub no_longer : length new ≤ max (length old) (at + n)
  pub below : (i : ℕ) → i < length old → i < at → slice_index new i ≡ slice_index old i
  pub above : (i : ℕ) → i < length old → at + n ≤ i → slice_index new i ≡ slice_index old i

-- and by a change of the length: any length between, the same below both, any bytes past the end
pub record Cut (n : ℕ) (old new : List ℕ) : Type 0 where
  pub no_shorter : min (length old) n ≤ length new
  pub no_longer : length new ≤ max (length old) n
  pub below : (i : ℕ) → i < length old → i < length new → slice_index new i ≡ slice_index old i

-- one file takes a step, the others stay
pub record InFile (name : List ℕ) (step : List ℕ → List ℕ → Type 0) (old new : Files) : Type 0 where
  pub here : step (old name) (new name)
  pub others : (q : List ℕ) → q ≢ name → new q ≡ old q

-- each image that may be left now is one that could be left before, after a step
abbrev pub Follows : (Files → Files → Type 0) → (Files → Type 0) → (Files → Type 0) → Type 0
Follows step old new = (c : Files) → new c → (d : Files) × old d × step d c

-- each image that may be left now has these bytes in the file: it is at rest there
abbrev pub RestsAt : List ℕ → List ℕ → (Files → Type 0) → Type 0
RestsAt name bytes leaves = (c : Files) → leaves c → c name ≡ bytes

-- A stop at a moment: its number, what it may leave, and the files as they read then. After a write that
-- failed these are two: as they read before it, and as the write done would have left them.
pub record Snapshot : Type 0 where
  pub moment : ℕ
  pub image : Files
  pub readings : List Files
