-- Counts of faults: a count that rose is the cause of a fault that is answered.
-- Cited by the store, the source and the sink, and by the top call.
use Rattle.std.specs.Prelude.{◌≡◌, ℕ, ◌+◌, ◌-◌, ◌^◌, ◌≤◌, min, Result, OnOk, OnErr}

-- the count rose, or stands at the end of its type
abbrev pub Rose : ℕ → ℕ → Type 0
Rose before now = min (before + 1) (2 ^ 64 - 1) ≤ now

-- A count never falls. An error is answered only where it rose, and no fault is passed over: where none is answered, it
-- is as it was.
pub record HasCause {T E : Type 0} (before now : ℕ) (result : Result T E) : Type 0 where
  pub later : before ≤ now
  pub failed : OnErr result (Rose before now)
  pub calm : OnOk result (now ≡ before)

-- counts of faults, by the number of a file
abbrev pub Counts : Type 0
Counts = ℕ → ℕ

-- no count fell
abbrev pub NoneFell : Counts → Counts → Type 0
NoneFell before now = (k : ℕ) → before k ≤ now k

-- one of the counts rose
pub record OneRose (before now : Counts) : Type 0 where
  pub file : ℕ
  pub rose : Rose (before file) (now file)
