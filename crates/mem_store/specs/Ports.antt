-- A source, a sink and a clock in memory, and which of their calls fail.
-- Cited by the clauses of `VecSource`, `VecSink` and `ListClock`.
use Rattle.std.specs.Prelude.{◌≡◌, ◌↔◌, ℕ, ◌+◌, ◌≤◌, List, length, Any, Result, IsErr, OnOk, OnErr}
use Rattle.file_ids.specs.Ids.{one_more}

-- the calls made so far, those that fail, by number from 1, and the faults so far
pub record Numbered : Type 0 where
  pub made : ℕ
  pub fails : List ℕ
  pub faults : ℕ

-- the next call is one of the list
abbrev pub IsNext : Numbered → Type 0
IsNext n = Any (λ number. number ≡ n.made + 1) n.fails

-- A call is counted. It fails just for this cause, and then a fault is counted.
pub record Counts {T E : Type 0} (Fails : Type 0) (old new : Numbered) (result : Result T E) : Type 0 where
  pub cause : IsErr result ↔ Fails
  pub made : new.made ≡ one_more old.made
  pub fails : new.fails ≡ old.fails
  pub ok : OnOk result (new.faults ≡ old.faults)
  pub err : OnErr result (new.faults ≡ one_more old.faults)

-- the bytes that are left, and the calls
pub record Feed : Type 0 where
  pub left : List ℕ
  pub calls : Numbered

-- the bytes that were written, how many there may be, and the calls
pub record Filled : Type 0 where
  pub written : List ℕ
  pub room : ℕ
  pub calls : Numbered

-- no byte more may be written
abbrev pub IsAtEnd : Filled → Type 0
IsAtEnd f = f.room ≤ length f.written
