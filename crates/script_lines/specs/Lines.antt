-- What a reader of lines holds of a source, and which line of the source comes next.
-- Cited by `LineReader`, and by the run of a script.
use Rattle.std.specs.Prelude.{◌≡◌, ◌≢◌, ℕ, ◌-◌, ◌^◌, ◌<◌, ◌≤◌, Bool, IsTrue, List, [], ◌∷◌, ◌++◌, length, take}
use Rattle.std.specs.List.{Contains}
use Rattle.script_lines.specs.declared.reader.NextLine.{NextLine}
use Rattle.script_lines.specs.declared.reader.NextLine.TheVariants.{Line, Last, End}

-- so many bytes of a line are kept: one more than a line of the language may have
abbrev pub most_kept : ℕ
most_kept = 65537

-- so many bytes are taken of a source at most
abbrev pub most_taken : ℕ
most_taken = 2 ^ 32

-- What a reader tells: the line that was found last, as far as it is kept; the bytes that were taken and not yet handed
-- out in lines; how many were taken; and whether a read answered the source's end.
pub record Reading : Type 0 where
  pub line : List ℕ
  pub held : List ℕ
  pub taken : ℕ
  pub ended : Bool

-- nothing is left of a source of which the reader has met the end
abbrev pub HasReadAll : Reading → List ℕ → Type 0
HasReadAll r left = IsTrue r.ended → left ≡ []

-- how many of the bytes that were taken stood in lines so far
abbrev pub spent : Reading → ℕ
spent r = r.taken - length r.held

-- no LF is among the bytes
abbrev pub HasNoLf : List ℕ → Type 0
HasNoLf bytes = Contains bytes 10 → ⊥

-- What comes next in the bytes `old`, as far as it is kept, and what is left behind it: a line up to the first LF, a
-- last one that lacks the LF but has a byte, or none.
abbrev pub IsNext : NextLine → List ℕ → List ℕ → List ℕ → Type 0
IsNext Line kept old new = (line : List ℕ) × (kept ≡ take most_kept line) × HasNoLf line × (old ≡ line ++ 10 ∷ new)
IsNext Last kept old new = (kept ≡ take most_kept old) × HasNoLf old × (old ≢ []) × (new ≡ [])
IsNext End kept old new = (old ≡ []) × (new ≡ [])

-- How a reader keeps its bytes: those from `at` to `end` of a piece are held, none after the source's end.
pub record AreKept (piece : List ℕ) (at end taken : ℕ) (ended : Bool) : Type 0 where
  pub piece_is : length piece ≡ 8192
  pub order : at ≤ end
  pub inside : end ≤ 8192
  pub counted : end - at ≤ taken
  pub bounded : taken ≤ most_taken
  pub none : IsTrue ended → at ≡ end
  pub fewer : IsTrue ended → taken < most_taken

-- The line has its room.
pub record HasRoom (kept room : ℕ) : Type 0 where
  pub short : kept ≤ most_kept
  pub has_room : most_kept ≤ room
