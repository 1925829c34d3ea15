-- What stands on a sink after some first part of a text was written to it.
-- Cited by `print`, and by whatever says what a fault of the output leaves.
use Rattle.std.specs.Prelude.{◌≡◌, ℕ, ◌≤◌, List, ◌++◌, length, take}

-- some first part of the text was written
abbrev pub WrittenInPart : List ℕ → List ℕ → List ℕ → Type 0
WrittenInPart text old new = (k : ℕ) × (k ≤ length text) × (new ≡ old ++ take k text)
