-- Where the texts of a heap's segment end.
-- Cited by the table of a group.
use Rattle.std.specs.Prelude.{◌≡◌, ◌≢◌, ℕ, ◌-◌, ◌<◌, ◌≤◌, List, length, slice_index}

-- The last NUL of a segment stands before this end, or none does: so a text stands at each offset before it, and none
-- from there on.
pub record EndTexts (segment : List ℕ) (end : ℕ) : Type 0 where
  pub inside : end ≤ length segment
  pub last : 0 < end → slice_index segment (end - 1) ≡ 0
  pub behind : (n : ℕ) → end ≤ n → n < length segment → slice_index segment n ≢ 0
