-- Which bytes are the name of a file, and which a comment.
-- Cited by `Name` and `Comment`, and by whatever reads words, templates and script lines.
use Rattle.std.specs.Prelude.{ℕ, Bool, ◌&&◌, ◌||◌, nat_le, ◌==◌, List, length, slice_index, ◌<◌, ◌≤◌, ◌≢◌, All, IsTrue}

abbrev pub is_between : ℕ → ℕ → ℕ → Bool
is_between low high b = nat_le low b && nat_le b high

-- a letter, a digit, `.`, `_`, `-` or `%`
abbrev pub is_name_byte : ℕ → Bool
is_name_byte b = is_between 48 57 b || is_between 65 90 b || is_between 97 122 b || b == 46 || b == 95 || b == 45 || b
    == 37

-- 1 to 200 such bytes, the first of them not `.`
pub record IsName (text : List ℕ) : Type 0 where
  pub some : 0 < length text
  pub short : length text ≤ 200
  pub visible : slice_index text 0 ≢ 46
  pub each : All (λ b. IsTrue (is_name_byte b)) text

-- a byte that prints, or a space
abbrev pub is_printable : ℕ → Bool
is_printable b = is_between 0x20 0x7E b

-- 1 to 255 such bytes
pub record IsComment (text : List ℕ) : Type 0 where
  pub some : 0 < length text
  pub short : length text ≤ 255
  pub each : All (λ b. IsTrue (is_printable b)) text
