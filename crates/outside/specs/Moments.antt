-- The time of a revision as it is stored: `YYYYMMDDThhmmssZ` in UTC.
-- Cited by what a commit makes.
use Rattle.std.specs.Prelude.{◌≡◌, ℕ, ◌+◌, ◌/◌, ◌%◌, ◌≤◌, ℤ, pos, List, [], ◌∷◌, ◌++◌}
use Rattle.jiff_core.specs.Calendar.{IsCivilDate, days_from_civil}

-- the moments that have a time: the years from 1970 to 9999, in seconds from 1970 on
pub record HasTime (secs : ℤ) : Type 0 where
  pub moment : ℕ
  pub is : secs ≡ pos moment
  pub small : moment ≤ 253402300799

-- two decimal digits, and four
abbrev pub two_digits : ℕ → List ℕ
two_digits n = (48 + n / 10 % 10) ∷ (48 + n % 10) ∷ []

abbrev pub four_digits : ℕ → List ℕ
four_digits n = two_digits (n / 100) ++ two_digits n

abbrev pub clock_text : ℕ → List ℕ
clock_text second = two_digits (second / 3600) ++ two_digits (second / 60 % 60) ++ two_digits (second % 60)

-- the time of a moment: the civil date whose day number it is in whole days, and the rest of the day
pub record IsTimeOf (moment : ℕ) (text : List ℕ) : Type 0 where
  pub year : ℕ
  pub month : ℕ
  pub day : ℕ
  pub date : IsCivilDate (pos year) month day
  pub number : days_from_civil (pos year) month day ≡ pos (moment / 86400)
  pub spelled : text ≡ four_digits year ++ two_digits month ++ two_digits day ++ (84 ∷ []) ++ clock_text
      (moment % 86400) ++ (90 ∷ [])
