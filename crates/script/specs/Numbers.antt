-- How numbers, sizes and integers are spelled.
-- Cited by the reader of a line.
use Rattle.std.specs.Prelude.{◌≡◌, ℕ, ◌^◌, ◌<◌, ◌≤ℤ◌, ◌<ℤ◌, neg_ℤ, ◌==◌, Bool, true, not, ◌&&◌, ℤ, pos, List, [], ◌∷◌}
use Rattle.std.specs.Prelude.{codes, ◌⊎◌}
use Rattle.std.specs.List.{AllZip}
use Rattle.std.specs.Str.Parse.{IsNumeral, digits_value, without_leading_sign, signed_digits_value}
use Rattle.script.specs.Words.{split_on}

-- no `+`, no zero before other digits, and no `-` before a zero
abbrev pub is_bare : List ℕ → Bool
is_bare [] = true
is_bare (c ∷ []) = not (c == 43)
is_bare (c ∷ d ∷ ds) = not (c == 43) && not (c == 48) && not (c == 45 && d == 48)

-- decimal digits of a number below 2^64
pub record IsU64 (w : List ℕ) : Type 0 where
  pub bare : is_bare w ≡ true
  pub digits : IsNumeral 10 w
  pub small : digits_value 10 w < 2 ^ 64

abbrev pub IsNumber : List ℕ → ℕ → Type 0
IsNumber w n = IsU64 w × (n ≡ digits_value 10 w)

-- a number, or for a maximum also `*`, which is unlimited
abbrev pub IsSize : (maximum : Bool) → List ℕ → ℕ → Type 0
IsSize maximum w n = ((maximum ≡ true) × (w ≡ codes "*") × (n ≡ 18446744073709551615)) ⊎ IsNumber w n

-- `-` for rank 0, or sizes with `,` between them
abbrev pub IsSizes : (maximum : Bool) → List ℕ → List ℕ → Type 0
IsSizes maximum w ns = ((w ≡ codes "-") × (ns ≡ [])) ⊎ AllZip (IsSize maximum) (split_on 44 w) ns

-- decimal digits, with `-` before a negative number, from -2^127 to 2^127 - 1
pub record IsI128 (w : List ℕ) : Type 0 where
  pub bare : is_bare w ≡ true
  pub digits : IsNumeral 10 (without_leading_sign w)
  pub low : neg_ℤ (pos (2 ^ 127)) ≤ℤ signed_digits_value 10 w
  pub high : signed_digits_value 10 w <ℤ pos (2 ^ 127)

abbrev pub IsInteger : List ℕ → ℤ → Type 0
IsInteger w z = IsI128 w × (z ≡ signed_digits_value 10 w)
