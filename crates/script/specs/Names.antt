-- How bytes are written in names and quoted texts, and which words are paths.
-- Cited by the reader of a line.
use Rattle.std.specs.Prelude.{◌≡◌, ℕ, ◌+◌, ◌*◌, ◌-◌, nat_le, Bool, true, false, not, ◌&&◌, ◌==◌, List, [], ◌∷◌, Option}
use Rattle.std.specs.Prelude.{Some, None, if◌then◌else◌, option_and_then, ◌⊎◌}
use Rattle.std.specs.List.{AllZip}
use Rattle.dtype.specs.Values as values
use Rattle.script.specs.Words.{split_on, IsRun}
use Rattle.script.specs.declared.symbols.Within.{Within}
use Rattle.script.specs.declared.symbols.Within.TheVariants.{Path, Quotes}

-- a byte that may stand for itself: within a path 0x21 to 0x7E other than `\`, within quotes as values are printed
abbrev pub is_plain : Within → ℕ → Bool
is_plain Path c = nat_le 0x21 c && nat_le c 0x7E && not (c == 92)
is_plain Quotes c = values.is_plain c

-- a byte that may be written by its number: one that isn't plain, and within a path `>` too
abbrev pub may_escape : Within → ℕ → Bool
may_escape Path c = not (is_plain Path c && not (c == 62))
may_escape Quotes c = not (is_plain Quotes c)

-- the number of a capital hexadecimal digit
abbrev pub hex_digit : ℕ → Option ℕ
hex_digit c = if nat_le 48 c && nat_le c 57 then Some (c - 48) else
    (if nat_le 65 c && nat_le c 70 then Some (c - 55) else None)

-- a byte that is written by its number
abbrev pub escaped : Within → ℕ → ℕ → List ℕ → Option (ℕ × List ℕ)
escaped within high low rest = if may_escape within (16 * high + low) then Some (16 * high + low, rest) else None

-- behind a backslash: `x` and two digits
abbrev pub after_backslash : Within → List ℕ → Option (ℕ × List ℕ)
after_backslash within (x ∷ h ∷ l ∷ rest) = if x == 120 then option_and_then
    (λ high. option_and_then (λ low. escaped within high low rest) (hex_digit l)) (hex_digit h) else None
after_backslash within (x ∷ h ∷ []) = None
after_backslash within (x ∷ []) = None
after_backslash within [] = None

-- the byte that the front of a text stands for, and the rest of the text
abbrev pub char_at : Within → List ℕ → Option (ℕ × List ℕ)
char_at within [] = None
char_at within (c ∷ rest) = if c == 92 then after_backslash within rest else
    (if is_plain within c then Some (c, rest) else None)

-- the front of the text stands for the byte
abbrev pub IsChar : Within → List ℕ → ℕ → List ℕ → Type 0
IsChar within text c rest = char_at within text ≡ Some (c, rest)

-- the text spells the bytes
abbrev pub IsText : Within → List ℕ → List ℕ → Type 0
IsText within = IsRun (IsChar within)

-- neither empty nor `.`
abbrev pub is_named : List ℕ → Bool
is_named [] = false
is_named (c ∷ []) = not (c == 46)
is_named (c ∷ d ∷ cs) = true

-- the text spells the name
pub record IsName (w name : List ℕ) : Type 0 where
  pub text : IsText Path w name
  pub named : is_named name ≡ true

-- `/`, or `/` and names joined by `/`
abbrev pub IsPath : List ℕ → List (List ℕ) → Type 0
IsPath w path = ((w ≡ 47 ∷ []) × (path ≡ [])) ⊎ ((t : List ℕ) × (w ≡ 47 ∷ t) × AllZip IsName (split_on 47 t) path)
