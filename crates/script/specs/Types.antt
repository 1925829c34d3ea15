-- Which words are types.
-- Cited by the reader of a line.
use Rattle.std.specs.Prelude.{◌≡◌, ℕ, ◌==◌, Bool, true, false, ◌&&◌, if◌then◌else◌, List, [], ◌∷◌, Option, Some, None}
use Rattle.std.specs.Prelude.{option_and_then}
use Rattle.dtype.specs.Types.{IsTextSize}
use Rattle.dtype.specs.declared.types.Pad.{Pad}
use Rattle.dtype.specs.declared.types.Pad.TheVariants.{Nul, Ended, Space}
use Rattle.dtype.specs.declared.types.ElemType.{ElemType}
use Rattle.dtype.specs.declared.types.ElemType.TheVariants as elem
use Rattle.script.specs.Numbers.{IsNumber}

-- `i` for signed integers, `u` for others
abbrev pub sign_of : ℕ → Option Bool
sign_of c = if c == 105 then Some true else (if c == 117 then Some false else None)

-- `le`, or `be` for the high byte first
abbrev pub order_of : ℕ → ℕ → Option Bool
order_of c d = if c == 108 && d == 101 then Some false else (if c == 98 && d == 101 then Some true else None)

-- `16`, `32` and `64` bits
abbrev pub wide_size : ℕ → ℕ → Option ℕ
wide_size c d = if c == 49 && d == 54 then Some 2 else
    (if c == 51 && d == 50 then Some 4 else (if c == 54 && d == 52 then Some 8 else None))

abbrev pub narrow_size : ℕ → Option ℕ
narrow_size c = if c == 56 then Some 1 else None

abbrev pub int_of : Option Bool → Option ℕ → Option Bool → Option ElemType
int_of signed size big = option_and_then (λ s. option_and_then
    (λ n. option_and_then (λ b. Some (elem.Int n s b)) big) size) signed

-- an integer's sign, bits and order
abbrev pub int_type : List ℕ → Option ElemType
int_type [] = None
int_type (s ∷ []) = None
int_type (s ∷ a ∷ []) = None
int_type (s ∷ a ∷ b ∷ []) = None
int_type (s ∷ a ∷ b ∷ c ∷ []) = int_of (sign_of s) (narrow_size a) (order_of b c)
int_type (s ∷ a ∷ b ∷ c ∷ d ∷ []) = int_of (sign_of s) (wide_size a b) (order_of c d)
int_type (s ∷ a ∷ b ∷ c ∷ d ∷ e ∷ rest) = None

-- what stands behind `str`
abbrev pub after_str : List ℕ → Option (List ℕ)
after_str [] = None
after_str (a ∷ []) = None
after_str (a ∷ b ∷ []) = None
after_str (a ∷ b ∷ c ∷ rest) = if a == 115 && b == 116 && c == 114 then Some rest else None

-- the padding, and what stands behind its letter: `z` for an ending NUL, `s` for spaces, none for NULs
abbrev pub padding : List ℕ → Pad × List ℕ
padding [] = (Nul, [])
padding (c ∷ rest) = if c == 122 then (Ended, rest) else (if c == 115 then (Space, rest) else (Nul, c ∷ rest))

-- the word spells the type
abbrev pub IsType : List ℕ → ElemType → Type 0
IsType w (elem.Int size signed big) = int_type w ≡ Some (elem.Int size signed big)
IsType w (elem.Text size pad) = (rest digits : List ℕ) × (after_str w ≡ Some rest) × (padding rest ≡ (pad, digits))
    × IsNumber digits size × IsTextSize size
