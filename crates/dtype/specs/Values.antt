-- What the bytes of an element mean, which bytes a value has, and how a value is printed, by the HDF5 File Format
-- Specification 3.0, IV.A.2.d (classes 0 and 3). Cited by `encode_value` and `print_value`, and by whatever reads,
-- writes or prints elements, texts in quotes or names.
use Rattle.std.specs.Prelude.{ℕ, ◌+◌, ◌-◌, ◌*◌, ◌/◌, ◌%◌, ◌^◌, ◌≤◌, ◌≤ℤ◌, ◌<ℤ◌, neg_ℤ, ◌==◌, Bool, true, false, not}
use Rattle.std.specs.Prelude.{◌&&◌, if◌then◌else◌, ℤ, pos, List, [], ◌∷◌, ◌++◌, length, take, replicate, flat_map}
use Rattle.std.specs.Int.{Width, w8, w16, w32, w64, cast_signed, cast_unsigned, to_le_bytes, to_be_bytes, from_le_bytes}
use Rattle.std.specs.Int.{from_be_bytes, is_in_range}
use Rattle.std.specs.List.{take_while, suffix_len}
use Rattle.std.specs.Fmt.{signed_decimal, digit_glyph}
use Rattle.dtype.specs.declared.types.Pad.{Pad}
use Rattle.dtype.specs.declared.types.Pad.TheVariants.{Nul, Ended, Space}
use Rattle.dtype.specs.declared.types.ElemType.{ElemType}
use Rattle.dtype.specs.declared.types.ElemType.TheVariants as elem
use Rattle.dtype.specs.declared.types.Value.{Value}
use Rattle.dtype.specs.declared.types.Value.TheVariants as value

-- ---- numbers: two's complement in whole bytes

-- the width of an integer of 1, 2, 4 or 8 bytes
abbrev pub width_of : ℕ → Width
width_of size = if size == 1 then w8 else (if size == 2 then w16 else (if size == 4 then w32 else w64))

-- the numbers that an integer of this size can hold
abbrev pub HoldsNumber : (signed : Bool) (size : ℕ) → ℤ → Type 0
HoldsNumber true size z = (neg_ℤ (pos (2 ^ (8 * size - 1))) ≤ℤ z) × (z <ℤ pos (2 ^ (8 * size - 1)))
HoldsNumber false size z = (pos 0 ≤ℤ z) × (z <ℤ pos (2 ^ (8 * size)))

-- the bytes of a number that fits, the low one first or the high one
abbrev pub number_bytes : (big : Bool) → Width → ℤ → List ℕ
number_bytes true w z = to_be_bytes w (cast_unsigned w z)
number_bytes false w z = to_le_bytes w (cast_unsigned w z)

-- the number that bytes hold, without a sign
abbrev pub unsigned_of : (big : Bool) → Width → List ℕ → ℕ
unsigned_of true w bytes = from_be_bytes w bytes
unsigned_of false w bytes = from_le_bytes w bytes

-- the number that bytes hold
abbrev pub number_of : (signed big : Bool) → Width → List ℕ → ℤ
number_of true big w bytes = cast_signed w (unsigned_of big w bytes)
number_of false big w bytes = pos (unsigned_of big w bytes)

-- ---- texts: fixed strings and their padding

-- the byte that fills a text up
abbrev pub filler : Pad → ℕ
filler Nul = 0
filler Ended = 0
filler Space = 32

-- how many fillers an element has at least
abbrev pub least_fill : Pad → ℕ
least_fill Nul = 0
least_fill Ended = 1
least_fill Space = 0

abbrev pub text_bytes : Pad → ℕ → List ℕ → List ℕ
text_bytes pad size text = text ++ replicate (size - length text) (filler pad)

-- without the bytes `last` at the end
abbrev pub without_last : ℕ → List ℕ → List ℕ
without_last last text = take (length text - suffix_len (λ b. b == last) text) text

-- without its padding: up to the first NUL, or without trailing NULs or spaces
abbrev pub unpadded : Pad → List ℕ → List ℕ
unpadded Nul text = without_last 0 text
unpadded Ended text = take_while (λ b. not (b == 0)) text
unpadded Space text = without_last 32 text

-- ---- values

-- The type can hold the value: a number in its range, or a text that leaves room for the padding that must be there.
abbrev pub CanHold : ElemType → Value → Type 0
CanHold (elem.Int size signed big) (value.Num z) = HoldsNumber signed size z
CanHold (elem.Int size signed big) (value.Text text) = ⊥
CanHold (elem.Text size pad) (value.Num z) = ⊥
CanHold (elem.Text size pad) (value.Text text) = length text + least_fill pad ≤ size

-- the element's bytes of a value that the type can hold
abbrev pub encoding : ElemType → Value → List ℕ
encoding (elem.Int size signed big) (value.Num z) = number_bytes big (width_of size) z
encoding (elem.Int size signed big) (value.Text text) = []
encoding (elem.Text size pad) (value.Num z) = []
encoding (elem.Text size pad) (value.Text text) = text_bytes pad size text

-- the value that an element's bytes hold
abbrev pub value_of : ElemType → List ℕ → Value
value_of (elem.Int size signed big) bytes = value.Num (number_of signed big (width_of size) bytes)
value_of (elem.Text size pad) bytes = value.Text (unpadded pad bytes)

-- the value that is read where this one was written: padding isn't told from a text's own last bytes
abbrev pub canonical : ElemType → Value → Value
canonical t (value.Num z) = value.Num z
canonical (elem.Int size signed big) (value.Text text) = value.Text text
canonical (elem.Text size pad) (value.Text text) = value.Text (unpadded pad text)

-- ---- the text of a value

-- a byte that stands for itself in a quoted text: 0x20 to 0x7E other than `"` and `\`
abbrev pub is_plain : ℕ → Bool
is_plain b = is_in_range 0x20 0x7E b && not (b == 34) && not (b == 92)

-- a byte by its number: `\xHH` with capital digits
abbrev pub escape : ℕ → List ℕ
escape b = 92 ∷ 120 ∷ digit_glyph true (b / 16) ∷ digit_glyph true (b % 16) ∷ []

-- itself, or by its number
abbrev pub symbol : ℕ → List ℕ
symbol b = if is_plain b then (b ∷ []) else escape b

-- in double quotes
abbrev pub quoted : List ℕ → List ℕ
quoted text = 34 ∷ flat_map symbol text ++ 34 ∷ []

-- a decimal number, with `-` before a negative one, or a quoted text
abbrev pub value_text : Value → List ℕ
value_text (value.Num z) = signed_decimal z
value_text (value.Text text) = quoted text
