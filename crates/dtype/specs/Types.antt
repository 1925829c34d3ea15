-- Which bytes are the datatype of an integer or a fixed string, by the HDF5 File Format Specification 3.0, IV.A.2.d
-- ("Datatype Message"). Cited by `read_type` and `write_type`, and by what reads and writes object headers.
use Rattle.std.specs.Prelude.{◌≡◌, ℕ, ◌+◌, ◌*◌, ◌/◌, ◌%◌, ◌≤◌, ◌==◌, Bool, if◌then◌else◌, ◌⊎◌, List, [], ◌∷◌, ◌++◌}
use Rattle.std.specs.Prelude.{length, slice_index}
use Rattle.std.specs.Int.{w16, w32, to_le_bytes}
use Rattle.h5_base.specs.Fields.{u16_at, u32_at}
use Rattle.dtype.specs.declared.types.Pad.{Pad}
use Rattle.dtype.specs.declared.types.Pad.TheVariants.{Nul, Ended, Space}
use Rattle.dtype.specs.declared.types.ElemType.{ElemType}
use Rattle.dtype.specs.declared.types.ElemType.TheVariants.{Int, Text}

-- ---- the types that a file can hold

abbrev pub IsIntSize : ℕ → Type 0
IsIntSize size = (size ≡ 1) ⊎ (size ≡ 2) ⊎ (size ≡ 4) ⊎ (size ≡ 8)

abbrev pub IsTextSize : ℕ → Type 0
IsTextSize size = (1 ≤ size) × (size ≤ 65535)

-- an integer of 1, 2, 4 or 8 bytes or a string of 1 to 65,535
abbrev pub IsElemType : ElemType → Type 0
IsElemType (Int size signed big) = IsIntSize size
IsElemType (Text size pad) = IsTextSize size

-- the bytes that an element has
abbrev pub size_of : ElemType → ℕ
size_of (Int size signed big) = size
size_of (Text size pad) = size

-- ---- reading

-- the low four bits of the first byte
abbrev pub class_of : List ℕ → ℕ
class_of b = slice_index b 0 % 16

-- its high four bits
abbrev pub version_of : List ℕ → ℕ
version_of b = slice_index b 0 / 16

-- the low byte of the class bit field
abbrev pub class_bits : List ℕ → ℕ
class_bits b = slice_index b 1

-- A datatype of this class, with so many bytes: versions 1 to 3 have the same form for integers and strings. Bytes
-- behind it fill the message up.
pub record IsClass (b : List ℕ) (class whole : ℕ) : Type 0 where
  pub whole_there : whole ≤ length b
  pub class_is : class_of b ≡ class
  pub oldest : 1 ≤ version_of b
  pub newest : version_of b ≤ 3

-- Class 0, fixed-point numbers: no bits beside the value's, in whole bytes.
pub record IsInt (b : List ℕ) : Type 0 where
  pub class : IsClass b 0 12
  pub size : IsIntSize (u32_at b 4)
  pub padding : class_bits b / 2 % 4 ≡ 0
  pub offset : u16_at b 8 ≡ 0
  pub precision : u16_at b 10 ≡ 8 * u32_at b 4

-- bit 0 is the byte order, bit 3 the sign
abbrev pub int_of : List ℕ → ElemType
int_of b = Int (u32_at b 4) (class_bits b / 8 % 2 == 1) (class_bits b % 2 == 1)

-- Class 3, strings: a padding type in bits 0 to 3, ASCII or UTF-8 in bits 4 to 7. No properties follow.
pub record IsText (b : List ℕ) : Type 0 where
  pub class : IsClass b 3 8
  pub size : IsTextSize (u32_at b 4)
  pub padding : class_bits b % 16 ≤ 2
  pub charset : class_bits b / 16 ≤ 1

-- padding type 0 is NUL ended, 1 NUL padded, 2 space padded
abbrev pub pad_of : ℕ → Pad
pad_of code = if code == 0 then Ended else (if code == 1 then Nul else Space)

abbrev pub text_of : List ℕ → ElemType
text_of b = Text (u32_at b 4) (pad_of (class_bits b % 16))

-- The bytes begin with the datatype of these elements.
abbrev pub SpellsType : ElemType → List ℕ → Type 0
SpellsType t b = (IsInt b × (t ≡ int_of b)) ⊎ (IsText b × (t ≡ text_of b))

-- ---- writing: version 1, character set 0, all reserved bits 0

abbrev pub flag : Bool → ℕ
flag b = if b then 1 else 0

abbrev pub pad_code : Pad → ℕ
pad_code Ended = 0
pad_code Nul = 1
pad_code Space = 2

-- version and class, the class bit field, the size
abbrev pub head_bytes : (class bits size : ℕ) → List ℕ
head_bytes class bits size = ((16 + class) ∷ bits ∷ 0 ∷ 0 ∷ []) ++ to_le_bytes w32 size

abbrev pub type_bytes : ElemType → List ℕ
type_bytes (Int size signed big) = head_bytes 0
    (flag big + 8 * flag signed) size ++ to_le_bytes w16 0 ++ to_le_bytes w16 (8 * size)
type_bytes (Text size pad) = head_bytes 3 (pad_code pad) size
