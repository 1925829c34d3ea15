-- A datatype that is written is spelled.
use Rattle.std.proofs.Common.{◌≡◌, ℕ, ◌+◌, ◌*◌, ◌/◌, ◌%◌, ◌^◌, ◌<◌, ◌≤◌, Bool, true, false, List, ◌++◌, refl, sym, ◌∙◌, arith, inl, inr}
use Rattle.std.specs.Prelude.{◌==◌}
use Rattle.std.proofs.lemmas.Nat.{from_le_bytes-to_le_bytes_2, from_le_bytes-to_le_bytes_4}
use Rattle.h5_base.specs.Fields.{u16_at, u32_at}
use Rattle.dtype.specs.declared.types.Pad.{Pad}
use Rattle.dtype.specs.declared.types.Pad.TheVariants.{Nul, Ended, Space}
use Rattle.dtype.specs.declared.types.ElemType.{ElemType}
use Rattle.dtype.specs.declared.types.ElemType.TheVariants.{Int, Text}
use Rattle.dtype.specs.Types.{IsIntSize, IsTextSize, IsElemType, SpellsType, class_of, type_bytes, flag, pad_code, pad_of}

small_int : (size : ℕ) → IsIntSize size → size ≤ 8
small_int size h = omega (arith, h)

no_padding : (signed big : Bool) → (flag big + 8 * flag signed) / 2 % 4 ≡ 0
no_padding true true = refl
no_padding true false = refl
no_padding false true = refl
no_padding false false = refl

sign_kept : (signed big : Bool) → (flag big + 8 * flag signed) / 8 % 2 == 1 ≡ signed
sign_kept true true = refl
sign_kept true false = refl
sign_kept false true = refl
sign_kept false false = refl

order_kept : (signed big : Bool) → (flag big + 8 * flag signed) % 2 == 1 ≡ big
order_kept true true = refl
order_kept true false = refl
order_kept false true = refl
order_kept false false = refl

int_spelled : (size : ℕ) (signed big : Bool) → IsIntSize size → (rest : List ℕ) → SpellsType (Int size signed big) (type_bytes (Int size signed big) ++ rest)
unfolding u16_at u32_at
int_spelled size signed big h rest =
    let small = small_int size h in
    let wide : size < 2 ^ 32 = omega arith in
    let short : 8 * size < 2 ^ 16 = omega arith in
    let s = from_le_bytes-to_le_bytes_4 size wide in
    let p = from_le_bytes-to_le_bytes_2 (8 * size) short in
    inl (
      record {
        class = record { whole_there = omega arith; class_is = refl; oldest = omega arith; newest = omega arith };
        size = rw s h;
        padding = no_padding signed big;
        offset = refl;
        precision = rw (s, p) refl;
      },
      rw (s, sign_kept signed big, order_kept signed big) refl,
    )

pad_small : (pad : Pad) → pad_code pad % 16 ≤ 2
pad_small Nul = omega arith
pad_small Ended = omega arith
pad_small Space = omega arith

charset_zero : (pad : Pad) → pad_code pad / 16 ≤ 1
charset_zero Nul = omega arith
charset_zero Ended = omega arith
charset_zero Space = omega arith

pad_kept : (pad : Pad) → pad_of (pad_code pad % 16) ≡ pad
pad_kept Nul = refl
pad_kept Ended = refl
pad_kept Space = refl

text_spelled : (size : ℕ) (pad : Pad) → IsTextSize size → (rest : List ℕ) → SpellsType (Text size pad) (type_bytes (Text size pad) ++ rest)
unfolding u16_at u32_at
text_spelled size pad h rest =
    let wide : size < 2 ^ 32 = omega (arith, h) in
    let s = from_le_bytes-to_le_bytes_4 size wide in
    inr (
      record {
        class = record { whole_there = omega arith; class_is = refl; oldest = omega arith; newest = omega arith };
        size = rw s h;
        padding = pad_small pad;
        charset = charset_zero pad;
      },
      rw (s, pad_kept pad) refl,
    )

-- also where more bytes follow
pub type_spelled : (t : ElemType) → IsElemType t → (rest : List ℕ) → SpellsType t (type_bytes t ++ rest)
type_spelled (Int size signed big) h rest = int_spelled size signed big h rest
type_spelled (Text size pad) h rest = text_spelled size pad h rest

apart : (b : List ℕ) → class_of b ≡ 0 → class_of b ≡ 3 → ⊥
apart b zero three = omega arith

-- bytes spell one type
pub type_unique : (s t : ElemType) (b : List ℕ) → SpellsType s b → SpellsType t b → s ≡ t
type_unique s t b (inl p) (inl q) = p.1 ∙ sym q.1
type_unique s t b (inl p) (inr q) = absurd (apart b p.0.class.class_is q.0.class.class_is)
type_unique s t b (inr p) (inl q) = absurd (apart b q.0.class.class_is p.0.class.class_is)
type_unique s t b (inr p) (inr q) = p.1 ∙ sym q.1
