-- The bytes of a value: as many as the type says, and the value is read back from them.
use Rattle.std.proofs.Common.{◌≡◌, ℕ, zero, suc, ◌+◌, ◌-◌, ◌*◌, ◌^◌, ◌<◌, ◌≤◌, Bool, true, false, ℤ, pos, negsuc, FitsSigned, of_z, List, [], ◌∷◌, ◌++◌, length, take, cond, refl, sym, ap, ◌∙◌, arith, append_assoc, length-append}
use Rattle.std.specs.Prelude.{replicate, not, ◌==◌}
use Rattle.std.specs.Int.{to_le_bytes, to_be_bytes, from_le_bytes, from_be_bytes}
use Rattle.std.specs.List.{suffix_len, prefix_len}
use Rattle.std.proofs.lemmas.Int.{ints, to_z-of_z}
use Rattle.std.proofs.lemmas.List.{append-nil, length-replicate, reverse-append, take-append-le}
use Rattle.std.proofs.lemmas.List.Sums.{take_while-cons}
use Rattle.std.proofs.lemmas.Nat.{from_le_bytes-to_le_bytes_2, from_le_bytes-to_le_bytes_4, from_le_bytes-to_le_bytes_8, from_be_bytes-to_be_bytes_2, from_be_bytes-to_be_bytes_4, from_be_bytes-to_be_bytes_8}
use Rattle.dtype.specs.declared.types.Pad.{Pad}
use Rattle.dtype.specs.declared.types.Pad.TheVariants.{Nul, Ended, Space}
use Rattle.dtype.specs.declared.types.ElemType.{ElemType}
use Rattle.dtype.specs.declared.types.ElemType.TheVariants as elem
use Rattle.dtype.specs.declared.types.Value.{Value}
use Rattle.dtype.specs.declared.types.Value.TheVariants as value
use Rattle.dtype.specs.Types.{IsElemType, IsIntSize, size_of}
use Rattle.dtype.specs.Values.{CanHold, HoldsNumber, canonical, encoding, filler, number_bytes, number_of, text_bytes, unpadded, unsigned_of, value_of, width_of, without_last}
use Rattle.dtype.proofs.NumberLaws.{at_each_size}

-- ---- numbers

abbrev ReadsLow : ℕ → Type 0
ReadsLow size = (n : ℕ) → n < 2 ^ (8 * size) → from_le_bytes (width_of size) (to_le_bytes (width_of size) n) ≡ n

reads_low : (size : ℕ) → IsIntSize size → ReadsLow size
reads_low = at_each_size ReadsLow (λ n lt. omega arith) from_le_bytes-to_le_bytes_2 from_le_bytes-to_le_bytes_4 from_le_bytes-to_le_bytes_8

abbrev ReadsHigh : ℕ → Type 0
ReadsHigh size = (n : ℕ) → n < 2 ^ (8 * size) → from_be_bytes (width_of size) (to_be_bytes (width_of size) n) ≡ n

reads_high : (size : ℕ) → IsIntSize size → ReadsHigh size
reads_high = at_each_size ReadsHigh (λ n lt. omega arith) from_be_bytes-to_be_bytes_2 from_be_bytes-to_be_bytes_4 from_be_bytes-to_be_bytes_8

abbrev HasBits : Bool → ℤ → ℕ → Type 0
HasBits signed z size = HoldsNumber signed size z → of_z (width_of size) z < 2 ^ (8 * size)

has_bits : (signed : Bool) (z : ℤ) (size : ℕ) → IsIntSize size → HasBits signed z size
has_bits true (pos n) =
    at_each_size (HasBits true (pos n))
    (λ h. omega (arith, ints, h.0, h.1)) (λ h. omega (arith, ints, h.0, h.1)) (λ h. omega (arith, ints, h.0, h.1)) (λ h. omega (arith, ints, h.0, h.1))
has_bits true (negsuc n) =
    at_each_size (HasBits true (negsuc n)) (λ h. omega arith) (λ h. omega arith) (λ h. omega arith) (λ h. omega arith)
has_bits false (pos n) =
    at_each_size (HasBits false (pos n))
    (λ h. omega (arith, ints, h.0, h.1)) (λ h. omega (arith, ints, h.0, h.1)) (λ h. omega (arith, ints, h.0, h.1)) (λ h. omega (arith, ints, h.0, h.1))
has_bits false (negsuc n) =
    at_each_size (HasBits false (negsuc n)) (λ h. omega arith) (λ h. omega arith) (λ h. omega arith) (λ h. omega arith)

bits_read : (signed big : Bool) (z : ℤ) (size : ℕ) → IsIntSize size → HoldsNumber signed size z → unsigned_of big (width_of size) (number_bytes big (width_of size) z) ≡ of_z (width_of size) z
bits_read signed true z size i h = reads_high size i (of_z (width_of size) z) (has_bits signed z size i h)
bits_read signed false z size i h = reads_low size i (of_z (width_of size) z) (has_bits signed z size i h)

abbrev FitsAt : ℤ → ℕ → Type 0
FitsAt z size = HoldsNumber true size z → FitsSigned (width_of size) z

fits_at : (z : ℤ) (size : ℕ) → IsIntSize size → FitsAt z size
fits_at (pos n) =
    at_each_size (FitsAt (pos n))
    (λ h. record { sfits = omega (arith, ints, h.1) }) (λ h. record { sfits = omega (arith, ints, h.1) }) (λ h. record { sfits = omega (arith, ints, h.1) }) (λ h. record { sfits = omega (arith, ints, h.1) })
fits_at (negsuc n) =
    at_each_size (FitsAt (negsuc n))
    (λ h. record { sfits = omega (arith, ints, h.0) }) (λ h. record { sfits = omega (arith, ints, h.0) }) (λ h. record { sfits = omega (arith, ints, h.0) }) (λ h. record { sfits = omega (arith, ints, h.0) })

number_read : (signed big : Bool) (z : ℤ) (size : ℕ) → IsIntSize size → HoldsNumber signed size z → number_of signed big (width_of size) (number_bytes big (width_of size) z) ≡ z
number_read true big z size i h = rw (bits_read true big z size i h) (to_z-of_z (width_of size) z (fits_at z size i h))
number_read false big (pos n) size i h = rw (bits_read false big (pos n) size i h) refl
number_read false big (negsuc n) size i h = absurd (omega (arith, ints, h.0))

abbrev HasSize : Bool → ℤ → ℕ → Type 0
HasSize big z size = length (number_bytes big (width_of size) z) ≡ size

number_size : (big : Bool) (z : ℤ) (size : ℕ) → IsIntSize size → HasSize big z size
number_size true z = at_each_size (HasSize true z) refl refl refl refl
number_size false z = at_each_size (HasSize false z) refl refl refl refl

-- ---- texts

text_size : (pad : Pad) (size : ℕ) (text : List ℕ) → length text ≤ size → length (text_bytes pad size text) ≡ size
text_size pad size text lt = simp (length-append, length-replicate) (omega arith)

before_nul-filled : (text : List ℕ) (n : ℕ) → unpadded Ended (text ++ replicate n 0) ≡ unpadded Ended text
before_nul-filled [] zero = refl
before_nul-filled [] (suc n) = refl
before_nul-filled (b ∷ text) n =
    let p = λ (b : ℕ). not (b == 0) in
    take_while-cons p b (text ++ replicate n 0) ∙ ap (λ rest. cond (p b) (b ∷ rest) []) (before_nul-filled text n) ∙ sym (take_while-cons p b text)

-- the test that trailing bytes pass
abbrev is : ℕ → ℕ → Bool
is last b = b == last

suffix-more : (last : ℕ) → is last last ≡ true → (text : List ℕ) → suffix_len (is last) (text ++ last ∷ []) ≡ 1 + suffix_len (is last) text
suffix-more last e text =
    ap (prefix_len (is last)) (reverse-append text (last ∷ []))
    ∙ ap (λ b. cond b (1 + suffix_len (is last) text) 0) e

without_last-more : (last : ℕ) → is last last ≡ true → (text : List ℕ) → without_last last (text ++ last ∷ []) ≡ without_last last text
without_last-more last e text =
    let some = suffix-more last e text in
    let longer = length-append text (last ∷ []) in
    let k : length (text ++ last ∷ []) - suffix_len (is last) (text ++ last ∷ []) ≡ length text - suffix_len (is last) text = omega arith in
    ap (λ n. take n (text ++ last ∷ [])) k ∙ take-append-le (length text - suffix_len (is last) text) text (last ∷ []) (omega arith)

without_last-filled : (last : ℕ) → is last last ≡ true → (n : ℕ) (text : List ℕ) → without_last last (text ++ replicate n last) ≡ without_last last text
without_last-filled last e zero text = ap (without_last last) (append-nil text)
without_last-filled last e (suc n) text =
    ap (without_last last) (sym (append_assoc text (last ∷ []) (replicate n last)))
    ∙ without_last-filled last e n (text ++ last ∷ [])
    ∙ without_last-more last e text

unpadded-filled : (pad : Pad) (text : List ℕ) (n : ℕ) → unpadded pad (text ++ replicate n (filler pad)) ≡ unpadded pad text
unpadded-filled Nul text n = without_last-filled 0 refl n text
unpadded-filled Ended text n = before_nul-filled text n
unpadded-filled Space text n = without_last-filled 32 refl n text

-- ---- values

pub encoding_size : (t : ElemType) (v : Value) → IsElemType t → CanHold t v → length (encoding t v) ≡ size_of t
encoding_size (elem.Int size signed big) (value.Num z) i h = number_size big z size i
encoding_size (elem.Int size signed big) (value.Text text) i h = absurd h
encoding_size (elem.Text size pad) (value.Num z) i h = absurd h
encoding_size (elem.Text size pad) (value.Text text) i h = text_size pad size text (omega (arith, h))

pub encoding_read : (t : ElemType) (v : Value) → IsElemType t → CanHold t v → value_of t (encoding t v) ≡ canonical t v
encoding_read (elem.Int size signed big) (value.Num z) i h = ap value.Num (number_read signed big z size i h)
encoding_read (elem.Int size signed big) (value.Text text) i h = absurd h
encoding_read (elem.Text size pad) (value.Num z) i h = absurd h
encoding_read (elem.Text size pad) (value.Text text) i h = ap value.Text (unpadded-filled pad text (size - length text))
