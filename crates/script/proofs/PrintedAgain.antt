-- Printed names and types are spellings.
use Rattle.std.proofs.Common.{◌≡◌, ℕ, suc, ◌+◌, ◌-◌, ◌*◌, ◌/◌, ◌%◌, ◌^◌, ◌<◌, ◌≤◌, Bool, true, false, cond, not, List, [], ◌∷◌, ◌++◌, get_or, Some, refl, sym, ap, subst, ◌∙◌, arith, inl, inr}
use Rattle.std.specs.Prelude.{nat_le, nat_lt, ◌==◌, ◌&&◌}
use Rattle.std.specs.Fmt.{decimal, digits, digit_glyph}
use Rattle.std.specs.Str.Parse.{IsNumeral}
use Rattle.std.proofs.lemmas.Bool.Decides.{nat_tests}
use Rattle.std.proofs.lemmas.Str.Parse.{digit_from_value}
use Rattle.std.proofs.lemmas.Fmt.{decimal_is_IsNumeral, first_decimal}
use Rattle.dtype.specs.Types.{IsIntSize, IsTextSize}
use Rattle.dtype.specs.Values.{escape}
use Rattle.dtype.specs.declared.types.Pad.{Pad}
use Rattle.dtype.specs.declared.types.Pad.TheVariants.{Nul, Ended, Space}
use Rattle.dtype.specs.declared.types.ElemType.TheVariants as elem
use Rattle.script.specs.declared.symbols.Within.TheVariants.{Path}
use Rattle.script.specs.Again.{NamesAgain, TypesAgain}
use Rattle.script.specs.Names.{char_at, hex_digit, is_plain, may_escape}
use Rattle.script.specs.Numbers.{is_bare, IsNumber}
use Rattle.script.specs.Print.{is_plain_name, name_symbol, name_text, type_text}
use Rattle.script.specs.Types.{IsType, int_type, padding}

-- ---- names

is_within : (m n : ℕ) → m ≤ n → nat_le m n ≡ true
is_within m n h = grind (arith, nat_tests)

is_past : (m n : ℕ) → n < m → nat_le m n ≡ false
is_past m n h = grind (arith, nat_tests)

same_number : (m n : ℕ) → m ≡ n → Some m ≡ Some n
same_number m n e = ap Some e

low_digit : (d : ℕ) → d < 10 → hex_digit (48 + d) ≡ Some d
low_digit d lt =
    let low : nat_le 48 (48 + d) ≡ true = is_within 48 (48 + d) (omega arith) in
    let high : nat_le (48 + d) 57 ≡ true = is_within (48 + d) 57 (omega (arith, lt)) in
    rw (low, high) (same_number (48 + d - 48) d (omega arith))

high_digit : (d : ℕ) → 10 ≤ d → d < 16 → hex_digit (55 + d) ≡ Some d
high_digit d ge lt =
    let low : nat_le 48 (55 + d) ≡ true = is_within 48 (55 + d) (omega arith) in
    let past : nat_le (55 + d) 57 ≡ false = is_past (55 + d) 57 (omega (arith, ge)) in
    let above : nat_le 65 (55 + d) ≡ true = is_within 65 (55 + d) (omega (arith, ge)) in
    let below : nat_le (55 + d) 70 ≡ true = is_within (55 + d) 70 (omega (arith, lt)) in
    rw (low, past, above, below) (same_number (55 + d - 55) d (omega arith))

digit_again : (d : ℕ) → d < 16 → hex_digit (digit_glyph true d) ≡ Some d
digit_again d lt = by (nat_lt d 10) refl
  where
    by : (b : Bool) → nat_lt d 10 ≡ b → hex_digit (cond b (48 + d) (55 + d)) ≡ Some d
    by true e = let less : d < 10 = grind (arith, nat_tests) in low_digit d less
    by false e = let more : 10 ≤ d = grind (arith, nat_tests) in high_digit d more lt

grouped : (a b c d : Bool) → ((a && b && c) && d) ≡ ((a && b) && c && d)
grouped true true c d = refl
grouped true false c d = refl
grouped false b c d = refl

plain_name : (b : ℕ) → (is_plain Path b && not (b == 62)) ≡ is_plain_name b
plain_name b = grouped (nat_le 0x21 b) (nat_le b 0x7E) (not (b == 92)) (not (b == 62))

left_holds : (p q : Bool) → (p && q) ≡ true → p ≡ true
left_holds true q e = refl
left_holds false q e = absurd cc

no_other : (x y s : Bool) → (x && y && not s) ≡ true → s ≡ false
no_other true true true e = absurd cc
no_other true true false e = refl
no_other true false s e = absurd cc
no_other false y s e = absurd cc

plain_again : (b : ℕ) (rest : List ℕ) → is_plain_name b ≡ true → char_at Path (b ∷ rest) ≡ Some (b, rest)
plain_again b rest e =
    let path : is_plain Path b ≡ true = left_holds _ _ (plain_name b ∙ e) in
    let other : (b == 92) ≡ false = no_other (nat_le 0x21 b) (nat_le b 0x7E) (b == 92) path in
    rw (path, other) refl

escape_again : (b : ℕ) (rest : List ℕ) → b < 256 → is_plain_name b ≡ false → char_at Path (escape b ++ rest) ≡ Some (b, rest)
escape_again b rest lt e =
    let high : b / 16 < 16 = omega (arith, lt) in
    let low : b % 16 < 16 = omega arith in
    let whole : 16 * (b / 16) + b % 16 ≡ b = omega arith in
    let may : may_escape Path b ≡ true = ap not (plain_name b ∙ e) in
    rw (digit_again (b / 16) high, digit_again (b % 16) low, whole, may) refl

char_again : (b : ℕ) (rest : List ℕ) → b < 256 → char_at Path (name_symbol b ++ rest) ≡ Some (b, rest)
char_again b rest lt = by (is_plain_name b) refl
  where
    by : (p : Bool) → is_plain_name b ≡ p → char_at Path (cond p (b ∷ []) (escape b) ++ rest) ≡ Some (b, rest)
    by true e = plain_again b rest e
    by false e = escape_again b rest lt e

pub names_again : NamesAgain
names_again [] h = refl
names_again (b ∷ bs) h = (name_text bs, char_again b (name_text bs) (h 0 0 (omega arith)), names_again bs (λ k d lt. h (suc k) d (omega (arith, lt))))

-- ---- types

-- the integer type of this size is spelled again
abbrev IsAgain : ℕ → Type 0
IsAgain size = (signed big : Bool) → int_type (type_text (elem.Int size signed big)) ≡ Some (elem.Int size signed big)

one_byte : IsAgain 1
unfolding digits
one_byte true true = refl
one_byte true false = refl
one_byte false true = refl
one_byte false false = refl

two_bytes : IsAgain 2
unfolding digits
two_bytes true true = refl
two_bytes true false = refl
two_bytes false true = refl
two_bytes false false = refl

four_bytes : IsAgain 4
unfolding digits
four_bytes true true = refl
four_bytes true false = refl
four_bytes false true = refl
four_bytes false false = refl

eight_bytes : IsAgain 8
unfolding digits
eight_bytes true true = refl
eight_bytes true false = refl
eight_bytes false true = refl
eight_bytes false false = refl

int_again : (size : ℕ) → IsIntSize size → IsAgain size
int_again size (inl e) = subst IsAgain (sym e) one_byte
int_again size (inr (inl e)) = subst IsAgain (sym e) two_bytes
int_again size (inr (inr (inl e))) = subst IsAgain (sym e) four_bytes
int_again size (inr (inr (inr e))) = subst IsAgain (sym e) eight_bytes

unlike_number : (c k : ℕ) → k < c → (c == k) ≡ false
unlike_number c k h = grind (arith, nat_tests)

unlike_letter : (c k : ℕ) → c < k → (c == k) ≡ false
unlike_letter c k h = grind (arith, nat_tests)

bare_again : (ds : List ℕ) → IsNumeral 10 ds → 48 < get_or ds 0 0 → is_bare ds ≡ true
bare_again [] digits first = refl
bare_again (c ∷ []) digits first = let plus : (c == 43) ≡ false = unlike_number c 43 (omega (arith, first)) in rw plus refl
bare_again (c ∷ d ∷ ds) digits first =
    let plus : (c == 43) ≡ false = unlike_number c 43 (omega (arith, first)) in
    let minus : (c == 45) ≡ false = unlike_number c 45 (omega (arith, first)) in
    let nought : (c == 48) ≡ false = unlike_number c 48 first in
    rw (plus, minus, nought) refl

number_again : (n : ℕ) → 0 < n → n < 2 ^ 64 → IsNumber (decimal n) n
number_again n some small =
    let d = decimal_is_IsNumeral n small in
    (record { bare = bare_again (decimal n) d.0 (first_decimal n some small); digits = d.0; small = rw d.1 small }, sym d.1)

unpadded_again : (ds : List ℕ) → IsNumeral 10 ds → padding ds ≡ (Nul, ds)
unpadded_again [] digits = refl
unpadded_again (c ∷ cs) digits =
    let digit = digit_from_value c digits.1.0 in
    let no_z : (c == 122) ≡ false = unlike_letter c 122 (omega (arith, digit)) in
    let no_s : (c == 115) ≡ false = unlike_letter c 115 (omega (arith, digit)) in
    rw (no_z, no_s) refl

text_again : (size : ℕ) (pad : Pad) → IsTextSize size → IsType (type_text (elem.Text size pad)) (elem.Text size pad)
text_again size Nul is =
    let number = number_again size (omega (arith, is)) (omega (arith, is)) in
    (decimal size, decimal size, refl, unpadded_again (decimal size) number.0.digits, number, is)
text_again size Ended is =
    let number = number_again size (omega (arith, is)) (omega (arith, is)) in
    (122 ∷ decimal size, decimal size, refl, refl, number, is)
text_again size Space is =
    let number = number_again size (omega (arith, is)) (omega (arith, is)) in
    (115 ∷ decimal size, decimal size, refl, refl, number, is)

pub types_again : TypesAgain
types_again (elem.Int size signed big) is = int_again size is signed big
types_again (elem.Text size pad) is = text_again size pad is
