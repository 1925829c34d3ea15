-- A number's word is ASCII, so that it is text.
use Rattle.std.proofs.Common.{◌≡◌, ℕ, zero, suc, ◌<◌, Bool, true, false, cond, not, get_or, List, [], ◌∷◌, drop, refl, subst, arith}
use Rattle.std.specs.Prelude.{◌==◌, ◌&&◌}
use Rattle.std.specs.Str.{IsAscii, IsUtf8}
use Rattle.std.specs.Str.Parse.{IsNumeral, without_leading_plus, without_leading_sign}
use Rattle.std.proofs.lemmas.Fmt.{IsAscii-from_digits}
use Rattle.std.proofs.lemmas.Str.{IsUtf8-from_ascii}
use Rattle.std.proofs.lemmas.Bool.Decides.{nat_tests}
use Rattle.script.specs.Numbers.{is_bare, IsU64, IsI128}

-- a bare word has no plus
bare_plain : (w : List ℕ) → is_bare w ≡ true → without_leading_plus w ≡ w
bare_plain [] h = refl
bare_plain (c ∷ []) h = by (c == 43) h
  where
    by : (b : Bool) → not b ≡ true → drop (cond b 1 0) (c ∷ []) ≡ c ∷ []
    by true q = absurd cc
    by false q = refl
bare_plain (c ∷ d ∷ ds) h = by (c == 43) h
  where
    by : (b : Bool) → (not b && not (c == 48) && not (c == 45 && d == 48)) ≡ true → drop (cond b 1 0) (c ∷ d ∷ ds) ≡ c ∷ d ∷ ds
    by true q = absurd cc
    by false q = refl

pub not_u64 : (w : List ℕ) → (IsUtf8 w → ⊥) → IsU64 w → ⊥
not_u64 w none u = none (IsUtf8-from_ascii w (IsAscii-from_digits w u.digits.1))

ascii_signed : (w : List ℕ) → is_bare w ≡ true → IsNumeral 10 (without_leading_sign w) → IsAscii w
ascii_signed [] b d = λ i. omega arith
ascii_signed (c ∷ cs) b d = by (c == 45) refl d
  where
    by : (t : Bool) → (c == 45) ≡ t → IsNumeral 10 (cond t cs (without_leading_plus (c ∷ cs))) → IsAscii (c ∷ cs)
    by true q h = let is : c ≡ 45 = grind (arith, nat_tests) in let rest = IsAscii-from_digits cs h.1 in λ i. at i is rest
      where
        at : (i : ℕ) → c ≡ 45 → IsAscii cs → get_or (c ∷ cs) i 0 < 128
        at zero e r = omega arith
        at (suc i) e r = r i
    by false q h = IsAscii-from_digits (c ∷ cs) (subst (λ (v : List ℕ). IsNumeral 10 v) (bare_plain (c ∷ cs) b) h).1

pub not_i128 : (w : List ℕ) → is_bare w ≡ true → (IsUtf8 w → ⊥) → IsI128 w → ⊥
not_i128 w b none u = none (IsUtf8-from_ascii w (ascii_signed w b u.digits))
