-- Reading a text byte by byte.
use Rattle.std.proofs.Common.{◌≡◌, ℕ, suc, ◌+◌, ◌*◌, ◌<◌, Bool, true, false, cond, List, [], ◌∷◌, length, Option, Some, None, sym, ap, ◌∙◌, arith}
use Rattle.std.specs.Prelude.{option_and_then, ◌==◌}
use Rattle.script.specs.declared.symbols.Within.{Within}
use Rattle.script.specs.Names.{char_at, after_backslash, escaped, is_plain, hex_digit, IsChar}
use Rattle.script.proofs.Runs.{some_is, RestIs}

escaped_rest : (u : Within) (h l : ℕ) (rest : List ℕ) (x : ℕ × List ℕ) → escaped u h l rest ≡ Some x → x.1 ≡ rest
escaped_rest u h l rest x e = by _ e
  where
    by : (b : Bool) → cond b (Some (16 * h + l, rest)) None ≡ Some x → x.1 ≡ rest
    by true q = ap (λ (p : ℕ × List ℕ). p.1) (sym (some_is _ _ q))
    by false q = absurd cc

pairs_rest : (u : Within) (h l : Option ℕ) (rest : List ℕ) (x : ℕ × List ℕ) → option_and_then (λ high. option_and_then (λ low. escaped u high low rest) l) h ≡ Some x → x.1 ≡ rest
pairs_rest u None l rest x e = absurd cc
pairs_rest u (Some h) None rest x e = absurd cc
pairs_rest u (Some h) (Some l) rest x e = escaped_rest u h l rest x e

backslash_shorter : (u : Within) (w : List ℕ) (x : ℕ × List ℕ) → after_backslash u w ≡ Some x → length x.1 < length w
backslash_shorter u [] x e = absurd cc
backslash_shorter u (a ∷ []) x e = absurd cc
backslash_shorter u (a ∷ h ∷ []) x e = absurd cc
backslash_shorter u (a ∷ h ∷ l ∷ rest) x e = by (a == 120) e
  where
    by : (b : Bool) → cond b (option_and_then (λ high. option_and_then (λ low. escaped u high low rest) (hex_digit l)) (hex_digit h)) None ≡ Some x → length x.1 < suc (suc (suc (length rest)))
    by true q = let same : length x.1 ≡ length rest = ap length (pairs_rest u (hex_digit h) (hex_digit l) rest x q) in omega (arith, same)
    by false q = absurd cc

-- a byte takes at least one from the text
pub char_shorter : (u : Within) (w : List ℕ) (x : ℕ × List ℕ) → char_at u w ≡ Some x → length x.1 < length w
char_shorter u [] x e = absurd cc
char_shorter u (c ∷ rest) x e = by (c == 92) (is_plain u c) e
  where
    by : (b p : Bool) → cond b (after_backslash u rest) (cond p (Some (c, rest)) None) ≡ Some x → length x.1 < suc (length rest)
    by true p q = let less = backslash_shorter u rest x q in omega (arith, less)
    by false true q = let same : length rest ≡ length x.1 = ap (λ (y : ℕ × List ℕ). length y.1) (some_is (c, rest) x q) in omega (arith, same)
    by false false q = absurd cc

-- what follows a byte is one text
pub char_rest : (u : Within) → RestIs (IsChar u)
char_rest u text c d more others at at' = ap (λ (p : ℕ × List ℕ). p.1) (some_is (d, others) (c, more) (sym at' ∙ at))

pub no_char : (u : Within) (text : List ℕ) → None ≡ char_at u text → (c : ℕ) (more : List ℕ) → IsChar u text c more → ⊥
no_char u text e c more at = let both : None ≡ Some (c, more) = e ∙ at in absurd cc
