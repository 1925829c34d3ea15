-- Each text spells one value.
use Rattle.std.proofs.Common.{◌≡◌, ℕ, ◌≤◌, Bool, true, false, cond, ℤ, List, [], ◌∷◌, length, Option, Some, None, refl, sym, ap, subst, ◌∙◌, arith, inl, inr}
use Rattle.std.specs.Prelude.{codes, ◌==◌, ◌&&◌}
use Rattle.std.specs.List.{AllZip}
use Rattle.std.specs.Str.Parse.{digits_value}
use Rattle.std.proofs.lemmas.Str.Parse.{digit_from_value}
use Rattle.std.proofs.lemmas.Bool.Decides.{nat_tests}
use Rattle.dtype.specs.declared.types.Pad.{Pad}
use Rattle.dtype.specs.declared.types.ElemType.{ElemType}
use Rattle.dtype.specs.declared.types.ElemType.TheVariants as elem
use Rattle.script.specs.declared.symbols.Within.{Within}
use Rattle.script.specs.declared.symbols.Within.TheVariants.{Path}
use Rattle.script.specs.Words.{split_on, IsRun, Next}
use Rattle.script.specs.Names.{char_at, IsChar, IsText, IsName, IsPath}
use Rattle.script.specs.Numbers.{IsU64, IsSize, IsSizes, IsInteger}
use Rattle.script.specs.Types.{int_type, int_of, sign_of, wide_size, narrow_size, order_of, after_str, padding, IsType}
use Rattle.script.proofs.Runs.{some_is}

-- a value at the front of a text, and what follows it, are one
abbrev pub IsOne : {X : Type 0} → (List ℕ → X → List ℕ → Type 0) → Type 0
IsOne {X = X} At = (text : List ℕ) (x y : X) (more others : List ℕ) → At text x more → At text y others → (x ≡ y) × (others ≡ more)

-- an empty text spells none
abbrev pub IsSome : {X : Type 0} → (List ℕ → X → List ℕ → Type 0) → Type 0
IsSome {X = X} At = (x : X) (more : List ℕ) → At [] x more → ⊥

pub one_run : {X : Type 0} (At : List ℕ → X → List ℕ → Type 0) → IsOne At → IsSome At → (text : List ℕ) (xs ys : List X) → IsRun At text xs → IsRun At text ys → xs ≡ ys
one_run At one some text [] [] p q = refl
one_run At one some text [] (y ∷ ys) p (more, at, q) = absurd (some y more (subst (λ (t : List ℕ). At t y more) p at))
one_run At one some text (x ∷ xs) [] (more, at, p) q = absurd (some x more (subst (λ (t : List ℕ). At t x more) q at))
one_run {X = X} At one some text (x ∷ xs) (y ∷ ys) (more, at, p) (others, at', q) =
    let same = one text x y more others at at' in
    let tails : xs ≡ ys = one_run At one some more xs ys p (subst (λ (t : List ℕ). IsRun At t ys) same.1 q) in
    ap (λ (v : X). v ∷ xs) same.0 ∙ ap (λ (vs : List X). y ∷ vs) tails

one_char : (u : Within) → IsOne (IsChar u)
one_char u text c d more others at at' =
    let same : (c, more) ≡ (d, others) = some_is (c, more) (d, others) (sym at ∙ at') in
    (ap (λ (p : ℕ × List ℕ). p.0) same, ap (λ (p : ℕ × List ℕ). p.1) (sym same))

some_char : (u : Within) → IsSome (IsChar u)
some_char u c more at = let empty : char_at u [] ≡ None = refl in let both : None ≡ Some (c, more) = sym empty ∙ at in absurd cc

pub one_text : (u : Within) (text m n : List ℕ) → IsText u text m → IsText u text n → m ≡ n
one_text u = one_run (IsChar u) (one_char u) (some_char u)

pub one_each : {X : Type 0} (R : List ℕ → X → Type 0) → ((w : List ℕ) (x y : X) → R w x → R w y → x ≡ y) → (ws : List (List ℕ)) (xs ys : List X) → AllZip R ws xs → AllZip R ws ys → xs ≡ ys
one_each R one [] [] [] p q = refl
one_each R one [] [] (y ∷ ys) p q = absurd q
one_each R one [] (x ∷ xs) ys p q = absurd p
one_each R one (w ∷ ws) [] ys p q = absurd p
one_each R one (w ∷ ws) (x ∷ xs) [] p q = absurd q
one_each {X = X} R one (w ∷ ws) (x ∷ xs) (y ∷ ys) p q =
    ap (λ (v : X). v ∷ xs) (one w x y p.0 q.0) ∙ ap (λ (vs : List X). y ∷ vs) (one_each R one ws xs ys p.1 q.1)

-- ---- paths

one_name : (w m n : List ℕ) → IsName w m → IsName w n → m ≡ n
one_name w m n p q = one_text Path w m n p.text q.text

-- no text spells an empty name
not_empty : (n : List ℕ) → IsName [] n → ⊥
not_empty [] h = let wrong : false ≡ true = h.named in absurd cc
not_empty (c ∷ cs) h = let t = h.text in some_char Path c t.0 t.1

root_alone : (t : List ℕ) (p : List (List ℕ)) → t ≡ [] → AllZip IsName (split_on 47 t) p → ⊥
root_alone [] [] e h = h
root_alone [] (n ∷ ns) e h = not_empty n h.0
root_alone (x ∷ xs) p e h = let wrong : length (x ∷ xs) ≡ 0 = ap length e in absurd (omega (arith, wrong))

tail_is : (a b : ℕ) (s t : List ℕ) → a ∷ s ≡ b ∷ t → s ≡ t
tail_is a b s t e = cc

pub one_path : (w : List ℕ) (p q : List (List ℕ)) → IsPath w p → IsPath w q → p ≡ q
one_path w p q (inl a) (inl b) = a.1 ∙ sym b.1
one_path w p q (inl a) (inr (t, e, h)) = absurd (root_alone t q (tail_is _ _ _ _ (sym e ∙ a.0)) h)
one_path w p q (inr (t, e, h)) (inl b) = absurd (root_alone t p (tail_is _ _ _ _ (sym e ∙ b.0)) h)
one_path w p q (inr (t, e, h)) (inr (s, f, g)) = one_each IsName one_name (split_on 47 s) p q (subst (λ (x : List ℕ). AllZip IsName (split_on 47 x) p) (tail_is _ _ _ _ (sym e ∙ f)) h) g

-- ---- numbers

pub not_number : (c : ℕ) (cs : List ℕ) → (48 ≤ c → ⊥) → IsU64 (c ∷ cs) → ⊥
not_number c cs low u = let d = digit_from_value c u.digits.1.0 in low (omega (arith, d))

star_apart : (w : List ℕ) → w ≡ codes "*" → IsU64 w → ⊥
star_apart w e u = not_number 42 [] (λ le. omega arith) (subst IsU64 e u)

pub one_size : (m : Bool) (w : List ℕ) (a b : ℕ) → IsSize m w a → IsSize m w b → a ≡ b
one_size m w a b (inl p) (inl q) = p.2 ∙ sym q.2
one_size m w a b (inl p) (inr q) = absurd (star_apart w p.1 q.0)
one_size m w a b (inr p) (inl q) = absurd (star_apart w q.1 p.0)
one_size m w a b (inr p) (inr q) = p.1 ∙ sym q.1

dash_star : 45 ∷ [] ≡ codes "*" → ⊥
dash_star e = cc

not_size : (m : Bool) (n : ℕ) → IsSize m (45 ∷ []) n → ⊥
not_size m n (inl p) = dash_star p.1
not_size m n (inr p) = not_number 45 [] (λ le. omega arith) p.0

dash_apart : (m : Bool) (w ns : List ℕ) → w ≡ codes "-" → AllZip (IsSize m) (split_on 44 w) ns → ⊥
dash_apart m w ns e h = by ns (subst (λ (v : List ℕ). AllZip (IsSize m) (split_on 44 v) ns) e h)
  where
    by : (ks : List ℕ) → AllZip (IsSize m) ((45 ∷ []) ∷ []) ks → ⊥
    by [] g = g
    by (k ∷ ks) g = not_size m k g.0

pub one_sizes : (m : Bool) (w xs ys : List ℕ) → IsSizes m w xs → IsSizes m w ys → xs ≡ ys
one_sizes m w xs ys (inl p) (inl q) = p.1 ∙ sym q.1
one_sizes m w xs ys (inl p) (inr q) = absurd (dash_apart m w ys p.0 q)
one_sizes m w xs ys (inr p) (inl q) = absurd (dash_apart m w xs q.0 p)
one_sizes m w xs ys (inr p) (inr q) = one_each (IsSize m) (one_size m) (split_on 44 w) xs ys p q

-- ---- types

no_sign : (s : ℕ) (n : Option ℕ) (big : Option Bool) (t : ElemType) → s ≡ 115 → int_of (sign_of s) n big ≡ Some t → ⊥
no_sign s n big t e h =
    let none : int_of (sign_of s) n big ≡ None = ap (λ c. int_of (sign_of c) n big) e in
    let both : None ≡ Some t = sym none ∙ h in absurd cc

begins_s : (a b c : ℕ) (rest digits : List ℕ) → cond (a == 115 && b == 116 && c == 114) (Some rest) None ≡ Some digits → a ≡ 115
begins_s a b c rest digits h = by (a == 115) refl h
  where
    by : (t : Bool) → (a == 115) ≡ t → cond (t && b == 116 && c == 114) (Some rest) None ≡ Some digits → a ≡ 115
    by true e g = grind (arith, nat_tests)
    by false e g = absurd cc

pub types_apart : (w : List ℕ) (t : ElemType) (rest : List ℕ) → int_type w ≡ Some t → after_str w ≡ Some rest → ⊥
types_apart [] t rest p q = absurd cc
types_apart (a ∷ []) t rest p q = absurd cc
types_apart (a ∷ b ∷ []) t rest p q = absurd cc
types_apart (a ∷ b ∷ c ∷ []) t rest p q = absurd cc
types_apart (a ∷ b ∷ c ∷ d ∷ []) t rest p q = no_sign a (narrow_size b) (order_of c d) t (begins_s a b c (d ∷ []) rest q) p
types_apart (a ∷ b ∷ c ∷ d ∷ e ∷ []) t rest p q = no_sign a (wide_size b c) (order_of d e) t (begins_s a b c (d ∷ e ∷ []) rest q) p
types_apart (a ∷ b ∷ c ∷ d ∷ e ∷ f ∷ gs) t rest p q = absurd cc

pub one_type : (w : List ℕ) (s t : ElemType) → IsType w s → IsType w t → s ≡ t
one_type w (elem.Int n a b) (elem.Int m c d) p q = some_is _ _ (sym p ∙ q)
one_type w (elem.Int n a b) (elem.Text m pad) p (rest, digits, q, pads, number, small) = absurd (types_apart w _ rest p q)
one_type w (elem.Text n pad) (elem.Int m c d) (rest, digits, p, pads, number, small) q = absurd (types_apart w _ rest q p)
one_type w (elem.Text n pad) (elem.Text m other) (rest, digits, p, pads, number, small) (rest', digits', p', pads', number', small') =
    let same : rest ≡ rest' = some_is rest rest' (sym p ∙ p') in
    let parts : (pad, digits) ≡ (other, digits') = sym pads ∙ ap padding same ∙ pads' in
    let sizes : n ≡ m = number.1 ∙ ap (λ (x : Pad × List ℕ). digits_value 10 x.1) parts ∙ sym number'.1 in
    ap (λ k. elem.Text k pad) sizes ∙ ap (λ (x : Pad × List ℕ). elem.Text m x.0) parts

-- ---- values

pub one_next : {X : Type 0} (R : List ℕ → X → Type 0) → ((w : List ℕ) (x y : X) → R w x → R w y → x ≡ y) → IsOne (Next R)
one_next R one text x y more others (w, at, h) (v, at', g) =
    let same : (v, others) ≡ (w, more) = some_is (v, others) (w, more) (sym at' ∙ at) in
    (one w x y h (subst (λ (p : List ℕ × List ℕ). R p.0 y) same g), ap (λ (p : List ℕ × List ℕ). p.1) same)

pub one_integer : (w : List ℕ) (y z : ℤ) → IsInteger w y → IsInteger w z → y ≡ z
one_integer w y z p q = p.1 ∙ sym q.1
