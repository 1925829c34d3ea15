-- What can't be spelled where a part can't.
use Rattle.std.proofs.Common.{◌≡◌, ℕ, suc, ◌+◌, ◌-◌, ◌<◌, ◌≤◌, Bool, true, false, cond, ℤ, List, [], ◌∷◌, length, take, Some, None, refl, sym, ap, subst, ◌∙◌, arith, length-drop}
use Rattle.std.specs.Prelude.{◌==◌, ◌&&◌, slice_get}
use Rattle.std.proofs.lemmas.Bool.Decides.{nat_tests}
use Rattle.std.proofs.lemmas.Str.Parse.{digit_from_value}
use Rattle.dtype.specs.declared.types.Value.{Value}
use Rattle.dtype.specs.declared.types.Value.TheVariants as value
use Rattle.object_model.specs.Tree.{last_of}
use Rattle.script.specs.declared.symbols.Within.TheVariants.{Quotes}
use Rattle.script.specs.declared.paths.Leads.{Leads}
use Rattle.script.specs.declared.paths.Leads.TheVariants.{Anywhere, ToNewLink}
use Rattle.script.specs.Words.{Next, next_word, before_len, front, rest_from}
use Rattle.script.specs.Names.{IsText, IsPath}
use Rattle.script.specs.Numbers.{IsSizes, IsInteger}
use Rattle.script.specs.Line.{IsBox, IsPathThat, IsValue, admits, can_be_made, begins_quoted, next_quoted, closed}
use Rattle.script.proofs.Runs.{some_is, next_rest, RestIs}
use Rattle.script.proofs.Unique.{IsOne, one_integer, one_next, one_path, one_text}

-- ---- paths

pub last_get : (ns : List (List ℕ)) (n : List ℕ) → Some n ≡ slice_get ns (length ns - 1) → (last_of ns ≡ n) × (0 < length ns)
last_get [] n e = absurd cc
last_get (m ∷ []) n e = (sym (some_is n m e), omega arith)
last_get (m ∷ k ∷ ns) n e =
    let less : suc (suc (length ns)) - 1 ≡ suc (suc (length ns) - 1) = omega arith in
    let h = last_get (k ∷ ns) n (subst (λ (i : ℕ). Some n ≡ slice_get (m ∷ k ∷ ns) i) less e) in
    (h.0, omega arith)

pub admits_new : (leads : Leads) (ns : List (List ℕ)) (n : List ℕ) (r : Bool) → leads ≡ ToNewLink → Some n ≡ slice_get ns (length ns - 1) → r ≡ can_be_made n → r ≡ admits leads ns
admits_new leads ns n r e v h =
    let l = last_get ns n v in
    let long : 0 < length ns = l.1 in
    let some : (length ns == 0) ≡ false = grind (arith, nat_tests) in
    subst (λ (x : Leads). r ≡ admits x ns) (sym e) (rw (some, l.0) h)

pub not_admitted : (leads : Leads) (w : List ℕ) (path : List (List ℕ)) → IsPath w path → admits leads path ≡ false → (p : List (List ℕ)) → IsPathThat leads w p → ⊥
not_admitted leads w path is bad p h =
    let same : admits leads p ≡ admits leads path = ap (admits leads) (one_path w p path h.path_is is) in
    let good : admits leads p ≡ true = h.admitted in
    absurd cc

-- ---- boxes

pub no_path_box : (text : List ℕ) → ((p : List (List ℕ)) (more : List ℕ) → Next (IsPathThat Anywhere) text p more → ⊥)
    → (p : List (List ℕ)) (start count more : List ℕ) → IsBox text p start count more → ⊥
no_path_box text none p start count more h = none p h.after_path h.path_is

pub no_start_box : (text t : List ℕ) (q : List (List ℕ)) → Next (IsPathThat Anywhere) text q t → ((s more : List ℕ) → Next (IsSizes false) t s more → ⊥)
    → (p : List (List ℕ)) (start count more : List ℕ) → IsBox text p start count more → ⊥
no_start_box text t q is none p start count more h =
    let same : h.after_path ≡ t = next_rest (IsPathThat Anywhere) (IsPathThat Anywhere) text q p t h.after_path is h.path_is in
    none start h.after_start (subst (λ (u : List ℕ). Next (IsSizes false) u start h.after_start) same h.start_is)

pub no_count_box : (text t u s : List ℕ) (q : List (List ℕ)) → Next (IsPathThat Anywhere) text q t → Next (IsSizes false) t s u → ((n more : List ℕ) → Next (IsSizes false) u n more → ⊥)
    → (p : List (List ℕ)) (start count more : List ℕ) → IsBox text p start count more → ⊥
no_count_box text t u s q is has none p start count more h =
    let same : h.after_path ≡ t = next_rest (IsPathThat Anywhere) (IsPathThat Anywhere) text q p t h.after_path is h.path_is in
    let next : h.after_start ≡ u = next_rest (IsSizes false) (IsSizes false) t s start u h.after_start has (subst (λ (v : List ℕ). Next (IsSizes false) v start h.after_start) same h.start_is) in
    none count more (subst (λ (v : List ℕ). Next (IsSizes false) v count more) next h.count_is)

-- what follows a box is one text
pub box_rest : (text : List ℕ) (p q : List (List ℕ)) (s n a b more others : List ℕ) → IsBox text p s n more → IsBox text q a b others → others ≡ more
box_rest text p q s n a b more others h g =
    let same : g.after_path ≡ h.after_path = next_rest (IsPathThat Anywhere) (IsPathThat Anywhere) text p q h.after_path g.after_path h.path_is g.path_is in
    let next : g.after_start ≡ h.after_start = next_rest (IsSizes false) (IsSizes false) h.after_path s a h.after_start g.after_start h.start_is (subst (λ (v : List ℕ). Next (IsSizes false) v a g.after_start) same g.start_is) in
    next_rest (IsSizes false) (IsSizes false) h.after_start n b more others h.count_is (subst (λ (v : List ℕ). Next (IsSizes false) v b others) next g.count_is)

-- ---- values

no_quote_digit : (inside : List ℕ) (z : ℤ) → IsInteger (34 ∷ inside) z → ⊥
no_quote_digit inside z h = let d = digit_from_value 34 h.0.digits.1.0 in omega (arith, d)

quoted_word : (xs w more : List ℕ) → next_word (32 ∷ 34 ∷ xs) ≡ Some (w, more) → (inside : List ℕ) × (w ≡ 34 ∷ inside)
quoted_word xs w more e =
    let one : 1 + before_len 32 xs ≡ suc (before_len 32 xs) = omega arith in
    (front 32 xs, ap (λ (p : List ℕ × List ℕ). p.0) (some_is (w, more) (front 32 (34 ∷ xs), rest_from 32 (34 ∷ xs)) (sym e)) ∙ ap (λ n. take n (34 ∷ xs)) one)

both_are : (a b : ℕ) → (a == 32 && b == 34) ≡ true → (a ≡ 32) × (b ≡ 34)
both_are a b e = grind (arith, nat_tests)

-- a text in quotes is no number
pub quoted_no_number : (text : List ℕ) → begins_quoted text ≡ true → (z : ℤ) (more : List ℕ) → Next IsInteger text z more → ⊥
quoted_no_number [] b z more h = absurd cc
quoted_no_number (s ∷ []) b z more h = absurd cc
quoted_no_number (s ∷ q ∷ xs) b z more (w, at, is) =
    let both = both_are s q b in
    let at' : next_word (32 ∷ 34 ∷ xs) ≡ Some (w, more) = subst (λ (c : ℕ). next_word (32 ∷ c ∷ xs) ≡ Some (w, more)) both.1 (subst (λ (c : ℕ). next_word (c ∷ q ∷ xs) ≡ Some (w, more)) both.0 at) in
    let inside = quoted_word xs w more at' in
    no_quote_digit inside.0 z (subst (λ (v : List ℕ). IsInteger v z) inside.1 is)

pub begins_from : (text : List ℕ) (x : List ℕ × List ℕ) → next_quoted text ≡ Some x → begins_quoted text ≡ true
begins_from [] x e = absurd cc
begins_from (s ∷ []) x e = absurd cc
begins_from (s ∷ q ∷ xs) x e = by (s == 32 && q == 34) e
  where
    by : (b : Bool) → cond b (closed (front 34 xs) (rest_from 34 xs)) None ≡ Some x → b ≡ true
    by true g = refl
    by false g = absurd cc

pub value_rest : RestIs IsValue
value_rest text (value.Num x) (value.Num y) more others h g = next_rest IsInteger IsInteger text x y more others h g
value_rest text (value.Num x) (value.Text y) more others h (inside, at, g) = absurd (quoted_no_number text (begins_from text (inside, others) at) x more h)
value_rest text (value.Text x) (value.Num y) more others (inside, at, h) g = absurd (quoted_no_number text (begins_from text (inside, more) at) y others g)
value_rest text (value.Text x) (value.Text y) more others (a, at, h) (b, at', g) = ap (λ (p : List ℕ × List ℕ). p.1) (some_is (b, others) (a, more) (sym at' ∙ at))

pub no_quoted : (text : List ℕ) → begins_quoted text ≡ true → None ≡ next_quoted text → (v : Value) (more : List ℕ) → IsValue text v more → ⊥
no_quoted text b e (value.Num z) more h = quoted_no_number text b z more h
no_quoted text b e (value.Text bytes) more (inside, at, h) = let both : None ≡ Some (inside, more) = e ∙ at in absurd cc

pub bad_quoted : (text inside rest : List ℕ) → begins_quoted text ≡ true → Some (inside, rest) ≡ next_quoted text → ((n : List ℕ) → IsText Quotes inside n → ⊥) → (v : Value) (more : List ℕ) → IsValue text v more → ⊥
bad_quoted text inside rest b e none (value.Num z) more h = quoted_no_number text b z more h
bad_quoted text inside rest b e none (value.Text bytes) more (other, at, h) =
    let same : other ≡ inside = ap (λ (p : List ℕ × List ℕ). p.0) (some_is (other, more) (inside, rest) (sym at ∙ sym e)) in
    none bytes (subst (λ (v : List ℕ). IsText Quotes v bytes) same h)

-- a text spells one value
pub one_value : IsOne IsValue
one_value text (value.Num x) (value.Num y) more others h g =
    let one = one_next IsInteger one_integer text x y more others h g in
    (ap value.Num one.0, one.1)
one_value text (value.Num x) (value.Text y) more others h (inside, at, g) = absurd (quoted_no_number text (begins_from text (inside, others) at) x more h)
one_value text (value.Text x) (value.Num y) more others (inside, at, h) g = absurd (quoted_no_number text (begins_from text (inside, more) at) y others g)
one_value text (value.Text x) (value.Text y) more others (a, at, h) (b, at', g) =
    let same : (b, others) ≡ (a, more) = some_is (b, others) (a, more) (sym at' ∙ at) in
    let inside : b ≡ a = ap (λ (p : List ℕ × List ℕ). p.0) same in
    (ap value.Text (one_text Quotes a x y h (subst (λ (t : List ℕ). IsText Quotes t y) inside g)), ap (λ (p : List ℕ × List ℕ). p.1) same)

-- a value takes at least one byte
word_shorter : (text : List ℕ) (x : List ℕ × List ℕ) → next_word text ≡ Some x → length x.1 < length text
word_shorter [] x e = absurd cc
word_shorter (s ∷ xs) x e = by (s == 32) e
  where
    by : (b : Bool) → cond b (Some (front 32 xs, rest_from 32 xs)) None ≡ Some x → length x.1 < suc (length xs)
    by true g =
        let same : length x.1 ≡ length (rest_from 32 xs) = ap (λ (p : List ℕ × List ℕ). length p.1) (sym (some_is _ x g)) in
        omega (arith, same, length-drop {A = ℕ})
    by false g = absurd cc

quoted_shorter : (text : List ℕ) (x : List ℕ × List ℕ) → next_quoted text ≡ Some x → length x.1 < length text
quoted_shorter [] x e = absurd cc
quoted_shorter (s ∷ []) x e = absurd cc
quoted_shorter (s ∷ q ∷ xs) x e = by (s == 32 && q == 34) e
  where
    over : (rest : List ℕ) → length rest ≤ length xs → closed (front 34 xs) rest ≡ Some x → length x.1 < suc (suc (length xs))
    over [] le g = absurd cc
    over (r ∷ rs) le g =
        let same : length x.1 ≡ length rs = ap (λ (p : List ℕ × List ℕ). length p.1) (sym (some_is (front 34 xs, rs) x g)) in
        omega (arith, same, le)

    by : (b : Bool) → cond b (closed (front 34 xs) (rest_from 34 xs)) None ≡ Some x → length x.1 < suc (suc (length xs))
    by true g = over (rest_from 34 xs) (omega (arith, length-drop {A = ℕ})) g
    by false g = absurd cc

pub value_shorter : (text : List ℕ) (v : Value) (more : List ℕ) → IsValue text v more → length more < length text
value_shorter text (value.Num z) more (w, at, h) = word_shorter text (w, more) at
value_shorter text (value.Text bytes) more (inside, at, h) = quoted_shorter text (inside, more) at
