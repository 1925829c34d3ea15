-- Texts of a heap's segment.
use Rattle.std.proofs.Common.{◌≡◌, ◌≢◌, ℕ, zero, suc, ◌+◌, ◌-◌, ◌<◌, ◌≤◌, true, false, nat_lt, List, [], ◌∷◌, length}
use Rattle.std.proofs.Common.{length-drop, take, drop, get_or, refl, sym, ◌∙◌, ap, inl, inr, arith}
use Rattle.std.proofs.lemmas.List.{get_or-drop, get_or-take, drop_all, take_all}
use Rattle.std.proofs.lemmas.List.Elements.{All-get_or, All-from_get_or}
use Rattle.std.specs.Ordering.{is_lt, nat_cmp, ordering_then}
use Rattle.std.specs.Cmp.{nat_cmp_is}
use Rattle.std.specs.Cmp.Lexicographic.{slice_cmp}
use Rattle.std.specs.declared.cmp.Ordering.{Ordering}
use Rattle.std.specs.declared.cmp.Ordering.TheVariants.{Less, Equal, Greater}
use Rattle.std.proofs.lemmas.Bool.{cases_lt}
use Rattle.std.proofs.lemmas.Bool.Decides.{nat_tests}
use Rattle.std.proofs.Math.Numerals.{add-one}
use Rattle.std.proofs.Math.Seq.{drop-cons}
use Rattle.object_model.specs.Tree.{Name, name_lt}
use Rattle.file_model.specs.Groups.{HasText}
use Rattle.group_reader.specs.Texts.{EndTexts}

-- ---- where texts end

-- a text that stands at the beginning of a list
record Begins (r : List ℕ) : Type 0 where
  text : List ℕ
  inside : length text < length r
  stands : take (length text) r ≡ text
  ended : get_or r (length text) 0 ≡ 0
  no_nul : (i : ℕ) → i < length text → get_or text i 0 ≢ 0

no_nul_more : (x : ℕ) (text : List ℕ) → ((i : ℕ) → i < length text → get_or text i 0 ≢ 0) → (i : ℕ)
    → i < length (suc x ∷ text) → get_or (suc x ∷ text) i 0 ≢ 0
no_nul_more x text h zero lt = λ e. omega (arith, e)
no_nul_more x text h (suc i) lt = h i (omega (arith, lt))

begins : (r : List ℕ) (n : ℕ) → n < length r → get_or r n 0 ≡ 0 → Begins r
begins [] n lt is = absurd (omega (arith, lt))
begins (zero ∷ r) n lt is = record {
  text = [];
  inside = omega arith;
  stands = refl;
  ended = refl;
  no_nul = λ i lt.
      absurd (omega (arith, lt));
}
begins (suc x ∷ r) zero lt is = absurd (omega (arith, is))
begins (suc x ∷ r) (suc n) lt is =
    let b = begins r n (omega (arith, lt)) is in
    record {
      text = suc x ∷ b.text;
      inside = omega (arith, b.inside);
      stands = ap (λ (l : List ℕ). suc x ∷ l) b.stands;
      ended = b.ended;
      no_nul = no_nul_more x b.text b.no_nul;
    }

-- a text stands before a NUL
text_stands : (s : List ℕ) (at n : ℕ) → at ≤ n → n < length s → get_or s n 0 ≡ 0 → (text : List ℕ) × HasText s at text
text_stands s at n le lt is =
    let same : at + (n - at) ≡ n = omega arith in
    let b = begins (drop at s) (n - at) (omega (arith, length-drop at s))
    (get_or-drop at s (n - at) 0 ∙ ap (λ (k : ℕ). get_or s k 0) same ∙ is) in (
      b.text,
      record {
        inside = omega (arith, b.inside, length-drop at s);
        stands = b.stands;
        ended = sym (get_or-drop at s (length b.text) 0) ∙ b.ended;
        no_nul = All-from_get_or (λ c. c ≢ 0) b.text 0 b.no_nul;
      },
    )

module _ (s : List ℕ) (end : ℕ) (h : EndTexts s end) where
  pub text_at_key : (at : ℕ) → at < end → (text : List ℕ) × HasText s at text
  text_at_key at lt = text_stands s at (end - 1) (omega arith) (omega (arith, h.inside)) (h.last (omega arith))

-- ---- a text before a name

module _ (s : List ℕ) (at : ℕ) (text : List ℕ) (h : HasText s at text) where
  letter : (i : ℕ) → i < length text → get_or text i 0 ≡ get_or (drop at s) i 0
  letter i lt = ap (λ (l : List ℕ). get_or l i 0) (sym h.stands) ∙ get_or-take (length text) (drop at s) i 0 lt

  -- the text goes on where no NUL stands
  goes_on : (i : ℕ) → i ≤ length text → get_or (drop at s) i 0 ≢ 0 → i < length text
  goes_on i le some = elim (cases_lt i (length text)) [
    | inl lt ↦ lt
    | inr ge ↦
        let same : i ≡ length text = omega arith in
        absurd (some (ap (λ (k : ℕ). get_or (drop at s) k 0) same ∙ get_or-drop at s (length text) 0 ∙ h.ended))
  ]

  -- and it ends where one stands
  ends : (i : ℕ) → i ≤ length text → get_or (drop at s) i 0 ≡ 0 → length text ≤ i
  ends i le is = elim (cases_lt i (length text)) [
    | inl lt ↦ absurd (All-get_or (λ c. c ≢ 0) text i 0 lt h.no_nul (letter i lt ∙ is))
    | inr ge ↦ ge
  ]

-- no name comes before the empty one
before_empty : (n : Name) → name_lt n [] ≡ false
before_empty [] = refl
before_empty (x ∷ n) = refl

-- by the first bytes, where they differ
by_first : (a b : ℕ) (n m : Name) → a ≢ b → nat_lt a b ≡ name_lt (a ∷ n) (b ∷ m)
by_first a b n m other = elim (cases_lt a b) [
  | inl lt ↦
      let yes : nat_lt a b ≡ true = grind (arith, nat_tests) in
      yes ∙ ap (λ (o : Ordering). is_lt (ordering_then o (slice_cmp nat_cmp n m))) (nat_cmp_is a b Less lt)
  | inr ge ↦
      let more : b < a = omega (arith, other, ge) in
      let no : nat_lt a b ≡ false = grind (arith, nat_tests) in
      no ∙ ap (λ (o : Ordering). is_lt (ordering_then o (slice_cmp nat_cmp n m))) (nat_cmp_is a b Greater more)
]

-- and by the others, where they don't
by_others : (a b : ℕ) (n m : Name) → a ≡ b → name_lt (a ∷ n) (b ∷ m) ≡ name_lt n m
by_others a b n m same = ap (λ (o : Ordering). is_lt (ordering_then o (slice_cmp nat_cmp n m)))
    (sym (nat_cmp_is a b Equal same))

-- the bytes of the text and of the name from the i-th on decide
abbrev pub IsLeft : List ℕ → Name → ℕ → Type 0
IsLeft text name i = (i ≤ length text) × (name_lt text name ≡ name_lt (drop i text) (drop i name))

pub all_same : (text : List ℕ) (name : Name) (i : ℕ) → IsLeft text name i → length name ≤ i → false ≡ name_lt text name
all_same text name i left le = sym (left.1 ∙ ap (λ (m : Name). name_lt (drop i text) m) (drop_all i name le) ∙
    before_empty (drop i text))

module _ (s : List ℕ) (at : ℕ) (text : List ℕ) (h : HasText s at text) (name : Name) (i : ℕ) (left : IsLeft text name i)
    (lt : i < length name) where
  -- what is read from the offset on
  same_rest : at ≤ length s → take (length s - at) (drop at s) ≡ drop at s
  same_rest inside = take_all (length s - at) (drop at s) (omega (arith, length-drop at s))

  pub inside_rest : at ≤ length s → length (take (length s - at) (drop at s)) ≤ i → ⊥
  inside_rest inside le =
      let same = ap (λ (l : List ℕ). length l) (same_rest inside) in
      omega (arith, h.inside, left.0, le, same, length-drop at s)

  pub ends_before : at ≤ length s → get_or (take (length s - at) (drop at s)) i 0 ≡ 0 → true ≡ name_lt text name
  ends_before inside is =
      let nul = sym (ap (λ (l : List ℕ). get_or l i 0) (same_rest inside)) ∙ is in
      sym (left.1 ∙ (λ j. name_lt (drop_all i text (ends s at text h i left.0 nul) j) (drop-cons name i 0 lt j)))

  module _ (inside : at ≤ length s) (some : get_or (take (length s - at) (drop at s)) i 0 ≢ 0) where
    some_here : get_or (drop at s) i 0 ≢ 0
    some_here is = some (ap (λ (l : List ℕ). get_or l i 0) (same_rest inside) ∙ is)

    on : i < length text
    on = goes_on s at text h i left.0 some_here

    byte_is : get_or text i 0 ≡ get_or (take (length s - at) (drop at s)) i 0
    byte_is = letter s at text h i on ∙ sym (ap (λ (l : List ℕ). get_or l i 0) (same_rest inside))

    firsts : name_lt text name ≡ name_lt (get_or (take (length s - at) (drop at s)) i 0 ∷ drop (suc i) text)
        (get_or name i 0 ∷ drop (suc i) name)
    firsts = left.1 ∙ (λ j. name_lt (drop-cons text i 0 on j) (drop-cons name i 0 lt j)) ∙ ap
        (λ (c : ℕ). name_lt (c ∷ drop (suc i) text) (get_or name i 0 ∷ drop (suc i) name)) byte_is

    pub differs : get_or (take (length s - at) (drop at s)) i 0 ≢ get_or name i 0
        → nat_lt (get_or (take (length s - at) (drop at s)) i 0) (get_or name i 0) ≡ name_lt text name
    differs other = by_first (get_or (take (length s - at) (drop at s)) i 0) (get_or name i 0) (drop (suc i) text)
        (drop (suc i) name) other ∙ sym firsts

    pub next_left : get_or (take (length s - at) (drop at s)) i 0 ≡ get_or name i 0 → IsLeft text name (i + 1)
    next_left same = (
      omega (arith, on),
      firsts ∙ by_others (get_or (take (length s - at) (drop at s)) i 0) (get_or name i 0) (drop (suc i) text)
          (drop (suc i) name) same
          ∙ (λ j. name_lt (drop (sym (add-one i) j) text) (drop (sym (add-one i) j) name)),
    )
