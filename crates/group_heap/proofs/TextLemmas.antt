-- Where the texts of a segment end.
use Rattle.std.proofs.Common.{◌≡◌, ◌≢◌, ℕ, ◌+◌, ◌-◌, ◌<◌, ◌≤◌, List, length, drop, get_or, refl, sym, ◌∙◌, ap, inl, inr}
use Rattle.std.proofs.Common.{Some, None, arith}
use Rattle.std.proofs.lemmas.List.{get_or-drop, get_or-take}
use Rattle.std.proofs.lemmas.List.Elements.{All-get_or}
use Rattle.std.proofs.lemmas.Bool.{cases_lt}
use Rattle.file_model.specs.Groups.{HasText}
use Rattle.group_heap.specs.Greatest.{UsedByLast}

-- a byte of a text, by its place in the segment
letter : (s : List ℕ) (at : ℕ) (text : List ℕ) → HasText s at text → (i : ℕ) → i < length text
    → get_or text i 0 ≡ get_or s (at + i) 0
letter s at text h i lt =
    ap (λ (l : List ℕ). get_or l i 0) (sym h.stands) ∙ get_or-take (length text) (drop at s) i 0 lt
    ∙ get_or-drop at s i 0

-- a text that begins later ends no sooner
ends_last : (s : List ℕ) (early late : ℕ) (t u : List ℕ) → early ≤ late → HasText s early t → HasText s late u
    → early + length t ≤ late + length u
ends_last s early late t u le h k = elim (cases_lt (late + length u) (early + length t)) [
  | inl lt ↦
      let n : late + length u - early < length t = omega arith in
      let e : early + (late + length u - early) ≡ late + length u = omega arith in
      absurd (All-get_or (λ c. c ≢ 0) t (late + length u - early) 0 n h.no_nul
      (letter s early t h (late + length u - early) n ∙ ap (λ (x : ℕ). get_or s x 0) e ∙ k.ended))
  | inr ge ↦ ge
]

pub used_by_last : UsedByLast
used_by_last s offsets None n greatest texts by =
    let e = by.none refl in
    record {
      whole = omega (arith, e);
      some = omega (arith, e);
      behind = λ at text h t. absurd (greatest at h);
      least = λ m w l b. omega (arith, e);
    }
used_by_last s offsets (Some last) n greatest texts by =
    let t = texts last greatest.0 in
    let e = by.some last t.0 refl t.1 in
    record {
      whole = omega (arith, e);
      some = omega (arith, e);
      behind = λ at text h k. omega (arith, e, ends_last s at last text t.0 (greatest.1 at h) k t.1);
      least = λ m w l b. omega (arith, e, b last t.0 greatest.0 t.1);
    }
