-- Where a name stands among links that ascend, by halving.
use Rattle.std.proofs.Common.{◌≡◌, ℕ, zero, suc, ◌+◌, ◌-◌, ◌<◌, ◌≤◌, Bool, true, false, List, [], ◌∷◌, length, take}
use Rattle.std.proofs.Common.{drop, get_or, length-drop, length-take, refl, sym, ◌∙◌, ap, arith, inl, inr}
use Rattle.std.proofs.lemmas.List.{get_or-take, get_or-drop}
use Rattle.std.proofs.lemmas.Bool.{cases_lt}
use Rattle.node_codec.specs.declared.snod.SnodEntry.{SnodEntry}
use Rattle.object_model.specs.Tree.{Name, name_lt, AreOrdered}
use Rattle.object_model.proofs.OrderLemmas.{lt_trans}
use Rattle.file_model.specs.Groups.{Found, HasText, AreLinks}
use Rattle.file_model.specs.RefusedGroups.{names_of}
use Rattle.entry_list.specs.Places.{IsPlace}

-- the name of the k-th link
abbrev pub name_at : List Found → Found → ℕ → Name
name_at fs d k = (get_or fs k d).name

contrary : (b : Bool) → (b ≡ true → ⊥) → b ≡ false
contrary true h = absurd (h refl)
contrary false h = refl

-- a name further on comes after the first
first_comes : (f : Found) (fs : List Found) (k : ℕ) (d : Found) → AreOrdered (names_of (f ∷ fs)) → k < length fs
    → name_lt f.name (name_at fs d k) ≡ true
first_comes f [] k d o lt = absurd (omega (arith, lt))
first_comes f (g ∷ fs) zero d o lt = o.0
first_comes f (g ∷ fs) (suc k) d o lt =
    lt_trans f.name g.name (name_at fs d k) o.0 (first_comes g fs k d o.1 (omega (arith, lt)))

-- of two links the one further on has the later name
pub further_on : (fs : List Found) (i k : ℕ) (d : Found) → AreOrdered (names_of fs) → i < k → k < length fs
    → name_lt (name_at fs d i) (name_at fs d k) ≡ true
further_on [] i k d o lt within = absurd (omega (arith, within))
further_on (f ∷ fs) i zero d o lt within = absurd (omega (arith, lt))
further_on (f ∷ fs) zero (suc k) d o lt within = first_comes f fs k d o (omega (arith, within))
further_on (f ∷ fs) (suc i) (suc k) d o lt within =
    further_on fs i k d o.1 (omega (arith, lt)) (omega (arith, within))

pub links_length : (s : List ℕ) (es : List SnodEntry) (fs : List Found) → AreLinks s es fs → length es ≡ length fs
links_length s [] [] h = refl
links_length s [] (f ∷ fs) h = absurd h
links_length s (e ∷ es) [] h = absurd h
links_length s (e ∷ es) (f ∷ fs) h = ap suc (links_length s es fs h.2)

-- the name of the k-th link stands where its entry says
pub name_stands : (s : List ℕ) (es : List SnodEntry) (fs : List Found) (k : ℕ) (e : SnodEntry) (d : Found)
    → AreLinks s es fs → k < length es → HasText s (get_or es k e).name_at (name_at fs d k)
name_stands s [] fs k e d h lt = absurd (omega (arith, lt))
name_stands s (e' ∷ es) [] k e d h lt = absurd h
name_stands s (e' ∷ es) (f ∷ fs) zero e d h lt = h.0
name_stands s (e' ∷ es) (f ∷ fs) (suc k) e d h lt = name_stands s es fs k e d h.2 (omega (arith, lt))

-- The names before the one index come before a name, and those from the other on don't.
pub record IsBetween (fs : List Found) (name : Name) (low high : ℕ) : Type 0 where
  pub before : (k : ℕ) (d : Found) → k < low → name_lt (name_at fs d k) name ≡ true
  pub behind : (k : ℕ) (d : Found) → high ≤ k → k < length fs → name_lt (name_at fs d k) name ≡ false

module _ (fs : List Found) (name : Name) (o : AreOrdered (names_of fs)) (low high middle : ℕ)
    (b : IsBetween fs name low high) (within : middle < length fs) where
  pub right : ((d : Found) → name_lt (name_at fs d middle) name ≡ true) → IsBetween fs name (middle + 1) high
  right h = record {
    before = λ k d lt. elim (cases_lt k middle) [
      | inl less ↦ lt_trans (name_at fs d k) (name_at fs d middle) name
          (further_on fs k middle d o less within) (h d)
      | inr more ↦
          let same : middle ≡ k = omega (arith, lt, more) in
          (λ j. name_lt (name_at fs d (sym same j)) name) ∙ h d
    ];
    behind = b.behind;
  }

  pub left : ((d : Found) → name_lt (name_at fs d middle) name ≡ false) → IsBetween fs name low middle
  left h = record {
    before = b.before;
    behind = λ k d ge lt. elim (cases_lt middle k) [
      | inl less ↦ contrary (name_lt (name_at fs d k) name) (λ is.
          let yes_too : name_lt (name_at fs d middle) name ≡ true =
          lt_trans (name_at fs d middle) (name_at fs d k) name (further_on fs middle k d o less lt) is in
          let no = h d in
          cc)
      | inr more ↦
          let same : middle ≡ k = omega (arith, ge, more) in
          (λ j. name_lt (name_at fs d (sym same j)) name) ∙ h d
    ];
  }

-- what has been found out of a name among entries, whatever links they tell
abbrev pub Halved : List ℕ → List SnodEntry → Name → (low high : ℕ) → Type 0
Halved s es name low high = (fs : List Found) → AreLinks s es fs → AreOrdered (names_of fs)
    → IsBetween fs name low high

pub halved_none : (s : List ℕ) (es : List SnodEntry) (name : Name) → Halved s es name 0 (length es)
halved_none s es name fs h o =
    let same = links_length s es fs h in
    record {
      before = λ k d lt. absurd (omega (arith, lt));
      behind = λ k d ge lt. absurd (omega (arith, same, ge, lt));
    }

-- one step, by what the entry in the middle tells
module _ (s : List ℕ) (es : List SnodEntry) (name : Name) (low high middle : ℕ) (found : Halved s es name low high)
    (within : middle < length es) (e : SnodEntry) (r : Bool)
    (told : (text : List ℕ) → HasText s (get_or es middle e).name_at text → r ≡ name_lt text name) where
  is_told : (fs : List Found) → AreLinks s es fs → (d : Found) → name_lt (name_at fs d middle) name ≡ r
  is_told fs h d = sym (told (name_at fs d middle) (name_stands s es fs middle e d h within))

  pub went_right : r ≡ true → Halved s es name (middle + 1) high
  went_right is fs h o =
      let same = links_length s es fs h in
      right fs name o low high middle (found fs h o) (omega (arith, same, within)) (λ d. is_told fs h d ∙ is)

  pub went_left : r ≡ false → Halved s es name low middle
  went_left is fs h o =
      let same = links_length s es fs h in
      left fs name o low high middle (found fs h o) (omega (arith, same, within)) (λ d. is_told fs h d ∙ is)

-- where both meet is the place
pub place_is : (fs : List Found) (name : Name) (low high : ℕ) → low ≤ high → high ≤ low → high ≤ length fs
    → IsBetween fs name low high → IsPlace fs name low
place_is fs name low high le ge within b = record {
  within = omega (arith, le, within);
  before = λ k d lt.
      let less : k < low = omega (arith, lt, length-take low fs) in
      ap (λ (f : Found). name_lt f.name name) (get_or-take low fs k d less) ∙ b.before k d less;
  behind = λ k d lt.
      let less : low + k < length fs = omega (arith, lt, length-drop low fs) in
      ap (λ (f : Found). name_lt f.name name) (get_or-drop low fs k d)
      ∙ b.behind (low + k) d (omega (arith, ge)) less;
}

-- and a place is where both meet
pub place_between : (fs : List Found) (name : Name) (n : ℕ) → IsPlace fs name n → IsBetween fs name n n
place_between fs name n p = record {
  before = λ k d lt.
      let less : k < length (take n fs) = omega (arith, lt, p.within, length-take n fs) in
      sym (ap (λ (f : Found). name_lt f.name name) (get_or-take n fs k d lt)) ∙ p.before k d less;
  behind = λ k d ge lt.
      let less : k - n < length (drop n fs) = omega (arith, ge, lt, length-drop n fs) in
      let same : n + (k - n) ≡ k = omega (arith, ge) in
      (λ j. name_lt (name_at fs d (sym same j)) name)
      ∙ sym (ap (λ (f : Found). name_lt f.name name) (get_or-drop n fs (k - n) d))
      ∙ p.behind (k - n) d less;
}
