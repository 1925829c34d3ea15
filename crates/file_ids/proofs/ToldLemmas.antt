-- What each step of the ids is to a store that tells them.
use Rattle.std.proofs.Common.{◌≡◌, ◌≢◌, ℕ, zero, suc, ◌+◌, ◌<◌, ◌≤◌, Bool, false, IsTrue, Option, Some, None, List, [], ◌∷◌, ◌++◌, length, get_or, set, refl, sym, ◌∙◌, ap, arith, inl, inr, length-append, get_or-set_other, get_or-set_same}
use Rattle.std.proofs.lemmas.Bool.{cases_lt, cases_eq, false≢true}
use Rattle.std.proofs.lemmas.Bool.Decides.{nat_tests}
use Rattle.std.proofs.lemmas.List.{get_or_past}
use Rattle.std.proofs.Math.ListN.{get_or-append}
use Rattle.std.proofs.Math.Seq.{get_or-append_seam}
use Rattle.std.proofs.lemmas.List.FromFn.{length-range_with_len, get_or-range_with_len}
use Rattle.std.specs.List.{range_with_len}
use Rattle.outside.specs.Causes.{Rose}
use Rattle.outside.specs.Files.{Files}
use Rattle.outside.specs.Store.{Calls, Gives, SameIds, AreIds}
use Rattle.file_ids.specs.Ids.{Ids, AreSound, Counts, place_of, one_more, struck, struck_own, added, counts_of, told}
use Rattle.file_ids.proofs.PlaceLemmas.{last_default, placed}

pub one_more-later : (n : ℕ) → n ≤ one_more n
one_more-later n = grind (arith, nat_tests)

pub one_more-rose : (n : ℕ) → Rose n (one_more n)
one_more-rose n = grind (arith, nat_tests)

pub calls_told : (tells : Bool) (own : Option ℕ) (Failed : Type 0) (Changed : List ℕ → Type 0) (a b : Ids) (m n : ℕ) (honest : Bool) (f g : Files)
    → Counts own Failed a b → m ≤ n → (IsTrue tells → (q : List ℕ) → (Changed q → ⊥) → g q ≡ f q)
    → Calls tells own Failed Changed (told a m honest f) (told b n honest g)
unfolding told
calls_told tells own Failed Changed a b m n honest f g counts time others = record {
  later = counts.later;
  failed = counts.failed;
  calm = counts.calm;
  counts = counts.counts;
  moment = time;
  honest = refl;
  others = others;
}

-- the same of a fault that is answered in other words
pub counts_as : (own : Option ℕ) (Failed Fault : Type 0) (a b : Ids) → Counts own Failed a b → (Fault → Failed) → (Failed → Fault)
    → Counts own Fault a b
counts_as own Failed Fault a b counts same back = record {
  later = counts.later;
  failed = λ f. counts.failed (same f);
  calm = λ none. counts.calm (λ f. none (back f));
  counts = counts.counts;
}

pub counts_same : (own : Option ℕ) (Failed : Type 0) (a : Ids) → (Failed → ⊥) → Counts own Failed a a
counts_same own Failed a fine = record {
  later = λ k. omega arith;
  failed = λ f. absurd (fine f);
  calm = λ none. refl;
  counts = λ k other. refl;
}

pub counts_struck : (i : ℕ) (Failed : Type 0) (a : Ids) → Failed → i < length a.faults → Counts (Some i) Failed a (struck i a)
counts_struck i Failed a fault lt = record {
  later = later;
  failed = λ f. rose;
  calm = λ none. absurd (none fault);
  counts = others;
}
  where
    rose : Rose (get_or a.faults i 0) (get_or (set a.faults i (one_more (get_or a.faults i 0))) i 0)
    rose = rw get_or-set_same (one_more-rose (get_or a.faults i 0))

    later : (k : Option ℕ) → counts_of a.own a.faults k ≤ counts_of a.own (set a.faults i (one_more (get_or a.faults i 0))) k
    later None = omega arith
    later (Some k) = elim (cases_eq k i) [
      | inl same ↦ rw (same, get_or-set_same) (one_more-later (get_or a.faults i 0))
      | inr other ↦ rw get_or-set_other (omega arith)
    ]

    others : (k : Option ℕ) → k ≢ Some i → counts_of a.own (set a.faults i (one_more (get_or a.faults i 0))) k ≡ counts_of a.own a.faults k
    others None other = refl
    others (Some k) other = let apart : k ≢ i = λ same. other (ap Some same) in get_or-set_other a.faults i k (one_more (get_or a.faults i 0)) 0 apart

pub counts_struck_own : (Failed : Type 0) (a : Ids) → Failed → Counts None Failed a (struck_own a)
counts_struck_own Failed a fault = record {
  later = later;
  failed = λ f. one_more-rose a.own;
  calm = λ none. absurd (none fault);
  counts = others;
}
  where
    later : (k : Option ℕ) → counts_of a.own a.faults k ≤ counts_of (one_more a.own) a.faults k
    later None = one_more-later a.own
    later (Some k) = omega arith

    others : (k : Option ℕ) → k ≢ None → counts_of (one_more a.own) a.faults k ≡ counts_of a.own a.faults k
    others None other = absurd (other refl)
    others (Some k) other = refl

pub counts_added : (Failed : Type 0) (name : List ℕ) (a : Ids) → (Failed → ⊥) → Counts None Failed a (added name a)
counts_added Failed name a fine = record {
  later = λ k. omega (arith, same k);
  failed = λ f. absurd (fine f);
  calm = λ none. refl;
  counts = λ k other. same k;
}
  where
    same : (k : Option ℕ) → counts_of a.own (a.faults ++ 0 ∷ []) k ≡ counts_of a.own a.faults k
    same None = refl
    same (Some k) = last_default a.faults k 0

-- an id that has a name is one of them
pub within : (a : Ids) (i m : ℕ) (honest : Bool) (f : Files) → 0 < length ((told a m honest f).names i) → i < length a.names
unfolding told
within a i m honest f given = elim (cases_lt i (length a.names)) [
  | inl lt ↦ lt
  | inr past ↦ let none : length (get_or a.names i []) ≡ 0 = ap length (get_or_past a.names i [] past) in absurd (omega arith)
]

pub gives_again : (name : List ℕ) (i : ℕ) (a : Ids) (m n : ℕ) (honest : Bool) (f g : Files) → AreSound a → 0 < length name → i < length a.names → place_of name a.names ≡ i
    → Gives name i (told a m honest f) (told a n honest g)
unfolding told
gives_again name i a m n honest f g sound some lt place = record {
  named = named;
  again = λ k is.
      let given : 0 < length (get_or a.names k []) = omega (arith, ap length is) in
      sym (sound.distinct k (within a k m honest f given)) ∙ ap (λ (n : List ℕ). place_of n a.names) is ∙ place;
  others = λ k other. refl;
  was = λ given. named;
  ids = inl refl;
}
  where
    named : get_or a.names i [] ≡ name
    named = ap (λ (k : ℕ). get_or a.names k []) (sym place) ∙ placed a.names name (omega arith)

range_with_len-more : (at n : ℕ) → range_with_len at (n + 1) ≡ range_with_len at n ++ (at + n) ∷ []
range_with_len-more at zero = let e : at + 0 ≡ at = omega arith in rw e refl
range_with_len-more at (suc n) =
    let one : suc n + 1 ≡ suc (n + 1) = omega arith in
    let e : at + 1 + n ≡ at + suc n = omega arith in
    rw (one, range_with_len-more (at + 1) n, e) refl

pub gives_added : (name : List ℕ) (a : Ids) (m n : ℕ) (honest : Bool) (f g : Files) → AreSound a → 0 < length name → place_of name a.names ≡ length a.names
    → Gives name (length a.names) (told a m honest f) (told (added name a) n honest g)
unfolding told
gives_added name a m n honest f g sound some absent = record {
  named = get_or-append_seam a.names name [] [];
  again = λ k is.
      let given : 0 < length (get_or a.names k []) = omega (arith, ap length is) in
      sym (sound.distinct k (within a k m honest f given)) ∙ ap (λ (n : List ℕ). place_of n a.names) is ∙ absent;
  others = λ k other. elim (cases_lt k (length a.names)) [
    | inl lt ↦ get_or-append a.names (name ∷ []) [] k lt
    | inr past ↦ get_or_past (a.names ++ name ∷ []) k [] (omega (arith, length-append a.names (name ∷ []))) ∙ sym (get_or_past a.names k [] past)
  ];
  was = λ given. absurd (omega (arith, within a (length a.names) m honest f given));
  ids = let e : length (a.names ++ name ∷ []) ≡ length a.names + 1 = omega (arith, length-append a.names (name ∷ [])) in
      let zero_more : 0 + length a.names ≡ length a.names = omega arith in
      inr (rw (e, range_with_len-more 0 (length a.names), zero_more) refl);
}

pub same_ids : (a b : Ids) (m n : ℕ) (h k : Bool) (f g : Files) → b.names ≡ a.names → SameIds (told a m h f) (told b n k g)
unfolding told
same_ids a b m n h k f g is = record {
  names = λ j i. get_or (is j) i [];
  ids = ap (λ (l : List (List ℕ)). range_with_len 0 (length l)) is;
}

pub ids_stand : (a : Ids) (m : ℕ) (honest : Bool) (f : Files) → AreSound a → AreIds (told a m honest f)
unfolding told
ids_stand a m honest f sound = record {
  differ = λ j k jlt klt is.
      let j' : j < length a.names = omega (arith, length-range_with_len 0 (length a.names)) in
      let k' : k < length a.names = omega (arith, length-range_with_len 0 (length a.names)) in
      omega (arith, here j j', here k k');
  named = λ k lt.
      let k' : k < length a.names = omega (arith, length-range_with_len 0 (length a.names)) in
      rw (here k k') (sound.named k k');
  others = λ i none.
      let past : length a.names ≤ i = elim (cases_lt i (length a.names)) [
        | inl lt ↦ absurd (none i (rw length-range_with_len lt) (here i lt))
        | inr past ↦ past
      ] in
      (get_or_past a.names i [] past, get_or_past a.faults i 0 (omega (arith, sound.faults)));
}
  where
    here : (k : ℕ) → k < length a.names → get_or (range_with_len 0 (length a.names)) k 0 ≡ k
    here k lt = let e : 0 + k ≡ k = omega arith in get_or-range_with_len 0 (length a.names) k 0 lt ∙ e

-- the same for a store that tells nothing of its files
pub calls_untold : (own : Option ℕ) (Failed : Type 0) (Changed : List ℕ → Type 0) (a b : Ids) (m n : ℕ) (honest : Bool) (f g : Files)
    → Counts own Failed a b → m ≤ n → Calls false own Failed Changed (told a m honest f) (told b n honest g)
calls_untold own Failed Changed a b m n honest f g counts time = calls_told false own Failed Changed a b m n honest f g counts time (λ told. absurd (false≢true told))

pub names_told : (a b : Ids) (m n : ℕ) (h k : Bool) (f g : Files) → b.names ≡ a.names → (told b n k g).names ≡ (told a m h f).names
names_told a b m n h k f g is = (same_ids a b m n h k f g is).names

pub ids_told : (a b : Ids) (m n : ℕ) (h k : Bool) (f g : Files) → b.names ≡ a.names → (told b n k g).ids ≡ (told a m h f).ids
ids_told a b m n h k f g is = (same_ids a b m n h k f g is).ids

pub ruleset untold_steps = (calls_untold, names_told, ids_told, within)
