-- What each step of what a store holds is to the outside.
use Rattle.std.proofs.Common.{◌≡◌, ℕ, ◌<◌, true, false, Some, None, Result, Ok, Err, OnOk, OnErr, List, [], length, get_or, set, refl, sym, ◌∙◌, ap, subst, arith, inl, inr, get_or-set_other, get_or-set_same}
use Rattle.std.proofs.lemmas.Bool.{cases_lt, false≢true}
use Rattle.std.specs.Prelude.{IsErr}
use Rattle.outside.specs.Store.{Calls, Gives, SameIds}
use Rattle.file_ids.specs.Ids.{place_of, told}
use Rattle.file_ids.proofs.PlaceLemmas.{placed, place_of-le}
use Rattle.file_ids.proofs.ToldLemmas.{calls_told, counts_same, counts_struck, counts_struck_own, counts_added, gives_again, gives_added, names_told, ids_told, one_more-later}
use Rattle.mem_store.specs.declared.table.Op.{Op}
use Rattle.mem_store.specs.Held.{Held, IsSound, view, file_of, content, counted, after_fault, put, asked, with_new, after_file_fault, Answers, Looks, Changes}
use Rattle.mem_store.proofs.FilesLemmas.{file_empty}

pub names_same : (a b : Held) → b.ids.names ≡ a.ids.names → (view b).names ≡ (view a).names
names_same a b is = names_told _ _ _ _ _ _ _ _ is

pub ids_same : (a b : Held) → b.ids.names ≡ a.ids.names → (view b).ids ≡ (view a).ids
ids_same a b is = ids_told _ _ _ _ _ _ _ _ is

pub file_at : (i : ℕ) (h : Held) → i < length h.ids.names → IsSound h → (view h).files ((view h).names i) ≡ content i h
unfolding told
file_at i h lt sound = rw (sound.ids.distinct i lt) refl

-- other bytes in one file change no other
put_others : (i : ℕ) (x : List ℕ) (h : Held) → i < length h.ids.names → (q : List ℕ) → (q ≡ (view h).names i → ⊥)
    → file_of h.ids.names (set h.contents i x) q ≡ file_of h.ids.names h.contents q
unfolding told
put_others i x h lt q other = get_or-set_other h.contents i (place_of q h.ids.names) x [] (λ here. other (named here))
  where
    named : place_of q h.ids.names ≡ i → q ≡ get_or h.ids.names i []
    named here = sym (placed h.ids.names q (omega arith)) ∙ ap (λ (k : ℕ). get_or h.ids.names k []) here

put_here : (op : Op) (i w : ℕ) (x : List ℕ) (h : Held) → i < length h.ids.names → IsSound h → (view (record (put i x (counted op i h)) { written = w })).files ((view h).names i) ≡ x
unfolding told
put_here op i w x h lt sound =
    let fits : i < length h.contents = omega (arith, sound.each) in
    let place : place_of (get_or h.ids.names i []) h.ids.names ≡ i = sound.ids.distinct i lt in
    rw (place, get_or-set_same) refl

-- a call on a file that fails
fault_call : (op : Op) (i : ℕ) (Failed : Type 0) (Changed : List ℕ → Type 0) (h : Held) → Failed → i < length h.ids.names → IsSound h → Calls true (Some i) Failed Changed (view h) (view (after_fault op i h))
fault_call op i Failed Changed h fault lt sound =
    calls_told _ _ _ _ _ _ _ _ _ _ _ (counts_struck i Failed h.ids fault (omega (arith, sound.ids.faults))) (one_more-later h.calls) (λ told q other. refl)

pub looks_call : {T E : Type 0} (op : Op) (i : ℕ) (a b : Held) (r : Result T E) → Looks op i a b r → IsSound a → i < length a.ids.names → Calls true (Some i) (IsErr r) (λ _. ⊥) (view a) (view b)
looks_call op i a b (Ok x) answers sound lt =
    subst (λ (h : Held). Calls true (Some i) (false ≡ true) (λ _. ⊥) (view a) (view h)) (sym answers.ok)
    (calls_told _ _ _ _ _ _ _ _ _ _ _ (counts_same (Some i) (false ≡ true) a.ids false≢true) (one_more-later a.calls) (λ told q other. refl))
looks_call op i a b (Err e) answers sound lt =
    subst (λ (h : Held). Calls true (Some i) (true ≡ true) (λ _. ⊥) (view a) (view h)) (sym answers.err) (fault_call op i (true ≡ true) (λ _. ⊥) a refl lt sound)

pub changes_call : {T E : Type 0} (op : Op) (i w : ℕ) (x : List ℕ) (a b : Held) (r : Result T E) → Changes op i a (record (put i x (counted op i a)) { written = w }) b r → IsSound a → i < length a.ids.names
    → Calls true (Some i) (IsErr r) (λ q. q ≡ (view a).names i) (view a) (view b)
changes_call op i w x a b (Ok y) answers sound lt =
    subst (λ (h : Held). Calls true (Some i) (false ≡ true) (λ q. q ≡ (view a).names i) (view a) (view h)) (sym answers.ok)
    (calls_told _ _ _ _ _ _ _ _ _ _ _ (counts_same (Some i) (false ≡ true) a.ids false≢true) (one_more-later a.calls) (λ told. put_others i x a lt))
changes_call op i w x a b (Err e) answers sound lt =
    subst (λ (h : Held). Calls true (Some i) (true ≡ true) (λ q. q ≡ (view a).names i) (view a) (view h)) (sym answers.err) (fault_call op i (true ≡ true) (λ q. q ≡ (view a).names i) a refl lt sound)

-- no call on a file changes a name
pub answers_names : {T E : Type 0} (F : Type 0) (op : Op) (i : ℕ) (done a b : Held) (r : Result T E) → Answers F done (after_fault op i a) b r → done.ids.names ≡ a.ids.names → b.ids.names ≡ a.ids.names
answers_names F op i done a b (Ok x) answers same = ap (λ (h : Held). h.ids.names) answers.ok ∙ same
answers_names F op i done a b (Err e) answers same = ap (λ (h : Held). h.ids.names) answers.err

-- what a change leaves in its file
pub changes_done : {T E : Type 0} (op : Op) (i w : ℕ) (x : List ℕ) (a b : Held) (r : Result T E) → Changes op i a (record (put i x (counted op i a)) { written = w }) b r → IsSound a → i < length a.ids.names
    → OnOk r ((view b).files ((view a).names i) ≡ x)
changes_done op i w x a b (Ok y) answers sound lt = ap (λ (h : Held). (view h).files ((view a).names i)) answers.ok ∙ put_here op i w x a lt sound
changes_done op i w x a b (Err e) answers sound lt = tt

fault_files : (op : Op) (i : ℕ) (a : Held) (q : List ℕ) → (view (after_fault op i a)).files q ≡ (view a).files q
unfolding told
fault_files op i a q = refl

pub changes_failed : {T E : Type 0} (op : Op) (i : ℕ) (done a b : Held) (r : Result T E) → Changes op i a done b r → (q : List ℕ) → OnErr r ((view b).files q ≡ (view a).files q)
changes_failed op i done a b (Ok y) answers q = tt
changes_failed op i done a b (Err e) answers q = ap (λ (h : Held). (view h).files q) answers.err ∙ fault_files op i a q

pub on_ok : {T E : Type 0} (f x y : List ℕ) (r : Result T E) → x ≡ y → OnOk r (f ≡ x) → OnOk r (f ≡ y)
on_ok f x y (Ok v) is same = same ∙ is
on_ok f x y (Err e) is same = tt

-- what `file` leaves
pub gives : (name : List ℕ) (i : ℕ) (a b : Held) → IsSound a → 0 < length name → i ≡ place_of name a.ids.names
    → (place_of name a.ids.names < length a.ids.names → b ≡ asked a) → (place_of name a.ids.names ≡ length a.ids.names → b ≡ with_new name [] (asked a)) → Gives name i (view a) (view b)
gives name i a b sound some place known new = elim (cases_lt (place_of name a.ids.names) (length a.ids.names)) [
  | inl lt ↦ subst (λ (h : Held). Gives name i (view a) (view h)) (sym (known lt)) (gives_again name i a.ids _ _ _ _ _ sound.ids some (omega arith) (sym place))
  | inr past ↦
      let absent : place_of name a.ids.names ≡ length a.ids.names = omega (arith, place_of-le a.ids.names name) in
      subst (λ (h : Held). Gives name i (view a) (view h)) (sym (new absent))
      (subst (λ (k : ℕ). Gives name k (view a) (view (with_new name [] (asked a)))) (sym (place ∙ absent)) (gives_added name a.ids _ _ _ _ _ sound.ids some absent))
]

asked_call : (Failed : Type 0) (h : Held) → (Failed → ⊥) → Calls true None Failed (λ _. ⊥) (view h) (view (asked h))
asked_call Failed h fine = calls_told _ _ _ _ _ _ _ _ _ _ _ (counts_same None Failed h.ids fine) (one_more-later h.calls) (λ told q other. refl)

added_call : (Failed : Type 0) (name : List ℕ) (h : Held) → (Failed → ⊥) → IsSound h → Calls true None Failed (λ _. ⊥) (view h) (view (with_new name [] (asked h)))
added_call Failed name h fine sound =
    calls_told _ _ _ _ _ _ _ _ _ _ _ (counts_added Failed name h.ids fine) (one_more-later h.calls) (λ told q other. file_empty q name h.ids.names h.contents sound.each)

pub file_call_ok : (Failed : Type 0) (name : List ℕ) (a b : Held) → (Failed → ⊥) → IsSound a
    → (place_of name a.ids.names < length a.ids.names → b ≡ asked a) → (place_of name a.ids.names ≡ length a.ids.names → b ≡ with_new name [] (asked a)) → Calls true None Failed (λ _. ⊥) (view a) (view b)
file_call_ok Failed name a b fine sound known new = elim (cases_lt (place_of name a.ids.names) (length a.ids.names)) [
  | inl lt ↦ subst (λ (h : Held). Calls true None Failed (λ _. ⊥) (view a) (view h)) (sym (known lt)) (asked_call Failed a fine)
  | inr past ↦
      let absent : place_of name a.ids.names ≡ length a.ids.names = omega (arith, place_of-le a.ids.names name) in
      subst (λ (h : Held). Calls true None Failed (λ _. ⊥) (view a) (view h)) (sym (new absent)) (added_call Failed name a fine sound)
]

pub file_call_failed : (Failed : Type 0) (a b : Held) → Failed → b ≡ after_file_fault a → Calls true None Failed (λ _. ⊥) (view a) (view b)
file_call_failed Failed a b fault is =
    subst (λ (h : Held). Calls true None Failed (λ _. ⊥) (view a) (view h)) (sym is)
    (calls_told _ _ _ _ _ _ _ _ _ _ _ (counts_struck_own Failed a.ids fault) (one_more-later a.calls) (λ told q other. refl))

pub file_call_none : (Failed : Type 0) (a b : Held) → (Failed → ⊥) → b ≡ asked a → Calls true None Failed (λ _. ⊥) (view a) (view b)
file_call_none Failed a b fine is = subst (λ (h : Held). Calls true None Failed (λ _. ⊥) (view a) (view h)) (sym is) (asked_call Failed a fine)

pub same_ids : (a b : Held) → b.ids.names ≡ a.ids.names → SameIds (view a) (view b)
same_ids a b is = record { names = names_same a b is; ids = ids_same a b is }
