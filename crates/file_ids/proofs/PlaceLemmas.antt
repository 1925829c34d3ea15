-- Where names stand in a list.
use Rattle.std.proofs.Common.{◌≡◌, ◌≢◌, ℕ, zero, suc, ◌<◌, ◌≤◌, Bool, true, false, List, [], ◌∷◌, ◌++◌, length, get_or, refl, sym, ◌∙◌, ap, arith, inl, inr, ◌⊎◌, length-append}
use Rattle.std.specs.Str.{bytes_eq}
use Rattle.std.proofs.lemmas.Slice.Eq.{bytes_eq-Decides}
use Rattle.std.proofs.lemmas.Bool.{cases_lt}
use Rattle.std.proofs.Math.ListN.{get_or-append}
use Rattle.std.proofs.Math.Seq.{get_or-append_seam}
use Rattle.file_ids.specs.Ids.{Ids, AreSound, place_of, added}

pub bytes_same : (xs ys : List ℕ) → (bytes_eq xs ys ≡ true) × (xs ≡ ys) ⊎ (bytes_eq xs ys ≡ false) × (xs ≢ ys)
bytes_same xs ys = go (bytes_eq xs ys) refl
  where
    go : (b : Bool) → bytes_eq xs ys ≡ b → (bytes_eq xs ys ≡ true) × (xs ≡ ys) ⊎ (bytes_eq xs ys ≡ false) × (xs ≢ ys)
    go true is = inl (is, (bytes_eq-Decides xs ys).0 is)
    go false is = inr (is, λ same. let yes : bytes_eq xs ys ≡ true = (bytes_eq-Decides xs ys).1 same in cc)

-- the default behind the end changes nothing
pub last_default : {A : Type 0} (xs : List A) (i : ℕ) (d : A) → get_or (xs ++ d ∷ []) i d ≡ get_or xs i d
last_default [] zero d = refl
last_default [] (suc i) d = refl
last_default (x ∷ xs) zero d = refl
last_default (x ∷ xs) (suc i) d = last_default xs i d

pub place_of-le : (ns : List (List ℕ)) (name : List ℕ) → place_of name ns ≤ length ns
place_of-le [] name = omega arith
place_of-le (n ∷ ns) name = elim (bytes_same name n) [
  | inl same ↦ rw same.0 (omega arith)
  | inr other ↦ rw other.0 (omega (arith, place_of-le ns name))
]

pub place_of-absent : (ns : List (List ℕ)) (name : List ℕ) → ((k : ℕ) → k < length ns → get_or ns k [] ≢ name) → place_of name ns ≡ length ns
place_of-absent [] name none = refl
place_of-absent (n ∷ ns) name none = elim (bytes_same name n) [
  | inl same ↦ absurd (none 0 (omega arith) (sym same.1))
  | inr other ↦ rw other.0 (ap suc (place_of-absent ns name (λ k lt. none (suc k) (omega arith))))
]

pub place_of-found : (ns : List (List ℕ)) (name : List ℕ) (i : ℕ) → i < length ns → get_or ns i [] ≡ name → ((k : ℕ) → k < i → get_or ns k [] ≢ name) → place_of name ns ≡ i
place_of-found [] name i lt is none = absurd (omega arith)
place_of-found (n ∷ ns) name zero lt is none = elim (bytes_same name n) [
  | inl same ↦ rw same.0 refl
  | inr other ↦ absurd (other.1 (sym is))
]
place_of-found (n ∷ ns) name (suc i) lt is none = elim (bytes_same name n) [
  | inl same ↦ absurd (none 0 (omega arith) (sym same.1))
  | inr other ↦ rw other.0 (ap suc (place_of-found ns name i (omega arith) is (λ k lt. none (suc k) (omega arith))))
]

-- the name that stands at its place
pub placed : (ns : List (List ℕ)) (q : List ℕ) → place_of q ns < length ns → get_or ns (place_of q ns) [] ≡ q
placed [] q lt = absurd (omega arith)
placed (n ∷ ns) q lt = elim (bytes_same q n) [
  | inl same ↦ rw same.0 (sym same.1)
  | inr other ↦ let lt' : suc (place_of q ns) < length (n ∷ ns) = rw other.0 at lt in rw other.0 (placed ns q (omega arith))
]

pub place_of-append_left : (q : List ℕ) (xs ys : List (List ℕ)) → place_of q xs < length xs → place_of q (xs ++ ys) ≡ place_of q xs
place_of-append_left q [] ys lt = absurd (omega arith)
place_of-append_left q (x ∷ xs) ys lt = elim (bytes_same q x) [
  | inl same ↦ rw same.0 refl
  | inr other ↦
      let further : suc (place_of q xs) < length (x ∷ xs) = rw other.0 at lt in
      let lt' : place_of q xs < length xs = omega arith in
      rw other.0 (ap suc (place_of-append_left q xs ys lt'))
]

pub place_of-append_new : (q : List ℕ) (xs : List (List ℕ)) → place_of q xs ≡ length xs → place_of q (xs ++ q ∷ []) ≡ length xs
place_of-append_new q [] absent = rw ((bytes_eq-Decides q q).1 refl) refl
place_of-append_new q (x ∷ xs) absent = elim (bytes_same q x) [
  | inl same ↦ let here : 0 ≡ length (x ∷ xs) = rw same.0 at absent in absurd (omega arith)
  | inr other ↦
      let further : suc (place_of q xs) ≡ length (x ∷ xs) = rw other.0 at absent in
      let absent' : place_of q xs ≡ length xs = omega arith in
      rw other.0 (ap suc (place_of-append_new q xs absent'))
]

-- a new name keeps all names apart
pub AreSound-added : (ids : Ids) (name : List ℕ) → AreSound ids → 0 < length name → place_of name ids.names ≡ length ids.names → AreSound (added name ids)
AreSound-added ids name sound some absent = record {
  distinct = λ i lt. elim (cases_lt i (length ids.names)) [
    | inl below ↦
        let is = sound.distinct i below in
        let within : place_of (get_or ids.names i []) ids.names < length ids.names = omega arith in
        rw (get_or-append ids.names (name ∷ []) [] i below) (place_of-append_left _ ids.names (name ∷ []) within ∙ is)
    | inr last ↦
        let at_end : i ≡ length ids.names = omega (arith, length-append ids.names (name ∷ [])) in
        rw (at_end, get_or-append_seam ids.names name [] []) (place_of-append_new name ids.names absent)
  ];
  named = λ i lt. elim (cases_lt i (length ids.names)) [
    | inl below ↦ rw (get_or-append ids.names (name ∷ []) [] i below) (sound.named i below)
    | inr last ↦
        let at_end : i ≡ length ids.names = omega (arith, length-append ids.names (name ∷ [])) in
        rw (at_end, get_or-append_seam ids.names name [] []) some
  ];
  faults = omega (arith, sound.faults, length-append ids.names (name ∷ []), length-append ids.faults (0 ∷ []));
}

-- the same, of lists that grew so
pub AreSound-grown : (ids : Ids) (name : List ℕ) (names : List (List ℕ)) (faults : List ℕ) → AreSound ids → 0 < length name → place_of name ids.names ≡ length ids.names
    → names ≡ ids.names ++ name ∷ [] → faults ≡ ids.faults ++ 0 ∷ [] → AreSound (record { names = names; faults = faults; own = ids.own })
AreSound-grown ids name names faults sound some absent is counts = rw (is, counts) (AreSound-added ids name sound some absent)
