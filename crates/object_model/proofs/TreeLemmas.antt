-- What edits leave of a tree.
use Rattle.std.proofs.Common.{◌≡◌, ◌≢◌, Bool, true, false, cond, List, [], ◌∷◌, Option, Some, None, Ok, Err, ok_or, refl, sym, ap, inl, inr, ◌⊎◌}
use Rattle.std.proofs.lemmas.Slice.Eq.{bytes_eq-Decides}
use Rattle.object_model.specs.declared.answer.Code.TheVariants.{Absent}
use Rattle.object_model.specs.Tree.{Tree, Group, Leaf, Links, Empty, Link, Name, find, walk, edit, replace, insert, same_name, name_lt, ◌>>=◌}

pub same_or_not : (m n : Name) → (same_name m n ≡ true) × (m ≡ n) ⊎ (same_name m n ≡ false) × (m ≢ n)
same_or_not m n = go (same_name m n) refl
  where
    go : (b : Bool) → same_name m n ≡ b → (same_name m n ≡ true) × (m ≡ n) ⊎ (same_name m n ≡ false) × (m ≢ n)
    go true is = inl (is, (bytes_eq-Decides m n).0 is)
    go false is = inr (is, λ same. let yes : same_name m n ≡ true = (bytes_eq-Decides m n).1 same in cc)

same_self : (n : Name) → same_name n n ≡ true
same_self n = (bytes_eq-Decides n n).1 refl

-- ---- what is found

pub find-replace_same : {G L : Type 0} (ls : Links G L) (n : Name) (f : Tree G L → Tree G L) (u : Tree G L) → find ls n ≡ Some u → find (replace ls n f) n ≡ Some (f u)
find-replace_same Empty n f u h = cc
find-replace_same (Link m t rest) n f u h = elim (same_or_not m n) [
  | inl same ↦
      let is : Some t ≡ Some u = rw same.0 at h in
      let here : t ≡ u = cc in
      rw same.0 (rw same.0 (ap (λ x. Some (f x)) here))
  | inr other ↦
      let is : find rest n ≡ Some u = rw other.0 at h in
      rw other.0 (rw other.0 (find-replace_same rest n f u is))
]

pub find-insert_same : {G L : Type 0} (ls : Links G L) (n : Name) (u : Tree G L) → find ls n ≡ None → find (insert ls n u) n ≡ Some u
find-insert_same Empty n u h = rw (same_self n) refl
find-insert_same (Link m t rest) n u h = go (name_lt n m) (same_or_not m n) (find-insert_same rest n u)
  where
    go : (b : Bool) → (same_name m n ≡ true) × (m ≡ n) ⊎ (same_name m n ≡ false) × (m ≢ n) → (find rest n ≡ None → find (insert rest n u) n ≡ Some u)
        → find (cond b (Link n u (Link m t rest)) (Link m t (insert rest n u))) n ≡ Some u
    go true _ later = rw (same_self n) refl
    go false (inl same) later = let is : Some t ≡ None = rw same.0 at h in cc
    go false (inr other) later = let is : find rest n ≡ None = rw other.0 at h in rw other.0 (later is)

pub find-insert_other : {G L : Type 0} (ls : Links G L) (n q : Name) (u : Tree G L) → q ≢ n → find (insert ls n u) q ≡ find ls q
find-insert_other Empty n q u apart = elim (same_or_not n q) [
  | inl same ↦ absurd (apart (sym same.1))
  | inr other ↦ rw other.0 refl
]
find-insert_other (Link m t rest) n q u apart = go (name_lt n m) (same_or_not n q) (same_or_not m q) (find-insert_other rest n q u apart)
  where
    go : (b : Bool) → (same_name n q ≡ true) × (n ≡ q) ⊎ (same_name n q ≡ false) × (n ≢ q) → (same_name m q ≡ true) × (m ≡ q) ⊎ (same_name m q ≡ false) × (m ≢ q)
        → find (insert rest n u) q ≡ find rest q → find (cond b (Link n u (Link m t rest)) (Link m t (insert rest n u))) q ≡ find (Link m t rest) q
    go b (inl same) _ later = absurd (apart (sym same.1))
    go true (inr other) _ later = rw other.0 refl
    go false (inr other) (inl here) later = rw here.0 refl
    go false (inr other) (inr there) later = rw there.0 later

-- what a path leads to, after an edit there
pub walk-edit : {G L : Type 0} (p : List Name) (f : Tree G L → Tree G L) (t u : Tree G L) → walk t p ≡ Ok u → walk (edit p f t) p ≡ Ok (f u)
walk-edit [] f t u h = let is : t ≡ u = cc in ap (λ x. Ok (f x)) is
walk-edit (n ∷ ns) f (Leaf l) u h = cc
walk-edit {G = G} {L = L} (n ∷ ns) f (Group g ls) u h = go (find ls n) refl (walk-edit ns f)
  where
    go : (o : Option (Tree G L)) → find ls n ≡ o → ((x v : Tree G L) → walk x ns ≡ Ok v → walk (edit ns f x) ns ≡ Ok (f v)) → walk (edit (n ∷ ns) f (Group g ls)) (n ∷ ns) ≡ Ok (f u)
    go None is later = let none : (ok_or (find ls n) Absent >>= λ x. walk x ns) ≡ Err Absent = rw is refl in cc
    go (Some x) is later =
        let next : walk x ns ≡ Ok u = rw is at h in
        rw (find-replace_same ls n (edit ns f) x is) (later x u next)
