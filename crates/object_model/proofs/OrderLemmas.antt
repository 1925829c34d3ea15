-- The names of each group stay in order.
use Rattle.std.proofs.Common.{◌≡◌, ◌≢◌, Bool, true, false, cond, List, [], ◌∷◌, ◌++◌, Some, None, Ok, refl, sym, ◌∙◌, ap, subst, inl, inr, ◌⊎◌}
use Rattle.std.specs.declared.cmp.Ordering.{Ordering}
use Rattle.std.specs.declared.cmp.Ordering.TheVariants.{Less, Equal, Greater}
use Rattle.std.specs.Ordering.{is_lt, is_eq, nat_cmp, ordering_reverse}
use Rattle.std.specs.Cmp.Lexicographic.{slice_cmp}
use Rattle.std.specs.Str.{bytes_eq}
use Rattle.std.proofs.lemmas.Cmp.{nat_list_cmp_total}
use Rattle.std.proofs.lemmas.Map.Text.{is_eq-slice_cmp}
use Rattle.std.proofs.lemmas.Slice.Eq.{bytes_eq-Decides}
use Rattle.object_model.specs.Tree.{Tree, Group, Leaf, Links, Empty, Link, Name, names, find, walk, edit, replace, insert, remove, relink, same_name, name_lt, ComesFirst, AreOrdered, AreOrderedBelow, IsOrdered}
use Rattle.object_model.proofs.TreeLemmas.{same_or_not}

pub less_is : (o : Ordering) → is_lt o ≡ true → o ≡ Less
less_is Less h = refl
less_is Equal h = cc
less_is Greater h = cc

pub lt_trans : (a b c : Name) → name_lt a b ≡ true → name_lt b c ≡ true → name_lt a c ≡ true
lt_trans a b c h k = ap is_lt (nat_list_cmp_total.trans a b c (less_is _ h) (less_is _ k))

-- of two names that differ one comes before the other
pub lt_other : (n m : Name) → name_lt n m ≡ false → m ≢ n → name_lt m n ≡ true
lt_other n m h apart = go (slice_cmp nat_cmp n m) refl
  where
    go : (o : Ordering) → slice_cmp nat_cmp n m ≡ o → name_lt m n ≡ true
    go Less is = let yes : name_lt n m ≡ true = ap is_lt is in cc
    go Equal is =
        let yes : bytes_eq n m ≡ true = sym (is_eq-slice_cmp n m) ∙ ap is_eq is in
        absurd (apart (sym ((bytes_eq-Decides n m).0 yes)))
    go Greater is = ap is_lt (nat_list_cmp_total.antisymm m n ∙ ap ordering_reverse is)

first-insert : {G L : Type 0} (k : Name) (ls : Links G L) (n : Name) (u : Tree G L) → ComesFirst k (names ls) → name_lt k n ≡ true → ComesFirst k (names (insert ls n u))
first-insert k Empty n u first lt = lt
first-insert {G} {L} k (Link m t rest) n u first lt = go (name_lt n m)
  where
    go : (b : Bool) → ComesFirst k (names (cond b (Link n u (Link m t rest)) (Link m t (insert rest n u))))
    go true = lt
    go false = first

pub ordered-insert : {G L : Type 0} (ls : Links G L) (n : Name) (u : Tree G L) → AreOrdered (names ls) → find ls n ≡ None → AreOrdered (names (insert ls n u))
ordered-insert Empty n u o h = (tt, tt)
ordered-insert {G} {L} (Link m t rest) n u o h = go (name_lt n m) refl (same_or_not m n) (ordered-insert rest n u o.1)
  where
    go : (b : Bool) → name_lt n m ≡ b → (same_name m n ≡ true) × (m ≡ n) ⊎ (same_name m n ≡ false) × (m ≢ n) → (find rest n ≡ None → AreOrdered (names (insert rest n u)))
        → AreOrdered (names (cond b (Link n u (Link m t rest)) (Link m t (insert rest n u))))
    go true is _ later = (is, o)
    go false is (inl same) later = let found : Some t ≡ None = rw same.0 at h in cc
    go false is (inr other) later =
        let none : find rest n ≡ None = rw other.0 at h in
        (first-insert m rest n u o.0 (lt_other n m is other.1), later none)

below-insert : {G L : Type 0} (ls : Links G L) (n : Name) (u : Tree G L) → AreOrderedBelow ls → IsOrdered u → AreOrderedBelow (insert ls n u)
below-insert Empty n u o new = (new, tt)
below-insert {G} {L} (Link m t rest) n u o new = go (name_lt n m) (below-insert rest n u o.1 new)
  where
    go : (b : Bool) → AreOrderedBelow (insert rest n u) → AreOrderedBelow (cond b (Link n u (Link m t rest)) (Link m t (insert rest n u)))
    go true later = (new, o)
    go false later = (o.0, later)

first-first : (k m : Name) (ns : List Name) → name_lt k m ≡ true → ComesFirst m ns → ComesFirst k ns
first-first k m [] lt first = tt
first-first k m (n ∷ ns) lt first = lt_trans k m n lt first

first-remove : {G L : Type 0} (k : Name) (ls : Links G L) (n : Name) → ComesFirst k (names ls) → AreOrdered (names ls) → ComesFirst k (names (remove ls n))
first-remove k Empty n first o = tt
first-remove {G} {L} k (Link m t rest) n first o = go (same_name m n)
  where
    go : (b : Bool) → ComesFirst k (names (cond b rest (Link m t (remove rest n))))
    go true = first-first k m (names rest) first o.0
    go false = first

pub ordered-remove : {G L : Type 0} (ls : Links G L) (n : Name) → AreOrdered (names ls) → AreOrdered (names (remove ls n))
ordered-remove Empty n o = tt
ordered-remove {G} {L} (Link m t rest) n o = go (same_name m n) (ordered-remove rest n o.1)
  where
    go : (b : Bool) → AreOrdered (names (remove rest n)) → AreOrdered (names (cond b rest (Link m t (remove rest n))))
    go true later = o.1
    go false later = (first-remove m rest n o.0 o.1, later)

below-remove : {G L : Type 0} (ls : Links G L) (n : Name) → AreOrderedBelow ls → AreOrderedBelow (remove ls n)
below-remove Empty n o = tt
below-remove {G} {L} (Link m t rest) n o = go (same_name m n) (below-remove rest n o.1)
  where
    go : (b : Bool) → AreOrderedBelow (remove rest n) → AreOrderedBelow (cond b rest (Link m t (remove rest n)))
    go true later = o.1
    go false later = (o.0, later)

names-replace : {G L : Type 0} (ls : Links G L) (n : Name) (f : Tree G L → Tree G L) → names (replace ls n f) ≡ names ls
names-replace Empty n f = refl
names-replace {G} {L} (Link m t rest) n f = go (same_name m n) (names-replace rest n f)
  where
    go : (b : Bool) → names (replace rest n f) ≡ names rest → names (cond b (Link m (f t) rest) (Link m t (replace rest n f))) ≡ m ∷ names rest
    go true later = refl
    go false later = ap (λ (l : List Name). m ∷ l) later

below-replace : {G L : Type 0} (ls : Links G L) (n : Name) (f : Tree G L → Tree G L) → ((t : Tree G L) → find ls n ≡ Some t → IsOrdered t → IsOrdered (f t)) → AreOrderedBelow ls → AreOrderedBelow (replace ls n f)
below-replace Empty n f keeps o = tt
below-replace {G} {L} (Link m t rest) n f keeps o = go (same_name m n) refl (below-replace rest n f)
  where
    go : (b : Bool) → same_name m n ≡ b → (((u : Tree G L) → find rest n ≡ Some u → IsOrdered u → IsOrdered (f u)) → AreOrderedBelow rest → AreOrderedBelow (replace rest n f))
        → AreOrderedBelow (cond b (Link m (f t) rest) (Link m t (replace rest n f)))
    go true is later = (keeps t (rw is refl) o.0, o.1)
    go false is later = (o.0, later (λ u found. keeps u (rw is found)) o.1)

-- an edit that keeps order at the end of the path keeps it everywhere
pub ordered-edit : {G L : Type 0} (p : List Name) (f : Tree G L → Tree G L) (t : Tree G L) → ((u : Tree G L) → walk t p ≡ Ok u → IsOrdered u → IsOrdered (f u)) → IsOrdered t → IsOrdered (edit p f t)
ordered-edit [] f t keeps o = keeps t refl o
ordered-edit (n ∷ ns) f (Leaf l) keeps o = tt
ordered-edit (n ∷ ns) f (Group g ls) keeps o = (
  subst AreOrdered (sym (names-replace ls n (edit ns f))) o.0,
  below-replace ls n (edit ns f) (λ u found. ordered-edit ns f u (λ v leads. keeps v (rw found leads))) o.1,
)

pub ordered-add : {G L : Type 0} (n : Name) (new t : Tree G L) (g : G) (ls : Links G L) → t ≡ Group g ls → find ls n ≡ None → IsOrdered new → IsOrdered t → IsOrdered (relink (λ old. insert old n new) t)
ordered-add n new t g ls is none fresh o =
    let o' = subst IsOrdered is o in
    subst (λ u. IsOrdered (relink (λ old. insert old n new) u)) (sym is) (ordered-insert ls n new o'.0 none, below-insert ls n new o'.1 fresh)

pub ordered-remove_link : {G L : Type 0} (n : Name) (t : Tree G L) → IsOrdered t → IsOrdered (relink (λ ls. remove ls n) t)
ordered-remove_link n (Group g ls) o = (ordered-remove ls n o.0, below-remove ls n o.1)
ordered-remove_link n (Leaf l) o = tt

-- names that ascend, without those behind
pub ordered_front : (ms ns : List Name) → AreOrdered (ms ++ ns) → AreOrdered ms
ordered_front [] ns h = tt
ordered_front (m ∷ []) ns h = (tt, tt)
ordered_front (m ∷ k ∷ ms) ns h = (h.0, ordered_front (k ∷ ms) ns h.1)
