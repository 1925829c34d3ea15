-- Where a name stands among links in order.
use Rattle.std.proofs.Common.{◌≡◌, ◌≢◌, ℕ, zero, suc, ◌+◌, ◌<◌, ◌≤◌, Bool, true, false, List, [], ◌∷◌, length, get_or, Some, None, refl, sym, ap, ◌∙◌, subst, inl, inr, ◌⊎◌, arith}
use Rattle.std.specs.Prelude.{insert, remove}
use Rattle.std.specs.declared.cmp.Ordering.{Ordering}
use Rattle.std.specs.declared.cmp.Ordering.TheVariants.{Less, Equal, Greater}
use Rattle.std.specs.Ordering.{is_lt, is_eq, nat_cmp, ordering_reverse}
use Rattle.std.specs.Cmp.Lexicographic.{slice_cmp}
use Rattle.std.proofs.lemmas.Cmp.{nat_list_cmp_total}
use Rattle.std.proofs.lemmas.Map.Text.{is_eq-slice_cmp}
use Rattle.std.proofs.lemmas.List.Sums.{prefix_len_is}
use Rattle.object_model.specs.Tree.{Name, name_lt, same_name, AreOrdered}
use Rattle.object_model.proofs.TreeLemmas.{same_or_not}
use Rattle.object_model.proofs.OrderLemmas.{less_is, lt_trans, lt_other}
use Rattle.tree_nodes.specs.declared.node.ChildLink.{ChildLink}
use Rattle.tree_nodes.specs.Nodes.{child_link, link_names, find_link, insert_link, remove_link, place_in}

-- a name that comes before another is not the same
pub lt_apart : (a b : Name) → name_lt a b ≡ true → a ≢ b
lt_apart a b lt same =
    let less : slice_cmp nat_cmp a b ≡ Less = less_is _ lt in
    let tied : is_eq (slice_cmp nat_cmp a b) ≡ same_name a b = is_eq-slice_cmp a b in
    elim (same_or_not a b) [
      | inl same_is ↦ let both : is_eq Less ≡ true = ap is_eq (sym less) ∙ tied ∙ same_is.0 in cc
      | inr other ↦ absurd (other.1 same)
    ]

pub lt_not_same : (a b : Name) → name_lt a b ≡ true → same_name a b ≡ false
lt_not_same a b lt = elim (same_or_not a b) [ inl same_is ↦ absurd (lt_apart a b lt same_is.1) | inr other ↦ other.0 ]

pub gt_not_same : (a b : Name) → name_lt b a ≡ true → same_name a b ≡ false
gt_not_same a b lt = elim (same_or_not a b) [ inl same_is ↦ absurd (lt_apart b a lt (sym same_is.1)) | inr other ↦ other.0 ]

pub lt_asym : (a b : Name) → name_lt a b ≡ true → name_lt b a ≡ false
lt_asym a b lt = ap is_lt (nat_list_cmp_total.antisymm b a ∙ ap ordering_reverse (less_is _ lt))

-- ---- the names before a name come first

head_first : (l : ChildLink) (ls : List ChildLink) (j : ℕ) (d : ChildLink) → AreOrdered (link_names (l ∷ ls)) → j < length ls → name_lt l.name (get_or ls j d).name ≡ true
head_first l [] j d o lt = absurd (omega arith)
head_first l (m ∷ ms) zero d o lt = o.0
head_first l (m ∷ ms) (suc j) d o lt = lt_trans l.name m.name (get_or ms j d).name o.0 (head_first m ms j d o.1 (omega arith))

pub comes_before_all : (links : List ChildLink) (name : Name) → AreOrdered (link_names links) → (i j : ℕ) (d : ChildLink) → i ≤ j → j < length links → name_lt (get_or links j d).name name ≡ true → name_lt (get_or links i d).name name ≡ true
comes_before_all [] name o i j d le lt h = absurd (omega arith)
comes_before_all (l ∷ ls) name o zero zero d le lt h = h
comes_before_all (l ∷ ls) name o zero (suc j) d le lt h = lt_trans l.name (get_or ls j d).name name (head_first l ls j d o (omega arith)) h
comes_before_all (l ∷ ls) name o (suc i) zero d le lt h = absurd (omega arith)
comes_before_all (l ∷ ls) name o (suc i) (suc j) d le lt h = comes_before_all ls name o.1 i j d (omega arith) (omega arith) h

-- a partition point is the place
pub place_is : (links : List ChildLink) (name : Name) (r : ℕ) → r ≤ length links
    → ((k : ℕ) (e : ChildLink) → 0 ≤ k → k < r → name_lt (get_or links k e).name name ≡ true) × ((k : ℕ) (e : ChildLink) → r ≤ k → k < length links → name_lt (get_or links k e).name name ≡ false)
    → r ≡ place_in links name
place_is links name r bound point =
    let d = child_link [] 0 in
    sym (prefix_len_is (λ l. name_lt l.name name) links r d bound (λ k l. point.0 k d (omega arith) l) (λ l. point.1 r d (omega arith) l))

-- ---- what stands at the place

place_more : (l : ChildLink) (ls : List ChildLink) (name : Name) → name_lt l.name name ≡ true → place_in (l ∷ ls) name ≡ suc (place_in ls name)
place_more l ls name lt = let one : 1 + place_in ls name ≡ suc (place_in ls name) = omega arith in rw lt one

place_here : (l : ChildLink) (ls : List ChildLink) (name : Name) → name_lt l.name name ≡ false → place_in (l ∷ ls) name ≡ 0
place_here l ls name lt = rw lt refl

-- behind a link that comes after the name
none_after : (l : ChildLink) (ls : List ChildLink) (name : Name) → AreOrdered (link_names (l ∷ ls)) → name_lt name l.name ≡ true → (find_link ls name ≡ None) × (remove_link ls name ≡ ls)
none_after l [] name o lt = (refl, refl)
none_after l (m ∷ ms) name o lt =
    let later : name_lt name m.name ≡ true = lt_trans name l.name m.name lt o.0 in
    let apart : same_name m.name name ≡ false = gt_not_same m.name name later in
    let rest = none_after m ms name o.1 later in
    (rw apart rest.0, rw apart (ap (λ (k : List ChildLink). m ∷ k) rest.1))

abbrev At : List ChildLink → Name → ChildLink → ℕ → Type 0
At links name d i = (find_link links name ≡ Some (get_or links i d).node) × (remove_link links name ≡ remove links i)

pub link_at : (links : List ChildLink) (name : Name) (d : ChildLink) → AreOrdered (link_names links) → place_in links name < length links → same_name (get_or links (place_in links name) d).name name ≡ true
    → (find_link links name ≡ Some (get_or links (place_in links name) d).node) × (remove_link links name ≡ remove links (place_in links name))
link_at [] name d o lt same = absurd (omega arith)
link_at (l ∷ ls) name d o lt same = go (name_lt l.name name) refl (link_at ls name d o.1)
  where
    go : (b : Bool) → name_lt l.name name ≡ b → (place_in ls name < length ls → same_name (get_or ls (place_in ls name) d).name name ≡ true → At ls name d (place_in ls name)) → At (l ∷ ls) name d (place_in (l ∷ ls) name)
    go true is later =
        let more : place_in (l ∷ ls) name ≡ suc (place_in ls name) = place_more l ls name is in
        let apart : same_name l.name name ≡ false = lt_not_same l.name name is in
        let lt' : suc (place_in ls name) < suc (length ls) = subst (λ (i : ℕ). i < suc (length ls)) more lt in
        let same' : same_name (get_or ls (place_in ls name) d).name name ≡ true = subst (λ (i : ℕ). same_name (get_or (l ∷ ls) i d).name name ≡ true) more same in
        let rest = later (omega arith) same' in
        subst (At (l ∷ ls) name d) (sym more) (rw apart rest.0, rw apart (ap (λ (k : List ChildLink). l ∷ k) rest.1))
    go false is later =
        let here : place_in (l ∷ ls) name ≡ 0 = place_here l ls name is in
        let same' : same_name l.name name ≡ true = subst (λ (i : ℕ). same_name (get_or (l ∷ ls) i d).name name ≡ true) here same in
        subst (At (l ∷ ls) name d) (sym here) (rw same' refl, rw same' refl)

pub none_at : (links : List ChildLink) (name : Name) (d : ChildLink) → AreOrdered (link_names links) → (place_in links name < length links → same_name (get_or links (place_in links name) d).name name ≡ false)
    → (find_link links name ≡ None) × (remove_link links name ≡ links)
none_at [] name d o apart = (refl, refl)
none_at (l ∷ ls) name d o apart = go (name_lt l.name name) refl (none_at ls name d o.1)
  where
    go : (b : Bool) → name_lt l.name name ≡ b → ((place_in ls name < length ls → same_name (get_or ls (place_in ls name) d).name name ≡ false) → (find_link ls name ≡ None) × (remove_link ls name ≡ ls)) → (find_link (l ∷ ls) name ≡ None) × (remove_link (l ∷ ls) name ≡ l ∷ ls)
    go true is later =
        let more : place_in (l ∷ ls) name ≡ suc (place_in ls name) = place_more l ls name is in
        let here : same_name l.name name ≡ false = lt_not_same l.name name is in
        let rest = later (λ lt. subst (λ (i : ℕ). same_name (get_or (l ∷ ls) i d).name name ≡ false) more (apart (subst (λ (i : ℕ). i < suc (length ls)) (sym more) (omega arith)))) in
        (rw here rest.0, rw here (ap (λ (k : List ChildLink). l ∷ k) rest.1))
    go false is _ =
        let first : place_in (l ∷ ls) name ≡ 0 = place_here l ls name is in
        let here : same_name l.name name ≡ false = subst (λ (i : ℕ). same_name (get_or (l ∷ ls) i d).name name ≡ false) first (apart (subst (λ (i : ℕ). i < suc (length ls)) (sym first) (omega arith))) in
        let later : name_lt name l.name ≡ true = lt_other l.name name is (λ same. elim (same_or_not l.name name) [ inl both ↦ let no : same_name l.name name ≡ true = both.0 in cc | inr other ↦ other.1 (sym same) ]) in
        let rest = none_after l ls name o later in
        (rw here rest.0, rw here (ap (λ (k : List ChildLink). l ∷ k) rest.1))

-- a link goes to its place
pub insert_at : (links : List ChildLink) (l : ChildLink) → AreOrdered (link_names links) → find_link links l.name ≡ None → insert_link links l ≡ insert links (place_in links l.name) l
insert_at [] l o none = refl
insert_at (m ∷ ms) l o none = go (name_lt m.name l.name) refl (same_or_not m.name l.name) (insert_at ms l o.1)
  where
    go : (b : Bool) → name_lt m.name l.name ≡ b → (same_name m.name l.name ≡ true) × (m.name ≡ l.name) ⊎ (same_name m.name l.name ≡ false) × (m.name ≢ l.name)
        → (find_link ms l.name ≡ None → insert_link ms l ≡ insert ms (place_in ms l.name) l) → insert_link (m ∷ ms) l ≡ insert (m ∷ ms) (place_in (m ∷ ms) l.name) l
    go b is (inl same) _ = let found : Some m.node ≡ None = rw same.0 at none in cc
    go true is (inr other) later =
        let more : place_in (m ∷ ms) l.name ≡ suc (place_in ms l.name) = place_more m ms l.name is in
        let before : name_lt l.name m.name ≡ false = lt_asym m.name l.name is in
        let none' : find_link ms l.name ≡ None = rw other.0 at none in
        let rest = later none' in
        subst (λ (i : ℕ). insert_link (m ∷ ms) l ≡ insert (m ∷ ms) i l) (sym more) (rw before (ap (λ (k : List ChildLink). m ∷ k) rest))
    go false is (inr other) _ =
        let first : place_in (m ∷ ms) l.name ≡ 0 = place_here m ms l.name is in
        let before : name_lt l.name m.name ≡ true = lt_other m.name l.name is (λ same. other.1 (sym same)) in
        subst (λ (i : ℕ). insert_link (m ∷ ms) l ≡ insert (m ∷ ms) i l) (sym first) (rw before refl)

any_default : (links : List ChildLink) (i : ℕ) (d e : ChildLink) → i < length links → get_or links i e ≡ get_or links i d
any_default [] i d e lt = absurd (omega arith)
any_default (l ∷ ls) zero d e lt = refl
any_default (l ∷ ls) (suc i) d e lt = any_default ls i d e (omega arith)

-- the same, where a number is the place
pub link_there : (links : List ChildLink) (name : Name) (i : ℕ) (m : ChildLink) → i ≡ place_in links name → AreOrdered (link_names links) → i < length links → same_name (get_or links i m).name name ≡ true → (d : ChildLink) → At links name d i
link_there links name i m place o lt same d =
    let node : At links name m i = subst (At links name m) (sym place) (link_at links name m o (subst (λ (k : ℕ). k < length links) place lt) (subst (λ (k : ℕ). same_name (get_or links k m).name name ≡ true) place same)) in
    (node.0 ∙ ap (λ (x : ChildLink). Some x.node) (any_default links i d m lt), node.1)

pub none_there : (links : List ChildLink) (name : Name) (i : ℕ) (m : ChildLink) → i ≡ place_in links name → AreOrdered (link_names links) → same_name (get_or links i m).name name ≡ false → (find_link links name ≡ None) × (remove_link links name ≡ links)
none_there links name i m place o apart =
    none_at links name m o (λ _. subst (λ (k : ℕ). same_name (get_or links k m).name name ≡ false) place apart)

pub none_past : (links : List ChildLink) (name : Name) (i : ℕ) → i ≡ place_in links name → AreOrdered (link_names links) → length links ≤ i → (find_link links name ≡ None) × (remove_link links name ≡ links)
none_past links name i place o past = none_at links name (child_link [] 0) o (λ lt. absurd (omega arith))

pub insert_there : (links : List ChildLink) (l : ChildLink) (i : ℕ) → i ≡ place_in links l.name → AreOrdered (link_names links) → find_link links l.name ≡ None → insert links i l ≡ insert_link links l
insert_there links l i place o none = ap (λ (k : ℕ). insert links k l) place ∙ sym (insert_at links l o none)
