-- How many of the slots of a slab pass a test, where one slot changes.
use Rattle.std.proofs.Common.{◌≡◌, ◌≢◌, ℕ, zero, suc, ◌+◌, ◌≤◌, Bool, true, false, cond, List, [], ◌∷◌, get_or, Option, Some, None, is_some, refl, sym, ap, ◌∙◌, subst, arith}
use Rattle.std.specs.Prelude.{count_by, slice_set, IsSome, ◌==◌}
use Rattle.std.proofs.lemmas.List.Sums.{sum_by-cons}
use Rattle.std.proofs.lemmas.Bool.{eqb-true, eqb-false}
use Rattle.slab.specs.Slab.{Slab, get, slab_len, Updates, with_value, ContainsKey}
use Rattle.slab.proofs.SlabLemmas.{Updates-with_value}
use Rattle.header_codec.specs.declared.types.Layout.{Layout}
use Rattle.tree_nodes.specs.declared.entry.Entry.{Entry}
use Rattle.tree_nodes.specs.declared.node.Node.{Node}
use Rattle.tree_nodes.specs.declared.node.Node.TheVariants as node
use Rattle.tree_nodes.specs.Nodes.{Kept, is_group, is_object, objects_at, with_layout, with_dims}
use Rattle.tree_nodes.specs.Slots.{holds_object, objects_in, kept_at, kept_in}

module _ {X : Type 0} (p : Option X → Bool) (empty : p None ≡ false) where
  abbrev one : Option X → ℕ
  one o = cond (p o) 1 0

  count_cons : (x : Option X) (xs : List (Option X)) → count_by p (x ∷ xs) ≡ one x + count_by p xs
  count_cons x xs = sum_by-cons one x xs

  rest : List (Option X) → List (Option X)
  rest [] = []
  rest (x ∷ xs) = xs

  count_rest : (xs : List (Option X)) → count_by p xs ≡ one (get_or xs 0 None) + count_by p (rest xs)
  unfolding rest
  count_rest [] = rw empty refl
  count_rest (x ∷ xs) = count_cons x xs

  get_rest : (xs : List (Option X)) (k : ℕ) → get_or (rest xs) k None ≡ get_or xs (suc k) None
  unfolding rest
  get_rest [] k = refl
  get_rest (x ∷ xs) k = refl

  count_none : (ys : List (Option X)) → ((k : ℕ) → get_or ys k None ≡ None) → count_by p ys ≡ 0
  count_none [] h = refl
  count_none (y ∷ ys) h =
      let y0 : y ≡ None = h 0 in
      let tail : count_by p ys ≡ 0 = count_none ys (λ k. h (suc k)) in
      let no : one y ≡ 0 = ap one y0 ∙ ap (λ (b : Bool). cond b 1 0) empty in
      omega (arith, count_cons y ys, tail, no)

  count_same : (xs ys : List (Option X)) → ((k : ℕ) → get_or ys k None ≡ get_or xs k None) → count_by p ys ≡ count_by p xs
  count_same [] ys h = count_none ys h
  count_same (x ∷ xs) [] h = sym (count_none (x ∷ xs) (λ k. sym (h k)))
  count_same (x ∷ xs) (y ∷ ys) h =
      let e : y ≡ x = h 0 in
      let tail : count_by p ys ≡ count_by p xs = count_same xs ys (λ k. h (suc k)) in
      let heads : one y ≡ one x = ap one e in
      omega (arith, count_cons x xs, count_cons y ys, tail, heads)

  pub count_at : (key : ℕ) (xs ys : List (Option X)) → ((k : ℕ) → k ≢ key → get_or ys k None ≡ get_or xs k None) → count_by p ys + one (get_or xs key None) ≡ count_by p xs + one (get_or ys key None)
  count_at zero xs ys h =
      let tails : count_by p (rest ys) ≡ count_by p (rest xs) = count_same (rest xs) (rest ys) (λ k. get_rest ys k ∙ h (suc k) (λ e. absurd (omega arith)) ∙ sym (get_rest xs k)) in
      omega (arith, count_rest xs, count_rest ys, tails)
  count_at (suc key) xs ys h =
      let heads : one (get_or ys 0 None) ≡ one (get_or xs 0 None) = ap one (h 0 (λ e. absurd (omega arith))) in
      let tails : count_by p (rest ys) + one (get_or (rest xs) key None) ≡ count_by p (rest xs) + one (get_or (rest ys) key None) = count_at key (rest xs) (rest ys) (λ k apart. get_rest ys k ∙ h (suc k) (λ e. apart (omega arith)) ∙ sym (get_rest xs k)) in
      let left : one (get_or (rest xs) key None) ≡ one (get_or xs (suc key) None) = ap one (get_rest xs key) in
      let right : one (get_or (rest ys) key None) ≡ one (get_or ys (suc key) None) = ap one (get_rest ys key) in
      omega (arith, count_rest xs, count_rest ys, heads, tails, left, right)

-- ---- objects

abbrev object_at : Option Entry → ℕ
object_at o = cond (holds_object o) 1 0

pub objects-updates : (s s' : Slab Entry) (key : ℕ) (o : Option Entry) → Updates s s' key o → objects_in s'.slots + object_at (get s key) ≡ objects_in s.slots + object_at o
unfolding objects_in
objects-updates s s' key o up = count_at holds_object refl key s.slots s'.slots up.others ∙ ap (λ (x : Option Entry). count_by holds_object s.slots + object_at x) up.changed

object_or_not : (o : Option Entry) → cond (holds_object o) 1 0 ≤ cond (is_some o) 1 0
object_or_not None = omega arith
object_or_not (Some e) = elim (is_object e.node) as (λ b. cond b 1 0 ≤ 1) [ true ↦ omega arith | false ↦ omega arith ]

few_objects : (xs : List (Option Entry)) → count_by holds_object xs ≤ count_by is_some xs
few_objects [] = omega arith
few_objects (x ∷ xs) =
    omega (arith, object_or_not x, few_objects xs, sum_by-cons object_at x xs, sum_by-cons (λ (o : Option Entry). cond (is_some o) 1 0) x xs)

pub objects-le : (s : Slab Entry) → objects_in s.slots ≤ slab_len s
unfolding objects_in
objects-le s = few_objects s.slots

-- ---- what is kept, where one entry changes

abbrev pub entry_kept : Entry → Kept
entry_kept d = record { node = d.node; links = d.links.items }

pub kept_get : (s : Slab Entry) (key : ℕ) (o : Option Entry) → get s key ≡ o → kept_in s key ≡ kept_at o
unfolding kept_in
kept_get s key o at = ap kept_at at

pub kept_same : (s s' : Slab Entry) (k k' : ℕ) → get s' k' ≡ get s k → kept_in s' k' ≡ kept_in s k
unfolding kept_in
kept_same s s' k k' same = ap kept_at same

-- what holds of the entry's value holds of what is kept there
pub of_entry : (s : Slab Entry) (key : ℕ) (d : Entry) (Q : Kept → Type 0) → get s key ≡ Some d → Q (entry_kept d) → (e : Kept) → kept_in s key ≡ Some e → Q e
of_entry s key d Q at q e is =
    let both : Some (entry_kept d) ≡ Some e = sym (kept_get s key (Some d) at) ∙ is in
    let same : entry_kept d ≡ e = cc in
    subst Q same q

pub of_none : (s : Slab Entry) (key : ℕ) (Q : Kept → Type 0) → get s key ≡ None → (e : Kept) → kept_in s key ≡ Some e → Q e
of_none s key Q at e is = let both : None ≡ Some e = sym (kept_get s key None at) ∙ is in absurd cc

has_key : (s : Slab Entry) (key : ℕ) (d : Entry) → get s key ≡ Some d → ContainsKey s key
has_key s key d at = subst IsSome (sym at) refl

pub updates_written : (s : Slab Entry) (key : ℕ) (d d' : Entry) → get s key ≡ Some d → Updates s (with_value s key d') key (Some d')
updates_written s key d d' at = Updates-with_value s key d' (has_key s key d at)

pub kept_written : (s : Slab Entry) (key : ℕ) (d d' : Entry) → get s key ≡ Some d → kept_in (with_value s key d') key ≡ Some (entry_kept d')
kept_written s key d d' at = kept_get (with_value s key d') key (Some d') (updates_written s key d d' at).changed

pub kept_beside : (s : Slab Entry) (key : ℕ) (d d' : Entry) → get s key ≡ Some d → (k : ℕ) → k ≢ key → kept_in (with_value s key d') k ≡ kept_in s k
kept_beside s key d d' at k apart = kept_same s (with_value s key d') k k ((updates_written s key d d' at).others k apart)

pub objects_written : (s : Slab Entry) (key : ℕ) (d d' : Entry) → get s key ≡ Some d → is_object d'.node ≡ is_object d.node → objects_in (slice_set s.slots key (Some d')) ≡ objects_in s.slots
objects_written s key d d' at same =
    let sums = objects-updates s (with_value s key d') key (Some d') (updates_written s key d d' at) in
    let old : object_at (get s key) ≡ object_at (Some d) = ap object_at at in
    let new : object_at (Some d') ≡ object_at (Some d) = ap (λ (b : Bool). cond b 1 0) same in
    omega (arith, sums, old, new)

pub layout_object : (l : Layout) (n : Node) → is_object (with_layout l n) ≡ is_object n
layout_object l (node.Group header tree heap) = refl
layout_object l (node.Dataset header shape elem fill layout filtered) = refl
layout_object l (node.Soft text) = refl
layout_object l (node.Other header) = refl

pub dims_object : (l : List ℕ) (n : Node) → is_object (with_dims l n) ≡ is_object n
dims_object l (node.Group header tree heap) = refl
dims_object l (node.Dataset header shape elem fill layout filtered) = refl
dims_object l (node.Soft text) = refl
dims_object l (node.Other header) = refl

pub objects_new : (s s' : Slab Entry) (key : ℕ) (d : Entry) → get s key ≡ None → Updates s s' key (Some d) → objects_in s'.slots ≡ objects_in s.slots + objects_at d.node
objects_new s s' key d vacant up =
    let sums = objects-updates s s' key (Some d) up in
    let old : object_at (get s key) ≡ 0 = ap object_at vacant in
    omega (arith, sums, old)

-- an entry that is written again with the same node and links
pub kept_rewritten : (s : Slab Entry) (key : ℕ) (d d' : Entry) → get s key ≡ Some d → d'.node ≡ d.node → d'.links.items ≡ d.links.items → (k : ℕ) → kept_in (with_value s key d') k ≡ kept_in s k
kept_rewritten s key d d' at node links k = go (k == key) refl
  where
    go : (b : Bool) → (k == key) ≡ b → kept_in (with_value s key d') k ≡ kept_in s k
    go true is =
        let here : k ≡ key = eqb-true _ _ is in
        let same : entry_kept d' ≡ entry_kept d = rw (node, links) refl in
        subst (λ (i : ℕ). kept_in (with_value s key d') i ≡ kept_in s i) (sym here) (kept_written s key d d' at ∙ ap (λ (e : Kept). Some e) same ∙ sym (kept_get s key (Some d) at))
    go false is = kept_beside s key d d' at k (eqb-false _ _ is)

pub objects_removed : (s s' : Slab Entry) (key : ℕ) (d : Entry) (b : Bool) → get s key ≡ Some d → Updates s s' key None → b ≡ is_object d.node → objects_in s'.slots + cond b 1 0 ≡ objects_in s.slots
objects_removed s s' key d b at up was =
    let sums = objects-updates s s' key None up in
    let old : object_at (get s key) ≡ cond b 1 0 = ap object_at at ∙ ap (λ (x : Bool). cond x 1 0) (sym was) in
    omega (arith, sums, old)

pub layout_group : (l : Layout) (n : Node) → is_group (with_layout l n) ≡ is_group n
layout_group l (node.Group header tree heap) = refl
layout_group l (node.Dataset header shape elem fill layout filtered) = refl
layout_group l (node.Soft text) = refl
layout_group l (node.Other header) = refl

pub dims_group : (l : List ℕ) (n : Node) → is_group (with_dims l n) ≡ is_group n
dims_group l (node.Group header tree heap) = refl
dims_group l (node.Dataset header shape elem fill layout filtered) = refl
dims_group l (node.Soft text) = refl
dims_group l (node.Other header) = refl
