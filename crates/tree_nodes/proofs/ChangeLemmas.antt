-- One link more or fewer at a node of a tree with keys, and another node at a leaf.
use Rattle.std.proofs.Common.{◌≡◌, ◌≢◌, ℕ, ◌+◌, Bool, true, false, cond, List, [], ◌∷◌, Option, Some, None, refl, sym, ap, ◌∙◌, subst, inl, inr, ◌⊎◌, arith}
use Rattle.std.specs.Option.{option_map}
use Rattle.object_model.specs.Tree.{Group, Leaf, Empty, Link, Name, name_lt, same_name, names, find, insert, remove, relink, IsOrdered, AreOrdered}
use Rattle.tree_nodes.specs.declared.node.Node.{Node}
use Rattle.tree_nodes.specs.declared.node.Node.TheVariants as node
use Rattle.tree_nodes.specs.declared.node.NodeId.{NodeId}
use Rattle.tree_nodes.specs.declared.node.ChildLink.{ChildLink}
use Rattle.tree_nodes.specs.Nodes.{Kept, bare, is_group, is_dataset, objects_at, child_link, link_names, find_link, insert_link, remove_link}
use Rattle.tree_nodes.specs.Shown.{Placed, Keyed, KeyedLinks, key_of, node_of, single, child_links, links_of, kept_of, child_id, on_leaf, objects_of, objects_below, HasKey, HasKeyBelow, AreDistinct, AreDistinctBelow, AreKept, AreKeptBelow}
use Rattle.tree_nodes.proofs.EditLemmas.{own_key, found_key, kept_same, kept_same_below}

-- ---- what is kept at a node

-- a tree's first node is kept
pub kept_first : (at : ℕ → Option Kept) (t : Keyed) → AreKept at t → at (key_of t) ≡ Some (kept_of t)
kept_first at (Group x ls) h = h.1
kept_first at (Leaf x) h = h.1

mutual
  pub kept_key : (at : ℕ → Option Kept) (t : Keyed) (k : ℕ) → AreKept at t → HasKey t k → at k ≡ None → ⊥
  kept_key at (Group x ls) k h (inl own) none = let both : Some (kept_of (Group x ls)) ≡ None = sym h.1 ∙ ap at own ∙ none in absurd cc
  kept_key at (Group x ls) k h (inr below) none = kept_key_below at ls k h.2 below none
  kept_key at (Leaf x) k h own none = let both : Some (kept_of (Leaf x)) ≡ None = sym h.1 ∙ ap at own ∙ none in absurd cc

  pub kept_key_below : (at : ℕ → Option Kept) (ls : KeyedLinks) (k : ℕ) → AreKeptBelow at ls → HasKeyBelow ls k → at k ≡ None → ⊥
  kept_key_below at Empty k h below none = below
  kept_key_below at (Link n t rest) k h (inl here) none = kept_key at t k h.0 here none
  kept_key_below at (Link n t rest) k h (inr there) none = kept_key_below at rest k h.1 there none

pub names-links : (ls : KeyedLinks) → link_names (child_links ls) ≡ names ls
names-links Empty = refl
names-links (Link n t rest) = ap (λ (l : List Name). n ∷ l) (names-links rest)

pub ordered_links : (u : Keyed) → IsOrdered u → AreOrdered (link_names (links_of u))
ordered_links (Group x ls) o = subst AreOrdered (sym (names-links ls)) o.0
ordered_links (Leaf x) o = tt

-- ---- links and their lists

pub find-links : (ls : KeyedLinks) (name : Name) → find_link (child_links ls) name ≡ option_map (λ u. record { key = key_of u }) (find ls name)
find-links Empty name = refl
find-links (Link m t rest) name =
    elim (same_name m name) as (λ b. cond b (Some (record { key = key_of t })) (find_link (child_links rest) name) ≡ option_map (λ u. record { key = key_of u }) (cond b (Some t) (find rest name))) [
      | true ↦ refl
      | false ↦ find-links rest name
    ]

pub child-links : (u : Keyed) (name : Name) → find_link (links_of u) name ≡ child_id u name
child-links (Group x ls) name = find-links ls name
child-links (Leaf x) name = refl

pub links-insert : (ls : KeyedLinks) (name : Name) (new : Keyed) → child_links (insert ls name new) ≡ insert_link (child_links ls) (child_link name (key_of new))
links-insert Empty name new = refl
links-insert (Link m t rest) name new =
    elim (name_lt name m) as (λ b. child_links (cond b (Link name new (Link m t rest)) (Link m t (insert rest name new))) ≡ cond b (child_link name (key_of new) ∷ child_links (Link m t rest)) (child_link m (key_of t) ∷ insert_link (child_links rest) (child_link name (key_of new)))) [
      | true ↦ refl
      | false ↦ ap (λ (ks : List ChildLink). child_link m (key_of t) ∷ ks) (links-insert rest name new)
    ]

pub links-remove : (ls : KeyedLinks) (name : Name) → child_links (remove ls name) ≡ remove_link (child_links ls) name
links-remove Empty name = refl
links-remove (Link m t rest) name =
    elim (same_name m name) as (λ b. child_links (cond b rest (Link m t (remove rest name))) ≡ cond b (child_links rest) (child_link m (key_of t) ∷ remove_link (child_links rest) name)) [
      | true ↦ refl
      | false ↦ ap (λ (ks : List ChildLink). child_link m (key_of t) ∷ ks) (links-remove rest name)
    ]

-- ---- a new node

pub key-single : (key : ℕ) (n : Node) → key_of (single key n) ≡ key
key-single key n = elim (is_group n) as (λ b. key_of (cond b (Group (record { key = key; node = n }) Empty) (Leaf (record { key = key; node = n }))) ≡ key) [ true ↦ refl | false ↦ refl ]

pub has-single : (key : ℕ) (n : Node) (k : ℕ) → HasKey (single key n) k → key ≡ k
has-single key n k =
    elim (is_group n) as (λ b. HasKey (cond b (Group (record { key = key; node = n }) Empty) (Leaf (record { key = key; node = n }))) k → key ≡ k) [
      | true ↦ λ h. elim h [ inl own ↦ own | inr below ↦ absurd below ]
      | false ↦ λ h. h
    ]

pub kept-single : (at : ℕ → Option Kept) (key : ℕ) (n : Node) → at key ≡ Some (bare n) → AreKept at (single key n)
kept-single at key n is = go (is_group n) refl
  where
    go : (b : Bool) → is_group n ≡ b → AreKept at (cond b (Group (record { key = key; node = n }) Empty) (Leaf (record { key = key; node = n })))
    go true e = (e, is, tt)
    go false e = (e, is)

pub distinct-single : (key : ℕ) (n : Node) → AreDistinct (single key n)
distinct-single key n =
    elim (is_group n) as (λ b. AreDistinct (cond b (Group (record { key = key; node = n }) Empty) (Leaf (record { key = key; node = n })))) [ true ↦ (λ h. h, tt) | false ↦ tt ]

pub objects-single : (key : ℕ) (n : Node) → objects_of (single key n) ≡ objects_at n
objects-single key n =
    elim (is_group n) as (λ b. objects_of (cond b (Group (record { key = key; node = n }) Empty) (Leaf (record { key = key; node = n }))) ≡ objects_at n) [ true ↦ omega arith | false ↦ refl ]

pub ordered-single : (key : ℕ) (n : Node) → IsOrdered (single key n)
ordered-single key n =
    elim (is_group n) as (λ b. let t : Keyed = cond b (Group (record { key = key; node = n }) Empty) (Leaf (record { key = key; node = n })) in IsOrdered t) [ true ↦ (tt, tt) | false ↦ tt ]

-- ---- one link more

pub kept-insert : (at : ℕ → Option Kept) (ls : KeyedLinks) (name : Name) (new : Keyed) → AreKeptBelow at ls → AreKept at new → AreKeptBelow at (insert ls name new)
kept-insert at Empty name new h k = (k, tt)
kept-insert at (Link m t rest) name new h k =
    elim (name_lt name m) as (λ b. AreKeptBelow at (cond b (Link name new (Link m t rest)) (Link m t (insert rest name new)))) [
      | true ↦ (k, h)
      | false ↦ (h.0, kept-insert at rest name new h.1 k)
    ]

pub inserted_key : (ls : KeyedLinks) (name : Name) (new : Keyed) (k : ℕ) → HasKeyBelow (insert ls name new) k → HasKeyBelow ls k ⊎ HasKey new k
inserted_key Empty name new k h = elim h [ inl a ↦ inr a | inr b ↦ absurd b ]
inserted_key (Link m t rest) name new k h =
    (elim (name_lt name m) as (λ b. HasKeyBelow (cond b (Link name new (Link m t rest)) (Link m t (insert rest name new))) k → HasKeyBelow (Link m t rest) k ⊎ HasKey new k) [
      | true ↦ λ l. elim l [ inl a ↦ inr a | inr b ↦ inl b ]
      | false ↦ λ l. elim l [ inl a ↦ inl (inl a) | inr b ↦ elim (inserted_key rest name new k b) [ inl c ↦ inl (inr c) | inr c ↦ inr c ] ]
    ]) h

pub distinct-insert : (ls : KeyedLinks) (name : Name) (new : Keyed) → AreDistinctBelow ls → AreDistinct new → ((k : ℕ) → HasKey new k → HasKeyBelow ls k → ⊥) → AreDistinctBelow (insert ls name new)
distinct-insert Empty name new d e apart = (e, tt, λ k a b. b)
distinct-insert (Link m t rest) name new d e apart =
    elim (name_lt name m) as (λ b. AreDistinctBelow (cond b (Link name new (Link m t rest)) (Link m t (insert rest name new)))) [
      | true ↦ (e, d, apart)
      | false ↦ (
        d.0,
        distinct-insert rest name new d.1 e (λ k a b. apart k a (inr b)),
        λ k a b. elim (inserted_key rest name new k b) [ inl old ↦ d.2 k a old | inr made ↦ apart k made (inl a) ],
      )
    ]

pub objects-insert : (ls : KeyedLinks) (name : Name) (new : Keyed) → objects_below (insert ls name new) ≡ objects_below ls + objects_of new
objects-insert Empty name new = omega arith
objects-insert (Link m t rest) name new =
    elim (name_lt name m) as (λ b. objects_below (cond b (Link name new (Link m t rest)) (Link m t (insert rest name new))) ≡ (objects_of t + objects_below rest) + objects_of new) [
      | true ↦ omega arith
      | false ↦ let later = objects-insert rest name new in omega (arith, later)
    ]

abbrev pub with_link : Name → Keyed → Keyed → Keyed
with_link name new u = relink (λ ls. insert ls name new) u

pub key-with_link : (name : Name) (new u : Keyed) → key_of (with_link name new u) ≡ key_of u
key-with_link name new (Group x ls) = refl
key-with_link name new (Leaf x) = refl

pub kept-with_link : (at at' : ℕ → Option Kept) (name : Name) (key : ℕ) (n : Node) (u : Keyed) → is_group (node_of u) ≡ true → AreKept at u → AreDistinct u → at' key ≡ Some (bare n)
    → at' (key_of u) ≡ Some (record { node = node_of u; links = insert_link (links_of u) (child_link name key) }) → ((k : ℕ) → HasKey u k → k ≢ key_of u → at' k ≡ at k)
    → AreKept at' (with_link name (single key n) u)
kept-with_link at at' name key n (Leaf x) isg h d made linked others = let no : is_group x.node ≡ false = h.0 in absurd cc
kept-with_link at at' name key n (Group x ls) isg h d made linked others =
    let list : child_links (insert ls name (single key n)) ≡ insert_link (child_links ls) (child_link name key) = links-insert ls name (single key n) ∙ ap (λ (k : ℕ). insert_link (child_links ls) (child_link name k)) (key-single key n) in
    let below : AreKeptBelow at' ls = kept_same_below at at' ls (λ k has. others k (inr has) (λ same. d.0 (subst (HasKeyBelow ls) same has))) h.2 in
    (isg, linked ∙ ap (λ (l : List ChildLink). Some (record { node = x.node; links = l })) (sym list), kept-insert at' ls name (single key n) below (kept-single at' key n made))

pub distinct-with_link : (name : Name) (new u : Keyed) → AreDistinct u → AreDistinct new → ((k : ℕ) → HasKey new k → HasKey u k → ⊥) → AreDistinct (with_link name new u)
distinct-with_link name new (Leaf x) d e apart = tt
distinct-with_link name new (Group x ls) d e apart = (
  λ below. elim (inserted_key ls name new x.key below) [ inl old ↦ d.0 old | inr made ↦ apart x.key made (inl refl) ],
  distinct-insert ls name new d.1 e (λ k a b. apart k a (inr b)),
)

pub has-with_link : (name : Name) (new u : Keyed) (k : ℕ) → HasKey (with_link name new u) k → HasKey u k ⊎ HasKey new k
has-with_link name new (Leaf x) k h = inl h
has-with_link name new (Group x ls) k h = elim h [ inl own ↦ inl (inl own) | inr below ↦ elim (inserted_key ls name new k below) [ inl a ↦ inl (inr a) | inr a ↦ inr a ] ]

pub objects-with_link : (name : Name) (new u : Keyed) → is_group (node_of u) ≡ true → (at : ℕ → Option Kept) → AreKept at u → objects_of (with_link name new u) ≡ objects_of u + objects_of new
objects-with_link name new (Leaf x) isg at h = let no : is_group x.node ≡ false = h.0 in absurd cc
objects-with_link name new (Group x ls) isg at h = let more = objects-insert ls name new in omega (arith, more)

-- ---- one link fewer

pub kept-remove : (at at' : ℕ → Option Kept) (ls : KeyedLinks) (name : Name) (v : Keyed) → find ls name ≡ Some v → AreKeptBelow at ls → AreDistinctBelow ls → ((k : ℕ) → HasKeyBelow ls k → (HasKey v k → ⊥) → at' k ≡ at k) → AreKeptBelow at' (remove ls name)
kept-remove at at' Empty name v is h d same = tt
kept-remove at at' (Link m t rest) name v is h d same =
    (elim (same_name m name) as (λ b. cond b (Some t) (find rest name) ≡ Some v → AreKeptBelow at' (cond b rest (Link m t (remove rest name)))) [
      | true ↦ λ q.
          let here : v ≡ t = cc in
          kept_same_below at at' rest (λ k has. same k (inr has) (λ inside. d.2 k (subst (λ (y : Keyed). HasKey y k) here inside) has)) h.1
      | false ↦ λ q.
          (kept_same at at' t (λ k has. same k (inl has) (λ inside. d.2 k has (found_key rest name v k q inside))) h.0, kept-remove at at' rest name v q h.1 d.1 (λ k has. same k (inr has)))
    ]) is

pub removed_key : (ls : KeyedLinks) (name : Name) (k : ℕ) → HasKeyBelow (remove ls name) k → HasKeyBelow ls k
removed_key Empty name k h = h
removed_key (Link m t rest) name k h =
    (elim (same_name m name) as (λ b. HasKeyBelow (cond b rest (Link m t (remove rest name))) k → HasKeyBelow (Link m t rest) k) [
      | true ↦ λ l. inr l
      | false ↦ λ l. elim l [ inl a ↦ inl a | inr b ↦ inr (removed_key rest name k b) ]
    ]) h

pub distinct-remove : (ls : KeyedLinks) (name : Name) → AreDistinctBelow ls → AreDistinctBelow (remove ls name)
distinct-remove Empty name d = tt
distinct-remove (Link m t rest) name d =
    elim (same_name m name) as (λ b. AreDistinctBelow (cond b rest (Link m t (remove rest name)))) [
      | true ↦ d.1
      | false ↦ (d.0, distinct-remove rest name d.1, λ k a b. d.2 k a (removed_key rest name k b))
    ]

pub objects-remove : (ls : KeyedLinks) (name : Name) (v : Keyed) → find ls name ≡ Some v → objects_below (remove ls name) + objects_of v ≡ objects_below ls
objects-remove Empty name v is = absurd cc
objects-remove (Link m t rest) name v is =
    (elim (same_name m name) as (λ b. cond b (Some t) (find rest name) ≡ Some v → objects_below (cond b rest (Link m t (remove rest name))) + objects_of v ≡ objects_of t + objects_below rest) [
      | true ↦ λ q.
          let here : t ≡ v = cc in
          let old : objects_of t ≡ objects_of v = ap objects_of here in
          omega (arith, old)
      | false ↦ λ q. let later = objects-remove rest name v q in omega (arith, later)
    ]) is

abbrev pub without_link : Name → Keyed → Keyed
without_link name u = relink (λ ls. remove ls name) u

pub kept-without_link : (at at' : ℕ → Option Kept) (name : Name) (x : Placed) (ls : KeyedLinks) (v : Keyed) → find ls name ≡ Some v → AreKept at (Group x ls) → AreDistinct (Group x ls)
    → at' x.key ≡ Some (record { node = x.node; links = remove_link (child_links ls) name }) → ((k : ℕ) → k ≢ x.key → k ≢ key_of v → at' k ≡ at k) → AreKept at' (without_link name (Group x ls))
kept-without_link at at' name x ls v is h d linked others = (
  h.0,
  linked ∙ ap (λ (l : List ChildLink). Some (record { node = x.node; links = l })) (sym (links-remove ls name)),
  kept-remove at at' ls name v is h.2 d.1 (λ k has apart. others k (λ same. d.0 (subst (HasKeyBelow ls) same has)) (λ same. apart (subst (HasKey v) (sym same) (own_key v)))),
)

pub distinct-without_link : (name : Name) (x : Placed) (ls : KeyedLinks) → AreDistinct (Group x ls) → AreDistinct (without_link name (Group x ls))
distinct-without_link name x ls d = (λ below. d.0 (removed_key ls name x.key below), distinct-remove ls name d.1)

pub has-without_link : (name : Name) (x : Placed) (ls : KeyedLinks) (k : ℕ) → HasKey (without_link name (Group x ls)) k → HasKey (Group x ls) k
has-without_link name x ls k h = elim h [ inl own ↦ inl own | inr below ↦ inr (removed_key ls name k below) ]

pub objects-without_link : (name : Name) (x : Placed) (ls : KeyedLinks) (v : Keyed) → find ls name ≡ Some v → objects_of (without_link name (Group x ls)) + objects_of v ≡ objects_of (Group x ls)
objects-without_link name x ls v is = let fewer = objects-remove ls name v is in omega (arith, fewer)

-- a node without links
pub objects_loose : (v : Keyed) → links_of v ≡ [] → objects_of v ≡ objects_at (node_of v)
objects_loose (Group y Empty) none = omega arith
objects_loose (Group y (Link n t rest)) none = absurd cc
objects_loose (Leaf y) none = refl

-- the node behind a name that is found
pub child_at : (ls : KeyedLinks) (name : Name) (child : NodeId) → option_map (λ u. record { key = key_of u }) (find ls name) ≡ Some child → (v : Keyed) × (find ls name ≡ Some v) × (key_of v ≡ child.key)
child_at ls name child is = go (find ls name) refl is
  where
    go : (o : Option Keyed) → find ls name ≡ o → option_map {U = NodeId} (λ u. record { key = key_of u }) o ≡ Some child → (v : Keyed) × (find ls name ≡ Some v) × (key_of v ≡ child.key)
    go None e h = absurd cc
    go (Some v) e h = let same : record { key = key_of v } ≡ child = cc in (v, e, ap (λ (i : NodeId). i.key) same)

-- ---- another node at a leaf

pub key-on_leaf : (f : Node → Node) (u : Keyed) → key_of (on_leaf f u) ≡ key_of u
key-on_leaf f (Group x ls) = refl
key-on_leaf f (Leaf x) = refl

pub has-on_leaf : (f : Node → Node) (u : Keyed) (k : ℕ) → HasKey (on_leaf f u) k → HasKey u k
has-on_leaf f (Group x ls) k h = h
has-on_leaf f (Leaf x) k h = h

pub kept-on_leaf : (at at' : ℕ → Option Kept) (f : Node → Node) (u : Keyed) → is_group (node_of u) ≡ false → is_group (f (node_of u)) ≡ false → AreKept at u
    → at' (key_of u) ≡ Some (record { node = f (node_of u); links = links_of u }) → AreKept at' (on_leaf f u)
kept-on_leaf at at' f (Group x ls) isg isg' h is = let yes_group : is_group x.node ≡ true = h.0 in absurd cc
kept-on_leaf at at' f (Leaf x) isg isg' h is = (isg', is)

pub distinct-on_leaf : (f : Node → Node) (u : Keyed) → AreDistinct u → AreDistinct (on_leaf f u)
distinct-on_leaf f (Group x ls) d = d
distinct-on_leaf f (Leaf x) d = tt

pub objects-on_leaf : (f : Node → Node) (u : Keyed) → objects_at (f (node_of u)) ≡ objects_at (node_of u) → objects_of (on_leaf f u) ≡ objects_of u
objects-on_leaf f (Group x ls) same = refl
objects-on_leaf f (Leaf x) same = same

pub ordered-on_leaf : (f : Node → Node) (u : Keyed) → IsOrdered u → IsOrdered (on_leaf f u)
ordered-on_leaf f (Group x ls) o = o
ordered-on_leaf f (Leaf x) o = tt

pub dataset_no_group : (n : Node) → is_dataset n ≡ true → is_group n ≡ false
dataset_no_group (node.Group header tree heap) is = absurd cc
dataset_no_group (node.Dataset header shape elem fill layout filtered) is = refl
dataset_no_group (node.Soft text) is = refl
dataset_no_group (node.Other header) is = refl
