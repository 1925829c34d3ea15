-- A tree that grows link by link, in the order of names.
use Rattle.std.proofs.Common.{◌≡◌, ◌≢◌, ◌⊎◌, ℕ, ◌+◌, true, false, cond, List, [], ◌∷◌, ◌++◌, Option, Some, None, refl, sym, ◌∙◌, ap, subst, arith, inl, inr}
use Rattle.object_model.specs.Tree.{Tree, Links, Empty, Link, Group, Leaf, Name, name_lt, names, insert, AreOrdered}
use Rattle.object_model.proofs.OrderLemmas.{lt_trans, ordered_front}
use Rattle.tree_nodes.specs.declared.node.Node.{Node}
use Rattle.tree_nodes.specs.declared.node.NodeId.{NodeId}
use Rattle.tree_nodes.specs.declared.tree.ObjectTree.{ObjectTree}
use Rattle.tree_nodes.specs.Nodes.{Kept, bare, child_link, link_names, find_link, insert_link}
use Rattle.tree_nodes.specs.Entries.{entry_of, object_count, LacksLink, Inserts}
use Rattle.tree_nodes.specs.Shown.{Keyed, KeyedLinks, single, child_links, HasKey, HasKeyBelow, AreKept, AreKeptBelow}
use Rattle.tree_nodes.proofs.PlaceLemmas.{lt_asym, lt_not_same}
use Rattle.tree_nodes.proofs.EditLemmas.{kept_same_below, own_key}
use Rattle.tree_nodes.proofs.ChangeLemmas.{key-single, names-links, links-insert, kept-insert, inserted_key, distinct-insert, objects-insert, kept-single, has-single, distinct-single, objects-single}
use Rattle.object_tree.specs.Grown.{Grows, Adds, LinksAscend, IsBareGroup}

-- ---- the last link

-- one link more, behind all others
abbrev pub last_link : {G L : Type 0} → Links G L → Name → Tree G L → Links G L
last_link Empty n t = Link n t Empty
last_link (Link m u rest) n t = Link m u (last_link rest n t)

-- every name comes before this one
abbrev pub AllBefore : List Name → Name → Type 0
AllBefore [] n = Unit {0}
AllBefore (m ∷ ms) n = (name_lt m n ≡ true) × AllBefore ms n

pub all_before : (ms : List Name) (n : Name) → AreOrdered (ms ++ n ∷ []) → AllBefore ms n
all_before [] n h = tt
all_before (m ∷ []) n h = (h.0, tt)
all_before (m ∷ k ∷ ms) n h =
    let rest = all_before (k ∷ ms) n h.1 in
    (lt_trans m k n h.0 rest.0, rest)

pub insert_last : {G L : Type 0} (ls : Links G L) (n : Name) (t : Tree G L) → AllBefore (names ls) n → insert ls n t ≡ last_link ls n t
insert_last Empty n t h = refl
insert_last (Link m u rest) n t h =
    let later : name_lt n m ≡ false = lt_asym m n h.0 in
    rw later (ap (λ (l : Links _ _). Link m u l) (insert_last rest n t h.1))

pub names-last : {G L : Type 0} (ls : Links G L) (n : Name) (t : Tree G L) → names (last_link ls n t) ≡ names ls ++ n ∷ []
names-last Empty n t = refl
names-last (Link m u rest) n t = ap (λ (l : List Name). m ∷ l) (names-last rest n t)

none_before : (ls : KeyedLinks) (n : Name) → AllBefore (names ls) n → find_link (child_links ls) n ≡ None
none_before Empty n h = refl
none_before (Link m u rest) n h = let other = lt_not_same m n h.0 in rw other (none_before rest n h.1)

-- ---- the group that grows

pub some_is : (a c : Kept) → Some a ≡ Some c → a ≡ c
some_is a c h = cc

pub not_none : (a : Kept) → Some a ≡ None → ⊥
not_none a h = cc

pub grows_none : (kept : ObjectTree) (key : ℕ) → Grows kept kept key Empty
grows_none kept key = record {
  superblock = refl;
  root = refl;
  here = λ n is. is;
  kept = tt;
  distinct = tt;
  fresh = λ k has. absurd has;
  others = λ k not has. refl;
  objects = omega arith;
}

-- what stands under the group's key once these links were added
grown_entry : (old mid : ObjectTree) (key : ℕ) (ls : KeyedLinks) → Grows old mid key ls → (g : IsBareGroup old key) → entry_of mid key ≡ Some (record { node = g.node; links = child_links ls })
grown_entry old mid key ls h g = h.here g.node g.bare_is

pub lacks_next : (old mid : ObjectTree) (id : NodeId) (ls : KeyedLinks) (n : Name) → Grows old mid id.key ls → IsBareGroup old id.key → AreOrdered (names ls ++ n ∷ []) → LacksLink mid id n
lacks_next old mid id ls n h g ordered =
    (record { node = g.node; links = child_links ls }, grown_entry old mid id.key ls h g, g.group, none_before ls n (all_before (names ls) n ordered))

-- no key below is the group's, or that of a new subtree
apart_group : (old mid : ObjectTree) (key : ℕ) (ls : KeyedLinks) → Grows old mid key ls → IsBareGroup old key → HasKeyBelow ls key → ⊥
apart_group old mid key ls h g has = not_none (bare g.node) (sym g.bare_is ∙ h.fresh key has)

-- a key of what is kept has an entry
mutual
  key_kept_in : (at : ℕ → Option Kept) (t : Keyed) (k : ℕ) → AreKept at t → HasKey t k → at k ≡ None → ⊥
  key_kept_in at (Group x ls) k h (inl is) none = not_none _ (sym h.1 ∙ ap at is ∙ none)
  key_kept_in at (Group x ls) k h (inr below) none = key_kept_below at ls k h.2 below none
  key_kept_in at (Leaf x) k h is none = not_none _ (sym h.1 ∙ ap at is ∙ none)

  key_kept_below : (at : ℕ → Option Kept) (ls : KeyedLinks) (k : ℕ) → AreKeptBelow at ls → HasKeyBelow ls k → at k ≡ None → ⊥
  key_kept_below at Empty k h has none = has
  key_kept_below at (Link m u rest) k h (inl here) none = key_kept_in at u k h.0 here none
  key_kept_below at (Link m u rest) k h (inr below) none = key_kept_below at rest k h.1 below none

-- a key of the links with one more
key-inserted : (ls : KeyedLinks) (n : Name) (t : Keyed) (k : ℕ) → HasKeyBelow ls k ⊎ HasKey t k → HasKeyBelow (insert ls n t) k
key-inserted Empty n t k (inl has) = absurd has
key-inserted Empty n t k (inr has) = inl has
key-inserted (Link m u rest) n t k has =
    (elim (name_lt n m) as (λ b. HasKeyBelow (Link m u rest) k ⊎ HasKey t k → HasKeyBelow (cond b (Link n t (Link m u rest)) (Link m u (insert rest n t))) k) [
      | true ↦ λ h. elim h [ inl below ↦ inr below | inr inside ↦ inl inside ]
      | false ↦ λ h. elim h [ inl below ↦ elim below [ inl here ↦ inl here | inr later ↦ inr (key-inserted rest n t k (inl later)) ] | inr inside ↦ inr (key-inserted rest n t k (inr inside)) ]
    ]) has

pub grows_more : (old mid new : ObjectTree) (key : ℕ) (ls : KeyedLinks) (n : Name) (t : Keyed) → Grows old mid key ls → Adds mid new key n t → IsBareGroup old key → AreOrdered (names ls ++ n ∷ []) → Grows old new key (last_link ls n t)
grows_more old mid new key ls n t h a g ordered = subst (λ (l : KeyedLinks). Grows old new key l) (insert_last ls n t before) all
  where
    before : AllBefore (names ls) n
    before = all_before (names ls) n ordered

    entry : entry_of mid key ≡ Some (record { node = g.node; links = child_links ls })
    entry = grown_entry old mid key ls h g

    links_ordered : AreOrdered (link_names (child_links ls))
    links_ordered = subst AreOrdered (sym (names-links ls)) (ordered_front (names ls) (n ∷ []) ordered)

    -- a key that was kept below isn't new
    old_key : (k : ℕ) → HasKeyBelow ls k → HasKey t k → ⊥
    old_key k below inside = key_kept_below (entry_of mid) ls k h.kept below (a.fresh k inside)

    same_below : (k : ℕ) → HasKeyBelow ls k → entry_of new k ≡ entry_of mid k
    same_below k has = a.others k (λ is. apart_group old mid key ls h g (subst (HasKeyBelow ls) is has)) (old_key k has)

    here : (m : Node) → entry_of old key ≡ Some (bare m) → entry_of new key ≡ Some (record { node = m; links = child_links (insert ls n t) })
    here m is =
        let same : g.node ≡ m = ap (λ (x : Kept). x.node) (some_is (bare g.node) (bare m) (sym g.bare_is ∙ is)) in
        let linked = a.linked (record { node = g.node; links = child_links ls }) entry links_ordered in
        linked ∙ (λ j. Some (record { node = same j; links = sym (links-insert ls n t) j }))

    fresh : (k : ℕ) → HasKeyBelow (insert ls n t) k → entry_of old k ≡ None
    fresh k has = elim (inserted_key ls n t k has) [
      | inl below ↦ h.fresh k below
      | inr inside ↦
          sym (h.others k (λ is. not_none (record { node = g.node; links = child_links ls }) (sym entry ∙ ap (entry_of mid) (sym is) ∙ a.fresh k inside)) (λ below. old_key k below inside)) ∙ a.fresh k inside
    ]

    others : (k : ℕ) → k ≢ key → (HasKeyBelow (insert ls n t) k → ⊥) → entry_of new k ≡ entry_of old k
    others k not has =
        a.others k not (λ inside. has (key-inserted ls n t k (inr inside))) ∙ h.others k not (λ below. has (key-inserted ls n t k (inl below)))

    all : Grows old new key (insert ls n t)
    all = record {
      superblock = a.superblock ∙ h.superblock;
      root = a.root ∙ h.root;
      here = here;
      kept = kept-insert (entry_of new) ls n t (kept_same_below (entry_of mid) (entry_of new) ls same_below h.kept) a.kept;
      distinct = distinct-insert ls n t h.distinct a.distinct (λ k inside below. old_key k below inside);
      fresh = fresh;
      others = others;
      objects = let one = a.objects in let before = h.objects in let both = objects-insert ls n t in omega (arith, one, before, both);
    }

-- ---- one object

-- a node without links below it
pub adds_leaf : (old new : ObjectTree) (key : ℕ) (n : Name) (made : ℕ) (node : Node) → Inserts old new key n made node → Adds old new key n (single made node)
adds_leaf old new key n made node h = record {
  superblock = h.superblock;
  root = h.root;
  linked = λ e is ordered. h.linked e is ordered ∙ ap (λ (k : ℕ). Some (record { node = e.node; links = insert_link e.links (child_link n k) })) (sym (key-single made node));
  kept = kept-single (entry_of new) made node h.made;
  distinct = distinct-single made node;
  fresh = λ k has. ap (entry_of old) (sym (has-single made node k has)) ∙ h.fresh;
  others = λ k not has. h.others k not (λ is. has (subst (HasKey (single made node)) (key-single made node ∙ sym is) (own_key (single made node))));
  objects = h.objects ∙ ap (λ (x : ℕ). object_count old + x) (sym (objects-single made node));
}

-- the links of the group that grows ascend
pub ascend_next : (old mid : ObjectTree) (key : ℕ) (ls : KeyedLinks) (n : Name) → Grows old mid key ls → IsBareGroup old key → AreOrdered (names ls ++ n ∷ []) → LinksAscend mid key
ascend_next old mid key ls n h g ordered e is =
    let same : record { node = g.node; links = child_links ls } ≡ e = some_is (record { node = g.node; links = child_links ls }) e (sym (grown_entry old mid key ls h g) ∙ is) in
    subst (λ (x : Kept). AreOrdered (link_names x.links)) same (subst AreOrdered (sym (names-links ls)) (ordered_front (names ls) (n ∷ []) ordered))
