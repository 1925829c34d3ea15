-- The tree that is kept, with one link more and one fewer.
use Rattle.std.proofs.Common.{◌≡◌, ◌≢◌, ◌⊎◌, ℕ, Bool, true, false, cond, List, [], ◌∷◌, Option, Some, None, Ok, refl}
use Rattle.std.proofs.Common.{sym, ap, ◌∙◌, subst, inl, inr}
use Rattle.std.proofs.lemmas.Bool.Decides.{eqb_tells}
use Rattle.super_codec.specs.Super.{Fits}
use Rattle.object_model.specs.Tree.{Tree, Group, Leaf, Links, Empty, Link, Name, name_lt, same_name, find, walk, edit}
use Rattle.object_model.specs.Tree.{replace, relink, insert, remove, dir_of, last_of, IsOrdered, AreOrdered}
use Rattle.object_model.specs.Tree.{AreOrderedBelow}
use Rattle.file_model.specs.Holds.{GroupAt, Full}
use Rattle.header_reader.specs.Told.{IsSoundNode}
use Rattle.tree_nodes.specs.declared.node.Node.{Node}
use Rattle.tree_nodes.specs.declared.node.NodeId.{NodeId}
use Rattle.tree_nodes.specs.declared.tree.ObjectTree.{ObjectTree}
use Rattle.tree_nodes.specs.Nodes.{Kept, bare, is_group, link_names, find_link, remove_link}
use Rattle.tree_nodes.specs.Entries.{entry_of, root_of, superblock_of, LacksLink, HasLooseLink, Same, Inserts, Removes}
use Rattle.tree_nodes.specs.Shown.{Placed, Keyed, KeyedLinks, Shows, key_of, links_of, child_links, kept_of, single}
use Rattle.tree_nodes.specs.Shown.{HasKey, HasKeyBelow, AreKept, AreKeptBelow}
use Rattle.tree_nodes.proofs.ChangeLemmas.{kept_first, key-single, ordered_links, find-links, child_at}
use Rattle.tree_nodes.proofs.EditLemmas.{first_step, own_key, walked_key, kept_found, kept_walked}
use Rattle.tree_nodes.proofs.ShownLemmas.{shows_same}
use Rattle.object_tree.specs.Grown.{LinksAscend}
use Rattle.object_tree.specs.Opened.{Matches}
use Rattle.object_tree.specs.Sound.{LeadToNodes, HasSoundNodes, KeepsOnly, IsSoundTree}
use Rattle.object_tree.proofs.Sounds.{sound_insert}
use Rattle.tree_places.specs.Places.{regroup, add_place, remove_place}
use Rattle.tree_places.specs.Kept.{LeadsTo, CanAdd, CanRemove, HasPlaces, LeavesParent}
use Rattle.tree_places.specs.Laws.{SameStays}
use Rattle.tree_places.proofs.Matched.{matches_add, matches_remove}
use Rattle.tree_places.proofs.Nodes.{some_here}

-- ---- edits that are alike

replace_alike : {G L : Type 0} (ls : Links G L) (n : Name) (f g : Tree G L → Tree G L) → ((u : Tree G L)
    → f u ≡ g u) → replace ls n f ≡ replace ls n g
replace_alike Empty n f g same = refl
replace_alike {G = G} {L = L} (Link m t rest) n f g same = go (same_name m n) (replace_alike rest n f g same)
  where
    go : (b : Bool) → replace rest n f ≡ replace rest n g → cond b (Link m (f t) rest) (Link m t
        (replace rest n f)) ≡ cond b (Link m (g t) rest) (Link m t (replace rest n g))
    go true later = ap (λ (x : Tree G L). Link m x rest) (same t)
    go false later = ap (Link m t) later

edit_alike : {G L : Type 0} (p : List Name) (f g : Tree G L → Tree G L) (t : Tree G L) → ((u : Tree G L)
    → f u ≡ g u) → edit p f t ≡ edit p g t
edit_alike [] f g t same = same t
edit_alike (n ∷ ns) f g (Leaf l) same = refl
edit_alike (n ∷ ns) f g (Group x ls) same = ap (Group x) (replace_alike ls n (edit ns f) (edit ns g)
    (λ u. edit_alike ns f g u same))

linked_alike : {G L : Type 0} (h : Links G L → Links G L) (u : Tree G L) → relink h u ≡ regroup (λ x. x) h u
linked_alike h (Group g ls) = refl
linked_alike h (Leaf l) = refl

-- ---- keys that stay

replaced_stays : (ls : KeyedLinks) (n : Name) (g : Keyed → Keyed) (v : Keyed) (k : ℕ) → find ls n ≡ Some v
    → (HasKey v k → HasKey (g v) k) → HasKeyBelow ls k → HasKeyBelow (replace ls n g) k
replaced_stays Empty n g v k is stays h = h
replaced_stays (Link m t rest) n g v k is stays h =
    (elim (same_name m n) as (λ b. cond b (Some t) (find rest n) ≡ Some v
    → HasKeyBelow (cond b (Link m (g t) rest) (Link m t (replace rest n g))) k) [
      | true ↦ λ q. let same : v ≡ t = cc in elim h [
        | inl a ↦ inl (subst (λ (y : Keyed). HasKey y k
            → HasKey (g y) k) same stays a)
        | inr b ↦ inr b
      ]
      | false ↦ λ q. elim h [ inl a ↦ inl a | inr b ↦ inr (replaced_stays rest n g v k q stays b) ]
    ]) is

edited_stays : (p : List Name) (f : Keyed → Keyed) (t u : Keyed) (k : ℕ) → walk t p ≡ Ok u → (HasKey u k
    → HasKey (f u) k) → HasKey t k → HasKey (edit p f t) k
edited_stays [] f t u k w stays h = let here : u ≡ t = cc in subst (λ (y : Keyed). HasKey y k
    → HasKey (f y) k) here stays h
edited_stays (n ∷ ns) f (Leaf x) u k w stays h = h
edited_stays (n ∷ ns) f (Group x ls) u k w stays h =
    let (v, is, next) = first_step x ls n ns u w in
    elim h [
      | inl own ↦ inl own
      | inr below ↦ inr (replaced_stays ls n (edit ns f) v k is
          (edited_stays ns f v u k next stays) below)
    ]

replaced_comes : (ls : KeyedLinks) (n : Name) (g : Keyed → Keyed) (v : Keyed) (k : ℕ) → find ls n ≡ Some v
    → HasKey (g v) k → HasKeyBelow (replace ls n g) k
replaced_comes Empty n g v k is h = absurd cc
replaced_comes (Link m t rest) n g v k is h =
    (elim (same_name m n) as (λ b. cond b (Some t) (find rest n) ≡ Some v
    → HasKeyBelow (cond b (Link m (g t) rest) (Link m t (replace rest n g))) k) [
      | true ↦ λ q. let same : v ≡ t = cc in inl (subst (λ (y : Keyed). HasKey (g y) k) same h)
      | false ↦ λ q. inr (replaced_comes rest n g v k q h)
    ]) is

edited_comes : (p : List Name) (f : Keyed → Keyed) (t u : Keyed) (k : ℕ) → walk t p ≡ Ok u → HasKey (f u) k
    → HasKey (edit p f t) k
edited_comes [] f t u k w h = let here : u ≡ t = cc in subst (λ (y : Keyed). HasKey (f y) k) here h
edited_comes (n ∷ ns) f (Leaf x) u k w h = absurd cc
edited_comes (n ∷ ns) f (Group x ls) u k w h =
    let (v, is, next) = first_step x ls n ns u w in
    inr (replaced_comes ls n (edit ns f) v k is (edited_comes ns f v u k next h))

inserted_stays : (ls : KeyedLinks) (n : Name) (new : Keyed) (k : ℕ) → HasKeyBelow ls k → HasKeyBelow (insert ls n new) k
inserted_stays Empty n new k h = absurd h
inserted_stays (Link m t rest) n new k h =
    elim (name_lt n m) as (λ b. HasKeyBelow (cond b (Link n new (Link m t rest)) (Link m t (insert rest n new))) k) [
      | true ↦ inr h
      | false ↦ elim h [ inl a ↦ inl a | inr b ↦ inr (inserted_stays rest n new k b) ]
    ]

inserted_comes : (ls : KeyedLinks) (n : Name) (new : Keyed) (k : ℕ) → HasKey new k → HasKeyBelow (insert ls n new) k
inserted_comes Empty n new k h = inl h
inserted_comes (Link m t rest) n new k h =
    elim (name_lt n m) as (λ b. HasKeyBelow (cond b (Link n new (Link m t rest)) (Link m t (insert rest n new))) k) [
      | true ↦ inl h
      | false ↦ inr (inserted_comes rest n new k h)
    ]

removed_stays : (ls : KeyedLinks) (n : Name) (v : Keyed) (k : ℕ) → find ls n ≡ Some v → (HasKey v k → ⊥)
    → HasKeyBelow ls k → HasKeyBelow (remove ls n) k
removed_stays Empty n v k is lacks h = h
removed_stays (Link m t rest) n v k is lacks h =
    (elim (same_name m n) as (λ b. cond b (Some t) (find rest n) ≡ Some v
    → HasKeyBelow (cond b rest (Link m t (remove rest n))) k) [
      | true ↦ λ q. let same : v ≡ t = cc in elim h [
        | inl a ↦ absurd (subst (λ (y : Keyed). HasKey y k
            → ⊥) same lacks a)
        | inr b ↦ b
      ]
      | false ↦ λ q. elim h [ inl a ↦ inl a | inr b ↦ inr (removed_stays rest n v k q lacks b) ]
    ]) is

-- whether a node of the tree has the key
mutual
  decide_key : (t : Keyed) (k : ℕ) → HasKey t k ⊎ (HasKey t k → ⊥)
  decide_key (Group x ls) k =
      elim (eqb_tells x.key k) [
        | inl same ↦ inl (inl same.1)
        | inr other ↦ elim (decide_below ls k) [
          | inl below ↦ inl (inr below)
          | inr none ↦ inr
              (λ h. elim h [ inl own ↦ other.1 own | inr below ↦ none below ])
        ]
      ]
  decide_key (Leaf x) k = elim (eqb_tells x.key k) [ inl same ↦ inl same.1 | inr other ↦ inr other.1 ]

  decide_below : (ls : KeyedLinks) (k : ℕ) → HasKeyBelow ls k ⊎ (HasKeyBelow ls k → ⊥)
  decide_below Empty k = inr (λ h. h)
  decide_below (Link n t rest) k =
      elim (decide_key t k) [
        | inl here ↦ inl (inl here)
        | inr none ↦ elim (decide_below rest k) [
          | inl there ↦ inl (inr there)
          | inr never ↦ inr
              (λ h. elim h [ inl a ↦ none a | inr b ↦ never b ])
        ]
      ]

-- ---- what is kept of a tree that is shown

lead_below : (kept : ObjectTree) (ls : KeyedLinks) → AreKeptBelow (entry_of kept) ls → LeadToNodes kept (child_links ls)
lead_below kept Empty h = tt
lead_below kept (Link n t rest) h = (
  some_here kept (record { key = key_of t }) (kept_of t) (kept_first
      (entry_of kept) t h.0),
  lead_below kept rest h.1,
)

-- names ascend, and each leads to a node
abbrev IsLinked : ObjectTree → Kept → Type 0
IsLinked kept e = AreOrdered (link_names e.links) × LeadToNodes kept e.links

some_is : (e x : Kept) → Some e ≡ Some x → e ≡ x
some_is e x is = cc

mutual
  linked : (kept : ObjectTree) (t : Keyed) (k : ℕ) (e : Kept) → AreKept (entry_of kept) t → IsOrdered t
      → HasKey t k → entry_of kept k ≡ Some e → IsLinked kept e
  linked kept (Group x ls) k e h o (inl own) is =
      subst (IsLinked kept) (some_is _ e (sym h.1 ∙ ap (entry_of kept) own
      ∙ is)) (ordered_links (Group x ls) o, lead_below kept ls h.2)
  linked kept (Group x ls) k e h o (inr below) is = linked_below kept ls k e h.2 o.1 below is
  linked kept (Leaf x) k e h o own is = subst (IsLinked kept) (some_is _ e (sym h.1 ∙ ap (entry_of kept) own
      ∙ is)) (tt, tt)

  linked_below : (kept : ObjectTree) (ls : KeyedLinks) (k : ℕ) (e : Kept) → AreKeptBelow (entry_of kept) ls
      → AreOrderedBelow ls → HasKeyBelow ls k → entry_of kept k ≡ Some e → IsLinked kept e
  linked_below kept Empty k e h o below is = absurd below
  linked_below kept (Link n t rest) k e h o (inl here) is = linked kept t k e h.0 o.0 here is
  linked_below kept (Link n t rest) k e h o (inr there) is = linked_below kept rest k e h.1 o.1 there is

-- A tree is sound where it is shown, nothing else is kept, and each node is sound.
sound_shown : (kept : ObjectTree) (t : Keyed) → Fits (superblock_of kept) → Shows kept t → KeepsOnly kept t
    → ((k : ℕ) (e : Kept) → entry_of kept k ≡ Some e → IsSoundNode e.node) → IsSoundTree kept
sound_shown kept t fits shows only nodes = record {
  k_values = fits;
  nodes = record {
    root = some_here kept (root_of kept) (kept_of t) (ap (entry_of kept) (sym shows.root)
        ∙ kept_first (entry_of kept) t shows.nodes);
    entries = λ k e is.
        elim (decide_key t k) [
          | inl has ↦ let l = linked kept t k e shows.nodes shows.ordered has is in record {
            node = nodes k e is;
            ordered = l.0;
            linked = l.1;
          }
          | inr none ↦ let clash : None ≡ Some e = sym (only k none) ∙ is in absurd cc
        ];
  };
  tree = t;
  shown = shows;
  only = only;
}

-- ---- one link more

-- the tree that is shown then
pub more_shown : (old new : ObjectTree) (group : NodeId) (name : Name) (key : ℕ) (n : Node) (p : List Name) (t : Keyed)
    → ((t u : Keyed) (q : List Name) → Shows old t → walk t q ≡ Ok u → key_of u ≡ group.key
    → Shows new (edit q (relink (λ ls. insert ls name (single key n))) t))
    → last_of p ≡ name → CanAdd old p group → Shows old t → Shows new (add_place (λ x. x) p (single key n) t)
more_shown old new group name key n p t tree same can shows =
    let (u, w, at) = can.leads t shows in
    subst (λ (m : Name). Shows new (edit (dir_of p) (regroup (λ x. x) (λ ls. insert ls m (single key n))) t)) (sym same)
    (subst (Shows new) (edit_alike (dir_of p) _ _ t (λ v. linked_alike (λ ls. insert ls name (single key n)) v))
    (tree t u (dir_of p) shows w at))

more_stays : (name : Name) (new u : Keyed) (k : ℕ) → HasKey u k → HasKey (relink (λ ls. insert ls name new) u) k
more_stays name new (Group x ls) k h = elim h [
  | inl own ↦ inl own
  | inr below ↦ inr
      (inserted_stays ls name new k below)
]
more_stays name new (Leaf x) k h = h

more_comes : (at : ℕ → Option Kept) (e : Kept) (name : Name) (key : ℕ) (n : Node) (u : Keyed) → AreKept at u
    → at (key_of u) ≡ Some e → is_group e.node ≡ true → HasKey (relink (λ ls. insert ls name (single key n)) u) key
more_comes at e name key n (Group x ls) h is group = inr (inserted_comes ls name (single key n) key (subst (HasKey
    (single key n)) (key-single key n) (own_key (single key n))))
more_comes at e name key n (Leaf x) h is group =
    let same : e ≡ bare x.node = some_is _ _ (sym is ∙ h.1) in
    let no : is_group e.node ≡ false = ap (λ (y : Kept). is_group y.node) same ∙ h.0 in
    absurd cc

pub more_sound : (old new : ObjectTree) (group : NodeId) (name : Name) (key : ℕ) (n : Node) → IsSoundTree old
    → IsSoundNode n → (p : List Name) × (last_of p ≡ name) × CanAdd old p group → Inserts old new group.key name key n
    → ((t u : Keyed) (q : List Name) → Shows old t → walk t q ≡ Ok u → key_of u ≡ group.key
    → Shows new (edit q (relink (λ ls. insert ls name (single key n))) t)) → IsSoundTree new
more_sound old new group name key n sound node (p, named, can) ins tree =
    let t = sound.tree in
    let (u, w, at) = can.leads t sound.shown in
    let f : Keyed → Keyed = relink (λ ls. insert ls name (single key n)) in
    let kept = kept_walked (entry_of old) (dir_of p) t u w sound.shown.nodes in
    let lacks : LacksLink old group name = subst (LacksLink old group) named can.lacks in
    let here : entry_of old (key_of u) ≡ Some lacks.0 = ap (entry_of old) at ∙ lacks.1 in
    let ascend : LinksAscend old group.key = λ e is. (sound.nodes.entries group.key e is).ordered in
    record {
      k_values = subst Fits (sym ins.superblock) sound.k_values;
      nodes = sound_insert old new group name key n lacks ascend ins node sound.nodes;
      tree = edit (dir_of p) f t;
      shown = tree t u (dir_of p) sound.shown w at;
      only = λ k none.
          ins.others k
          (λ same. none (edited_stays (dir_of p) f t u k w (more_stays name (single key n) u k) (walked_key
          (dir_of p) t u k w (subst (HasKey u) (at ∙ sym same) (own_key u)))))
          (λ same. none (subst (HasKey (edit (dir_of p) f t)) (sym same) (edited_comes (dir_of p) f t u key w
          (more_comes (entry_of old) lacks.0 name key n u kept here lacks.2))))
          ∙ sound.only k (λ has. none (edited_stays (dir_of p) f t u k w (more_stays name (single key n) u k) has));
    }

pub more_places : (old new : ObjectTree) (group : NodeId) (name : Name) (key : ℕ) (n : Node)
    → ((t u : Keyed) (q : List Name) → Shows old t → walk t q ≡ Ok u → key_of u ≡ group.key
    → Shows new (edit q (relink (λ ls. insert ls name (single key n))) t))
    → (p : List Name) (f : GroupAt → GroupAt) (t u : Full) → last_of p ≡ name → CanAdd old p group
    → HasPlaces old t → LeavesParent f p t → Matches (single key n) u → HasPlaces new (add_place f p u t)
more_places old new group name key n tree p f t u same can h leaves m = record {
  keyed = add_place (λ x. x) p (single key n) h.keyed;
  shown = more_shown old new group name key n p h.keyed tree same can h.shown;
  same = matches_add p f h.keyed (single key n) t u h.same m leaves;
}

-- ---- one link fewer

pub fewer_shown : (old new : ObjectTree) (group : NodeId) (name : Name) (p : List Name) (t : Keyed)
    → ((t u : Keyed) (q : List Name) → Shows old t → walk t q ≡ Ok u → key_of u ≡ group.key
    → Shows new (edit q (relink (λ ls. remove ls name)) t))
    → last_of p ≡ name → CanRemove old p group → Shows old t → Shows new (remove_place (λ x. x) p t)
fewer_shown old new group name p t tree same can shows =
    let (u, w, at) = can.leads t shows in
    subst (λ (m : Name). Shows new (edit (dir_of p) (regroup (λ x. x) (λ ls. remove ls m)) t)) (sym same)
    (subst (Shows new) (edit_alike (dir_of p) _ _ t (λ v. linked_alike (λ ls. remove ls name) v)) (tree t u
    (dir_of p) shows w at))

fewer_stays : (name : Name) (x : Placed) (ls : KeyedLinks) (v : Keyed) (k : ℕ) → find ls name ≡ Some v
    → (HasKey v k → ⊥) → HasKey (Group x ls) k → HasKey (relink (λ l. remove l name) (Group x ls)) k
fewer_stays name x ls v k is lacks h = elim h [
  | inl own ↦ inl own
  | inr below ↦ inr
      (removed_stays ls name v k is lacks below)
]

pub fewer_places : (old new : ObjectTree) (group : NodeId) (name : Name)
    → ((t u : Keyed) (q : List Name) → Shows old t → walk t q ≡ Ok u → key_of u ≡ group.key
    → Shows new (edit q (relink (λ ls. remove ls name)) t))
    → (p : List Name) (f : GroupAt → GroupAt) (t : Full) → last_of p ≡ name → CanRemove old p group
    → HasPlaces old t → LeavesParent f p t → HasPlaces new (remove_place f p t)
fewer_places old new group name tree p f t same can h leaves = record {
  keyed = remove_place (λ x. x) p h.keyed;
  shown = fewer_shown old new group name p h.keyed tree same can h.shown;
  same = matches_remove p f h.keyed t h.same leaves;
}

loose_key : (v : Keyed) (k : ℕ) → links_of v ≡ [] → HasKey v k → key_of v ≡ k
loose_key (Group y Empty) k none h = elim h [ inl own ↦ own | inr below ↦ absurd below ]
loose_key (Group y (Link n t rest)) k none h = absurd cc
loose_key (Leaf y) k none h = h

-- all other nodes stay
others_stay : (old : ObjectTree) (u : Keyed) (name : Name) (g : Kept) (child : NodeId) (n : Node)
    → AreKept (entry_of old) u → g ≡ kept_of u → find_link g.links name ≡ Some child
    → entry_of old child.key ≡ Some (bare n)
    → (k : ℕ) → k ≢ child.key → HasKey u k → HasKey (relink (λ ls. remove ls name) u) k
others_stay old (Leaf x) name g child n h same found loose k apart has = has
others_stay old (Group x ls) name g child n h same found loose k apart has =
    let leads : find_link (child_links ls) name ≡ Some child = subst (λ
    (e : Kept). find_link e.links name ≡ Some child) same found in
    let (v, is, key) = child_at ls name child (sym (find-links ls name) ∙ leads) in
    let there = kept_first (entry_of old) v (kept_found (entry_of old) ls name v is h.2) in
    let both : Some (bare n) ≡ Some (kept_of v) = sym loose ∙ ap (entry_of old) (sym key) ∙ there in
    let empty : [] ≡ links_of v = ap (λ (e : Kept). e.links) (some_is (bare n) (kept_of v) both) in
    fewer_stays name x ls v k is (λ inside. apart (sym (loose_key v k (sym empty) inside) ∙ key)) has

-- each node that is left is sound
left_sound : (old new : ObjectTree) (group : NodeId) (name : Name) (child : ℕ) (g : Kept) → HasSoundNodes old
    → entry_of old group.key ≡ Some g → Removes old new group.key name child
    → (k : ℕ) (e : Kept) → entry_of new k ≡ Some e → IsSoundNode e.node
left_sound old new group name child g sound at rem k e is =
    elim (eqb_tells k child) [
      | inl same ↦ let clash : None ≡ Some e = sym rem.gone ∙ sym (ap (entry_of new) same.1) ∙ is in absurd cc
      | inr other ↦
          elim (eqb_tells k group.key) [
            | inl same ↦
                let here : record { node = g.node; links = remove_link g.links name } ≡ e = some_is _ e (sym
                (rem.linked g at) ∙ sym (ap (entry_of new) same.1) ∙ is) in
                subst IsSoundNode (ap (λ (x : Kept). x.node) here) (sound.entries group.key g at).node
            | inr more ↦ (sound.entries k e (sym (rem.others k more.1 other.1) ∙ is)).node
          ]
    ]

pub fewer_sound : (old new : ObjectTree) (group : NodeId) (name : Name) → IsSoundTree old
    → (p : List Name) × (last_of p ≡ name) × CanRemove old p group
    → ((e : Kept) (child : NodeId) → entry_of old group.key ≡ Some e → AreOrdered (link_names e.links)
    → find_link e.links name ≡ Some child → Removes old new group.key name child.key)
    → ((t u : Keyed) (q : List Name) → Shows old t → walk t q ≡ Ok u → key_of u ≡ group.key
    → Shows new (edit q (relink (λ ls. remove ls name)) t)) → IsSoundTree new
fewer_sound old new group name sound (p, named, can) removes tree =
    let t = sound.tree in
    let (u, w, at) = can.leads t sound.shown in
    let f : Keyed → Keyed = relink (λ ls. remove ls name) in
    let kept = kept_walked (entry_of old) (dir_of p) t u w sound.shown.nodes in
    let loose : HasLooseLink old group name = subst (HasLooseLink old group) named can.loose in
    let rem = removes loose.group loose.child loose.at (sound.nodes.entries group.key loose.group loose.at).ordered
    loose.found in
    let same : loose.group ≡ kept_of u = some_is loose.group (kept_of u) (sym loose.at
    ∙ ap (entry_of old) (sym at) ∙ kept_first (entry_of old) u kept) in
    let stays : (k : ℕ) → k ≢ loose.child.key → HasKey t k → HasKey (edit (dir_of p) f t) k =
    λ k apart has. edited_stays (dir_of p) f t u k w (others_stay old u name loose.group loose.child loose.node kept
    same loose.found loose.loose k apart) has in
    sound_shown new (edit (dir_of p) f t) (subst Fits (sym rem.superblock) sound.k_values) (tree t u
    (dir_of p) sound.shown w at)
    (λ k none.
    elim (eqb_tells k loose.child.key) [
      | inl gone ↦ ap (entry_of new) gone.1 ∙ rem.gone
      | inr other ↦
          rem.others k (λ here. none (stays k other.1 (walked_key (dir_of p) t u k w (subst (HasKey u) (at
          ∙ sym here) (own_key u))))) other.1
          ∙ sound.only k (λ has. none (stays k other.1 has))
    ])
    (left_sound old new group name loose.child.key loose.group sound.nodes loose.at rem)

-- ---- nothing changes

abbrev back : (old new : ObjectTree) → Same old new → Same new old
back old new same = record {
  superblock = sym same.superblock;
  root = sym same.root;
  entries = λ k. sym (same.entries k);
  objects = sym same.objects;
}

leads_on : (old new : ObjectTree) (p : List Name) (id : NodeId) → Same old new → LeadsTo old p id → LeadsTo new p id
leads_on old new p id same leads = λ t shows. leads t (shows_same new old (back old new same) t shows)

pub same_stays : SameStays
same_stays old new same = record {
  same = same;
  sound = λ sound.
      sound_shown new sound.tree (subst Fits (sym same.superblock) sound.k_values)
      (shows_same old new same sound.tree sound.shown) (λ k none. same.entries k ∙ sound.only k none)
      (λ k e is. (sound.nodes.entries k e (sym (same.entries k) ∙ is)).node);
  places = λ t h. record { keyed = h.keyed; shown = shows_same old new same h.keyed h.shown; same = h.same };
  add = λ p id can. record {
    leads = leads_on old new (dir_of p) id same can.leads;
    lacks = (can.lacks.0, same.entries id.key ∙ can.lacks.1, can.lacks.2, can.lacks.3);
  };
  remove = λ p id can. record {
    leads = leads_on old new (dir_of p) id same can.leads;
    loose = record {
      group = can.loose.group;
      at = same.entries id.key ∙ can.loose.at;
      child = can.loose.child;
      found = can.loose.found;
      node = can.loose.node;
      loose = same.entries can.loose.child.key ∙ can.loose.loose;
    };
  };
}
