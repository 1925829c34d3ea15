-- What is found at a node that the program keeps.
use Rattle.std.proofs.Common.{◌≡◌, ◌<◌, ◌≤◌, ℕ, suc, ◌+◌, ◌-◌, Bool, true, false, cond, List, [], ◌∷◌, length, get_or}
use Rattle.std.proofs.Common.{take, drop, Option, Some, None, IsSome, is_some, Result, Ok, Err, IfOk, ok_or, refl}
use Rattle.std.proofs.Common.{sym, ap, ◌∙◌, subst, arith}
use Rattle.std.specs.Option.{option_map}
use Rattle.std.proofs.lemmas.List.{at_drop_more, at_drop_all}
use Rattle.object_model.specs.declared.answer.Code.{Code}
use Rattle.object_model.specs.declared.answer.Code.TheVariants.{Absent, Exists, NotEmpty, NotGroup}
use Rattle.object_model.specs.Tree.{Group, Leaf, Empty, Link, Name, same_name, find, child, walk, dir_of, last_of}
use Rattle.object_model.specs.Tree.{◌>>=◌}
use Rattle.tree_nodes.specs.declared.node.Node.{Node}
use Rattle.tree_nodes.specs.declared.node.Node.TheVariants as node
use Rattle.tree_nodes.specs.declared.node.NodeId.{NodeId}
use Rattle.tree_nodes.specs.declared.node.ChildLink.{ChildLink}
use Rattle.tree_nodes.specs.declared.tree.ObjectTree.{ObjectTree}
use Rattle.tree_nodes.specs.Nodes.{Kept, is_group, find_link}
use Rattle.tree_nodes.specs.Entries.{entry_of, Has, LacksLink, HasLooseLink}
use Rattle.tree_nodes.specs.Shown.{Keyed, Shows, key_of, links_of, kept_of, AreKept}
use Rattle.tree_nodes.proofs.ChangeLemmas.{kept_first, find-links}
use Rattle.tree_nodes.proofs.EditLemmas.{kept_found, kept_walked}
use Rattle.object_tree.specs.Sound.{LeadToNodes}
use Rattle.tree_places.specs.Places.{has_children, lacking, loosely, to_add, to_remove}
use Rattle.tree_places.specs.Kept.{child_in, Finds, LeadsTo, CanAdd, CanRemove}

-- ---- one node

some_of : (o : Option Kept) → IsSome o → (e : Kept) × (o ≡ Some e)
some_of None h = absurd cc
some_of (Some e) h = (e, refl)

-- what is kept of a node that is there
pub kept_here : (kept : ObjectTree) (id : NodeId) → Has kept id → (e : Kept) × (entry_of kept id.key ≡ Some e)
kept_here kept id has = some_of (entry_of kept id.key) has

pub some_here : (kept : ObjectTree) (id : NodeId) (e : Kept) → entry_of kept id.key ≡ Some e → Has kept id
some_here kept id e is = subst IsSome (sym is) refl

some_is : (e x : Kept) → Some e ≡ Some x → e ≡ x
some_is e x is = cc

-- it is the node of the tree that is shown
pub entry_at : (kept : ObjectTree) (id : NodeId) (u : Keyed) (e : Kept) → AreKept (entry_of kept) u
    → key_of u ≡ id.key → entry_of kept id.key ≡ Some e → e ≡ kept_of u
entry_at kept id u e nodes key is = some_is e (kept_of u) (sym is ∙ ap (entry_of kept) (sym key)
    ∙ kept_first (entry_of kept) u nodes)

-- ---- the kinds of nodes

pub no_group : (n : Node) → ((header tree heap : ℕ) → n ≡ node.Group header tree heap → ⊥) → is_group n ≡ false
no_group (node.Group header tree heap) h = absurd (h header tree heap refl)
no_group (node.Dataset header shape elem fill layout filtered) h = refl
no_group (node.Soft text) h = refl
no_group (node.Other header) h = refl

-- ---- names

lead_found : (kept : ObjectTree) (links : List ChildLink) (n : Name) → LeadToNodes kept links
    → IfOk {E = Code} (ok_or (find_link links n) Absent) (Has kept)
lead_found kept [] n h = tt
lead_found kept (l ∷ ls) n h =
    elim (same_name l.name n) as (λ b. IfOk {E = Code} (ok_or (cond b (Some l.node) (find_link ls n)) Absent)
    (Has kept)) [
      | true ↦ h.0
      | false ↦ lead_found kept ls n h.1
    ]

pub found_has : (kept : ObjectTree) (links : List ChildLink) (n : Name) (r : Option NodeId)
    → LeadToNodes kept links → r ≡ find_link links n → IfOk {E = Code} (ok_or r Absent) (Has kept)
found_has kept links n r h is = subst (λ (o : Option NodeId). IfOk {E = Code} (ok_or o Absent) (Has kept)) (sym is)
    (lead_found kept links n h)

pub child_is : (e : Kept) (n : Name) (r : Option NodeId) → is_group e.node ≡ true → r ≡ find_link e.links n
    → ok_or r Absent ≡ child_in e n
child_is e n r isg is = rw isg (ap (λ (o : Option NodeId). ok_or o Absent) is)

pub child_none : (e : Kept) (n : Name) → is_group e.node ≡ false → Err NotGroup ≡ child_in e n
child_none e n isg = rw isg refl

-- what a name leads to in a group
pub link_found : (e : Kept) (n : Name) (next : NodeId) → Ok next ≡ child_in e n → find_link e.links n ≡ Some next
link_found e n next is = go (is_group e.node) (find_link e.links n) is
  where
    go : (b : Bool) (o : Option NodeId) → Ok next ≡ cond b (ok_or o Absent) (Err NotGroup) → o ≡ Some next
    go true None q = absurd cc
    go true (Some m) q = cc
    go false o q = absurd cc

id_finds : (o : Option Keyed) → Finds (ok_or o Absent) (ok_or (option_map (λ u. record { key = key_of u }) o) Absent)
id_finds None = refl
id_finds (Some u) = refl

pub child_finds : (at : ℕ → Option Kept) (u : Keyed) (n : Name) → AreKept at u
    → Finds (child u n) (child_in (kept_of u) n)
child_finds at (Group x ks) n h = rw h.0 (rw (find-links ks n) (id_finds (find ks n)))
child_finds at (Leaf x) n h = rw h.0 refl

-- in terms of what is kept
pub child_at : (kept : ObjectTree) (id : NodeId) (u : Keyed) (n : Name) (e : Kept) (r : Result NodeId Code)
    → AreKept (entry_of kept) u → key_of u ≡ id.key → entry_of kept id.key ≡ Some e → r ≡ child_in e n
    → Finds (child u n) r
child_at kept id u n e r nodes key at is =
    let same = entry_at kept id u e nodes key at in
    subst (Finds (child u n)) (ap (λ (x : Kept). child_in x n) (sym same)
    ∙ sym is) (child_finds (entry_of kept) u n nodes)

pub finds_ok : (a : Result Keyed Code) (id : NodeId) → Finds a (Ok id) → (u : Keyed) × (a ≡ Ok u) × (key_of u ≡ id.key)
finds_ok (Ok u) id h = (u, refl, h)
finds_ok (Err code) id h = absurd h

pub finds_err : (a : Result Keyed Code) (code : Code) → Finds a (Err code) → a ≡ Err code
finds_err (Ok u) code h = absurd h
finds_err (Err other) code h = ap Err h

-- what a child is, is kept
pub child_kept : (at : ℕ → Option Kept) (u v : Keyed) (n : Name) → AreKept at u → child u n ≡ Ok v → AreKept at v
child_kept at (Group x ks) v n h is = go (find ks n) refl is
  where
    go : (o : Option Keyed) → find ks n ≡ o → ok_or o Absent ≡ Ok v → AreKept at v
    go None there q = absurd cc
    go (Some w) there q = let same : w ≡ v = cc in subst (AreKept at) same (kept_found at ks n w there h.2)
child_kept at (Leaf x) v n h is = absurd cc

-- ---- steps of a walk

step_here : (u : Keyed) (path : List Name) (i : ℕ) (name : Name) → i < length path → name ≡ get_or path i name
    → walk u (drop i path) ≡ walk u (name ∷ drop (i + 1) path)
step_here u path i name lt is = at_drop_more (walk u) path i name lt
    ∙ ap (λ (q : Name). walk u (q ∷ drop (i + 1) path)) (sym is)

-- a step that goes on
pub walk_on : (u v : Keyed) (path : List Name) (i : ℕ) (name : Name) → i < length path → name ≡ get_or path i name
    → child u name ≡ Ok v → walk u (drop i path) ≡ walk v (drop (i + 1) path)
walk_on u v path i name lt is leads = step_here u path i name lt is
    ∙ ap (λ (r : Result Keyed Code). r >>= λ x. walk x (drop (i + 1) path)) leads

-- a step that is refused
pub walk_stops : (u : Keyed) (path : List Name) (i : ℕ) (name : Name) (code : Code) → i < length path
    → name ≡ get_or path i name → child u name ≡ Err code → walk u (drop i path) ≡ Err code
walk_stops u path i name code lt is refused = step_here u path i name lt is
    ∙ ap (λ (r : Result Keyed Code). r >>= λ x. walk x (drop (i + 1) path)) refused

-- no step is left
pub walk_ends : (u : Keyed) (path : List Name) (i : ℕ) → length path ≤ i → walk u (drop i path) ≡ Ok u
walk_ends u path i le = at_drop_all (walk u) path i le

pub end_found : (t u : Keyed) (path : List Name) (i : ℕ) (id : NodeId) → walk t path ≡ walk u (drop i path)
    → length path ≤ i → key_of u ≡ id.key → Finds (walk t path) (Ok id)
end_found t u path i id w le key = rw (w ∙ walk_ends u path i le) key

pub stop_found : (t u : Keyed) (path : List Name) (i : ℕ) (name : Name) (code : Code)
    → walk t path ≡ walk u (drop i path) → i < length path → name ≡ get_or path i name → child u name ≡ Err code
    → Finds (walk t path) (Err code)
stop_found t u path i name code w lt is refused = rw (w ∙ walk_stops u path i name code lt is refused) refl

-- ---- the names of a path

pub dir_is : (p : List Name) → 0 < length p → dir_of p ≡ take (length p - 1) p
dir_is [] lt = absurd (omega arith)
dir_is (n ∷ []) lt = refl
dir_is (n ∷ m ∷ ns) lt = let later = dir_is (m ∷ ns) (omega arith) in let one : length (n ∷ m ∷ ns) - 1 ≡ suc
    (length (m ∷ ns) - 1) = omega arith in rw one (ap (λ (l : List Name). n ∷ l) later)

pub last_is : (p : List Name) (d : Name) → 0 < length p → last_of p ≡ get_or p (length p - 1) d
last_is [] d lt = absurd (omega arith)
last_is (n ∷ []) d lt = refl
last_is (n ∷ m ∷ ns) d lt = let later = last_is (m ∷ ns) d (omega arith) in let one : length (n ∷ m ∷ ns) - 1 ≡ suc
    (length (m ∷ ns) - 1) = omega arith in rw one later

-- ---- a name to add

-- this node, where it is a group without the name
abbrev pub lacking_in : Kept → Name → NodeId → Result NodeId Code
lacking_in e n id = cond (is_group e.node) (cond (is_some (find_link e.links n)) (Err Exists) (Ok id)) (Err NotGroup)

lacks_finds : (u : Keyed) (id : NodeId) (o : Option Keyed) → key_of u ≡ id.key
    → Finds (cond (is_some o) (Err Exists) (Ok u)) (cond (is_some {T = NodeId} (option_map
    (λ v. record { key = key_of v }) o)) (Err Exists) (Ok id))
lacks_finds u id None key = key
lacks_finds u id (Some v) key = refl

lacking_finds : (at : ℕ → Option Kept) (u : Keyed) (n : Name) (id : NodeId) → AreKept at u → key_of u ≡ id.key
    → Finds (lacking u n) (lacking_in (kept_of u) n id)
lacking_finds at (Group x ks) n id h key = rw h.0 (rw (find-links ks n) (lacks_finds (Group x ks) id (find ks n) key))
lacking_finds at (Leaf x) n id h key = rw h.0 refl

pub lacking_at : (kept : ObjectTree) (id : NodeId) (n : Name) (e : Kept) (r : Result NodeId Code)
    → entry_of kept id.key ≡ Some e → r ≡ lacking_in e n id
    → (t u : Keyed) (p : List Name) → Shows kept t → walk t p ≡ Ok u → key_of u ≡ id.key → Finds (lacking u n) r
lacking_at kept id n e r at is t u p shows w key =
    let nodes = kept_walked (entry_of kept) p t u w shows.nodes in
    let same = entry_at kept id u e nodes key at in
    subst (Finds (lacking u n)) (ap (λ (x : Kept). lacking_in x n id) (sym same)
    ∙ sym is) (lacking_finds (entry_of kept) u n id nodes key)

pub lacking_none : (e : Kept) (n : Name) (id : NodeId) (r : Option NodeId) → is_group e.node ≡ true
    → r ≡ find_link e.links n → r ≡ None → Ok id ≡ lacking_in e n id
lacking_none e n id r isg is none = rw isg (rw (sym is ∙ none) refl)

pub lacking_some : (e : Kept) (n : Name) (id m : NodeId) (r : Option NodeId) → is_group e.node ≡ true
    → r ≡ find_link e.links n → r ≡ Some m → Err Exists ≡ lacking_in e n id
lacking_some e n id m r isg is some = rw isg (rw (sym is ∙ some) refl)

pub lacking_leaf : (e : Kept) (n : Name) (id : NodeId) → is_group e.node ≡ false → Err NotGroup ≡ lacking_in e n id
lacking_leaf e n id isg = rw isg refl

-- ---- a name to remove

children_of : (u : Keyed) → 0 < length (links_of u) → has_children u ≡ true
children_of (Group x Empty) lt = absurd (omega arith)
children_of (Group x (Link n t rest)) lt = refl
children_of (Leaf x) lt = absurd (omega arith)

no_children : (u : Keyed) → length (links_of u) ≤ 0 → has_children u ≡ false
no_children (Group x Empty) le = refl
no_children (Group x (Link n t rest)) le = absurd (omega arith)
no_children (Leaf x) le = refl

-- where the name leads nowhere
pub loosely_err : (kept : ObjectTree) (id : NodeId) (n : Name) (e : Kept) (code : Code)
    → entry_of kept id.key ≡ Some e → Err code ≡ child_in e n
    → (t u : Keyed) (p : List Name) → Shows kept t → walk t p ≡ Ok u → key_of u ≡ id.key
    → Finds (loosely u n) (Err code)
loosely_err kept id n e code at is t u p shows w key =
    let nodes = kept_walked (entry_of kept) p t u w shows.nodes in
    let refused = finds_err (child u n) code (child_at kept id u n e (Err code) nodes key at is) in
    rw refused refl

-- where it leads to a node with so many links
record Behind (kept : ObjectTree) (u : Keyed) (n : Name) (next : NodeId) (links : ℕ) : Type 0 where
  node : Keyed
  leads : child u n ≡ Ok node
  count : links ≡ length (links_of node)

behind : (kept : ObjectTree) (id next : NodeId) (n : Name) (e : Kept) (links : ℕ) → entry_of kept id.key ≡ Some e
    → Ok next ≡ child_in e n → Has kept next
    → ((x : Kept) → entry_of kept next.key ≡ Some x → links ≡ length x.links)
    → (t u : Keyed) (p : List Name) → Shows kept t → walk t p ≡ Ok u → key_of u ≡ id.key → Behind kept u n next links
behind kept id next n e links at is has counted t u p shows w key =
    let nodes = kept_walked (entry_of kept) p t u w shows.nodes in
    let (v, leads, there) = finds_ok (child u n) next (child_at kept id u n e (Ok next) nodes key at is) in
    let (x, here) = kept_here kept next has in
    let same = entry_at kept next v x (child_kept (entry_of kept) u v n nodes leads) there here in
    record { node = v; leads = leads; count = counted x here ∙ ap (λ (y : Kept). length y.links) same }

pub loosely_some : (kept : ObjectTree) (id next : NodeId) (n : Name) (e : Kept) (links : ℕ)
    → entry_of kept id.key ≡ Some e → Ok next ≡ child_in e n → Has kept next
    → ((x : Kept) → entry_of kept next.key ≡ Some x → links ≡ length x.links) → 0 < links
    → (t u : Keyed) (p : List Name) → Shows kept t → walk t p ≡ Ok u → key_of u ≡ id.key
    → Finds (loosely u n) (Err NotEmpty)
loosely_some kept id next n e links at is has counted some t u p shows w key =
    let b = behind kept id next n e links at is has counted t u p shows w key in
    rw b.leads (rw (children_of b.node (subst (λ (k : ℕ). 0 < k) b.count some)) refl)

pub loosely_none : (kept : ObjectTree) (id next : NodeId) (n : Name) (e : Kept) (links : ℕ)
    → entry_of kept id.key ≡ Some e → Ok next ≡ child_in e n → Has kept next
    → ((x : Kept) → entry_of kept next.key ≡ Some x → links ≡ length x.links) → links ≤ 0
    → (t u : Keyed) (p : List Name) → Shows kept t → walk t p ≡ Ok u → key_of u ≡ id.key → Finds (loosely u n) (Ok id)
loosely_none kept id next n e links at is has counted none t u p shows w key =
    let b = behind kept id next n e links at is has counted t u p shows w key in
    rw b.leads (rw (no_children b.node (subst (λ (k : ℕ). k ≤ 0) b.count none)) key)

empty_list : (links : List ChildLink) → length links ≤ 0 → links ≡ []
empty_list [] le = refl
empty_list (l ∷ ls) le = absurd (omega arith)

pub loose_link : (kept : ObjectTree) (id next : NodeId) (n : Name) (e : Kept) (links : ℕ)
    → entry_of kept id.key ≡ Some e → Ok next ≡ child_in e n → Has kept next
    → ((x : Kept) → entry_of kept next.key ≡ Some x → links ≡ length x.links) → links ≤ 0 → HasLooseLink kept id n
loose_link kept id next n e links at is has counted none =
    let (x, here) = kept_here kept next has in
    let empty = empty_list x.links (subst (λ (k : ℕ). k ≤ 0) (counted x here) none) in
    record {
      group = e;
      at = at;
      child = next;
      found = link_found e n next is;
      node = x.node;
      loose = here ∙ ap (λ (l : List ChildLink). Some (record { node = x.node; links = l })) empty;
    }

-- ---- at the end of a path

pub add_found : (t u : Keyed) (p dir : List Name) (n : Name) (r : Result NodeId Code) → dir ≡ dir_of p
    → n ≡ last_of p → walk t dir ≡ Ok u → Finds (lacking u n) r → Finds (to_add t p) r
add_found t u p dir n r dir_same last_same w h =
    let leads : walk t (dir_of p) ≡ Ok u = ap (walk t) (sym dir_same) ∙ w in
    rw leads (subst (λ (m : Name). Finds (lacking u m) r) last_same h)

pub remove_found : (t u : Keyed) (p dir : List Name) (n : Name) (r : Result NodeId Code) → dir ≡ dir_of p
    → n ≡ last_of p → walk t dir ≡ Ok u → Finds (loosely u n) r → Finds (to_remove t p) r
remove_found t u p dir n r dir_same last_same w h =
    let leads : walk t (dir_of p) ≡ Ok u = ap (walk t) (sym dir_same) ∙ w in
    rw leads (subst (λ (m : Name). Finds (loosely u m) r) last_same h)

-- where the way there is refused
pub add_stops : (t : Keyed) (p dir : List Name) (code : Code) → dir ≡ dir_of p → Finds (walk t dir) (Err code)
    → Finds (to_add t p) (Err code)
add_stops t p dir code same h = rw (ap (walk t) (sym same) ∙ finds_err (walk t dir) code h) refl

pub remove_stops : (t : Keyed) (p dir : List Name) (code : Code) → dir ≡ dir_of p → Finds (walk t dir) (Err code)
    → Finds (to_remove t p) (Err code)
remove_stops t p dir code same h = rw (ap (walk t) (sym same) ∙ finds_err (walk t dir) code h) refl

pub leads_to : (kept : ObjectTree) (p dir : List Name) (id : NodeId) → dir ≡ dir_of p → ((t : Keyed)
    → Shows kept t → Finds (walk t dir) (Ok id)) → LeadsTo kept (dir_of p) id
leads_to kept p dir id same found = λ t shows. subst (λ (d : List Name). (u : Keyed) × (walk t d ≡ Ok u) ×
    (key_of u ≡ id.key)) same (finds_ok (walk t dir) id (found t shows))

pub can_add : (kept : ObjectTree) (p dir : List Name) (n : Name) (id : NodeId) (r : Result NodeId Code)
    → dir ≡ dir_of p → n ≡ last_of p → ((t : Keyed) → Shows kept t → Finds (walk t dir) (Ok id))
    → IfOk r (λ group. (group ≡ id) × LacksLink kept id n) → IfOk r (CanAdd kept p)
can_add kept p dir n id (Ok group) dir_same last_same found h =
    subst (CanAdd kept p) (sym h.0) (record {
      leads = leads_to kept p dir id dir_same found;
      lacks = subst
          (LacksLink kept id) last_same h.1;
    })
can_add kept p dir n id (Err code) dir_same last_same found h = tt

pub can_remove : (kept : ObjectTree) (p dir : List Name) (n : Name) (id : NodeId) (r : Result NodeId Code)
    → dir ≡ dir_of p → n ≡ last_of p → ((t : Keyed) → Shows kept t → Finds (walk t dir) (Ok id))
    → IfOk r (λ group. (group ≡ id) × HasLooseLink kept id n) → IfOk r (CanRemove kept p)
can_remove kept p dir n id (Ok group) dir_same last_same found h =
    subst (CanRemove kept p) (sym h.0) (record {
      leads = leads_to kept p dir id dir_same found;
      loose = subst
          (HasLooseLink kept id) last_same h.1;
    })
can_remove kept p dir n id (Err code) dir_same last_same found h = tt
