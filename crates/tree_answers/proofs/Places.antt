-- What stands at a node of the tree that the program keeps, and what its names lead to.
use Rattle.std.proofs.Common.{◌≡◌, ◌<◌, ℕ, zero, suc, true, false, cond, List, [], ◌∷◌, length, get_or, slice_get, Option, Some, None, Ok, Err, IfOk, ok_or, Result, map, refl, sym, ap, ◌∙◌, subst, arith}
use Rattle.std.proofs.lemmas.Option.{get_or_from_slice_get, slice_get_within, slice_get-get_or, slice_get-map}
use Rattle.std.specs.Option.{option_map}
use Rattle.object_model.specs.declared.answer.Code.{Code}
use Rattle.object_model.specs.declared.answer.Code.TheVariants.{Absent, NotGroup}
use Rattle.object_model.specs.declared.answer.LinkLine.{LinkLine}
use Rattle.h5_base.specs.declared.NoMemory.{NoMemory}
use Rattle.object_model.specs.Tree.{Group, Leaf, Empty, Link, Name, same_name, find, child, walk, ◌>>=◌}
use Rattle.object_model.specs.Step.{Plain, PlainLinks, links_of}
use Rattle.tree_nodes.specs.declared.node.Node.{Node}
use Rattle.tree_nodes.specs.declared.node.NodeId.{NodeId}
use Rattle.tree_nodes.specs.declared.node.ChildLink.{ChildLink}
use Rattle.tree_nodes.specs.declared.tree.ObjectTree.{ObjectTree}
use Rattle.tree_nodes.specs.Nodes.{Kept, is_group}
use Rattle.tree_nodes.specs.Entries.{entry_of, root_of, Has}
use Rattle.tree_nodes.specs.Shown.{Keyed, KeyedLinks, Shows, key_of, node_of, kept_of, AreKept}
use Rattle.tree_nodes.proofs.ChangeLemmas.{kept_first}
use Rattle.tree_nodes.proofs.EditLemmas.{kept_walked}
use Rattle.header_reader.specs.Told.{IsSoundNode}
use Rattle.object_tree.specs.Sound.{LeadToNodes, IsSoundTree}
use Rattle.tree_places.specs.Kept.{Finds}
use Rattle.tree_places.proofs.Nodes.{kept_here, finds_ok, finds_err}
use Rattle.tree_answers.specs.Shown.{ShowsPlain, ShowsLinks, IsTreeOf}
use Rattle.tree_answers.specs.Kept.{IsAt}

-- ---- one node

pub sound_here : (kept : ObjectTree) (id : NodeId) (n : Node) → IsSoundTree kept → Has kept id → ((e : Kept)
    → entry_of kept id.key ≡ Some e → n ≡ e.node) → IsSoundNode n
sound_here kept id n sound has is =
    let (e, at) = kept_here kept id has in
    subst IsSoundNode (sym (is e at)) (sound.nodes.entries id.key e at).node

pub root_at : (kept : ObjectTree) (t : Plain) → IsTreeOf kept t → IsAt kept (root_of kept) t
root_at kept t h = record { keyed = h.keyed; key = h.shown.root; nodes = h.shown.nodes; same = h.same }

-- what is kept there
pub entry_at : (kept : ObjectTree) (id : NodeId) (t : Plain) → (h : IsAt kept id t)
    → entry_of kept id.key ≡ Some (kept_of h.keyed)
entry_at kept id t h = ap (entry_of kept) (sym h.key) ∙ kept_first (entry_of kept) h.keyed h.nodes

some_is : (e x : Kept) → Some e ≡ Some x → e ≡ x
some_is e x is = cc

pub kept_at : (kept : ObjectTree) (id : NodeId) (t : Plain) (h : IsAt kept id t) (e : Kept)
    → entry_of kept id.key ≡ Some e → e ≡ kept_of h.keyed
kept_at kept id t h e is = some_is e (kept_of h.keyed) (sym is ∙ entry_at kept id t h)

-- ---- links that lead to nodes

pub lead_at : (kept : ObjectTree) (links : List ChildLink) (k : ℕ) (d : ChildLink) → k < length links
    → LeadToNodes kept links → Has kept (get_or links k d).node
lead_at kept [] k d lt h = absurd (omega arith)
lead_at kept (l ∷ ls) zero d lt h = h.0
lead_at kept (l ∷ ls) (suc k) d lt h = lead_at kept ls k d (omega arith) h.1

pub got_has : (kept : ObjectTree) (links : List ChildLink) (k : ℕ) (l : ChildLink) → Some l ≡ slice_get links k
    → LeadToNodes kept links → Has kept l.node
got_has kept links k l is h =
    let got = get_or_from_slice_get links k l l (sym is) in
    subst (λ (x : ChildLink). Has kept x.node) got (lead_at kept links k l (slice_get_within links k l (sym is)) h)

-- ---- names

abbrev AreAlike : Option Keyed → Option Plain → Type 0
AreAlike None None = Unit {0}
AreAlike None (Some t) = ⊥
AreAlike (Some k) None = ⊥
AreAlike (Some k) (Some t) = ShowsPlain k t

alike_found : (ks : KeyedLinks) (ls : PlainLinks) (n : Name) → ShowsLinks ks ls → AreAlike (find ks n) (find ls n)
alike_found Empty Empty n h = tt
alike_found Empty (Link m t more) n h = absurd h
alike_found (Link m k rest) Empty n h = absurd h
alike_found (Link m k rest) (Link o t more) n h =
    let later = alike_found rest more n h.2 in
    subst (λ (q : Name). AreAlike (find (Link m k rest) n) (find (Link q t more) n)) h.0
    (elim (same_name m n) as (λ b. AreAlike (cond b (Some k) (find rest n)) (cond b (Some t) (find more n))) [
      | true ↦ h.1
      | false ↦ later
    ])

-- the same is found in both
abbrev Agree : Result Keyed Code → Result Plain Code → Type 0
Agree (Ok k) (Ok t) = ShowsPlain k t
Agree (Ok k) (Err code) = ⊥
Agree (Err code) (Ok t) = ⊥
Agree (Err code) (Err other) = code ≡ other

agree_or : (a : Option Keyed) (b : Option Plain) → AreAlike a b → Agree (ok_or a Absent) (ok_or b Absent)
agree_or None None h = refl
agree_or None (Some t) h = absurd h
agree_or (Some k) None h = absurd h
agree_or (Some k) (Some t) h = h

agree_child : (k : Keyed) (t : Plain) (n : Name) → ShowsPlain k t → Agree (child k n) (child t n)
agree_child (Group x ks) (Group g ls) n h = agree_or (find ks n) (find ls n) (alike_found ks ls n h)
agree_child (Group x ks) (Leaf o) n h = absurd h
agree_child (Leaf x) (Group g ls) n h = absurd h
agree_child (Leaf x) (Leaf o) n h = refl

agree_then : (a : Result Keyed Code) (b : Result Plain Code) (ns : List Name) → Agree a b
    → ((k : Keyed) (t : Plain) → ShowsPlain k t → Agree (walk k ns) (walk t ns))
    → Agree (a >>= λ u. walk u ns) (b >>= λ u. walk u ns)
agree_then (Ok k) (Ok t) ns h next = next k t h
agree_then (Ok k) (Err code) ns h next = absurd h
agree_then (Err code) (Ok t) ns h next = absurd h
agree_then (Err code) (Err other) ns h next = h

agree_walk : (p : List Name) (k : Keyed) (t : Plain) → ShowsPlain k t → Agree (walk k p) (walk t p)
agree_walk [] k t h = h
agree_walk (n ∷ ns) k t h = agree_then (child k n) (child t n) ns (agree_child k t n h)
    (λ x y same. agree_walk ns x y same)

-- what a path leads to, where a node was found
pub found_there : (kept : ObjectTree) (p : List Name) (id : NodeId) → ((k : Keyed) → Shows kept k
    → Finds (walk k p) (Ok id)) → (t : Plain) → IsTreeOf kept t → (u : Plain) × (walk t p ≡ Ok u) × IsAt kept id u
found_there kept p id found t h =
    let (k, leads, key) = finds_ok (walk h.keyed p) id (found h.keyed h.shown) in
    let nodes = kept_walked (entry_of kept) p h.keyed k leads h.shown.nodes in
    go k key nodes (walk t p) refl (subst (λ (r : Result Keyed Code). Agree r (walk t p)) leads
    (agree_walk p h.keyed t h.same))
  where
    go : (k : Keyed) → key_of k ≡ id.key → AreKept (entry_of kept) k → (r : Result Plain Code) → walk t p ≡ r
        → Agree (Ok k) r → (u : Plain) × (walk t p ≡ Ok u) × IsAt kept id u
    go k key nodes (Ok u) is same = (u, is, record { keyed = k; key = key; nodes = nodes; same = same })
    go k key nodes (Err code) is same = absurd same

-- and where none was
pub found_nowhere : (kept : ObjectTree) (p : List Name) (code : Code) → ((k : Keyed) → Shows kept k
    → Finds (walk k p) (Err code)) → (t : Plain) → IsTreeOf kept t → walk t p ≡ Err code
found_nowhere kept p code found t h =
    let refused = finds_err (walk h.keyed p) code (found h.keyed h.shown) in
    go (walk t p) refl (subst (λ (r : Result Keyed Code). Agree r (walk t p)) refused (agree_walk p h.keyed t h.same))
  where
    go : (r : Result Plain Code) → walk t p ≡ r → Agree (Err code) r → walk t p ≡ Err code
    go (Ok u) is same = absurd same
    go (Err other) is same = is ∙ ap Err (sym same)

leaf_shown : (kept : ObjectTree) (k : Keyed) (t : Plain) → AreKept (entry_of kept) k → ShowsPlain k t
    → is_group (node_of k) ≡ false → links_of t ≡ Err NotGroup
leaf_shown kept (Group x ks) t nodes same isg = let yes : is_group x.node ≡ true = nodes.0 in absurd cc
leaf_shown kept (Leaf x) (Group g ls) nodes same isg = absurd same
leaf_shown kept (Leaf x) (Leaf o) nodes same isg = refl

pub no_links : (kept : ObjectTree) (id : NodeId) (e : Kept) → entry_of kept id.key ≡ Some e
    → is_group e.node ≡ false → (t : Plain) → IsAt kept id t → links_of t ≡ Err NotGroup
no_links kept id e at isg t h = leaf_shown kept h.keyed t h.nodes h.same (ap (λ (x : Kept). is_group x.node) (sym
    (kept_at kept id t h e at)) ∙ isg)

group_shown : (kept : ObjectTree) (k : Keyed) (t : Plain) → AreKept (entry_of kept) k → ShowsPlain k t
    → is_group (node_of k) ≡ true → (ls : PlainLinks) × (links_of t ≡ Ok ls) × (t ≡ Group tt ls)
group_shown kept (Leaf x) t nodes same isg = let no : is_group x.node ≡ false = nodes.0 in absurd cc
group_shown kept (Group x ks) (Leaf o) nodes same isg = absurd same
group_shown kept (Group x ks) (Group g ls) nodes same isg = (ls, refl, refl)

pub has_links : (kept : ObjectTree) (id : NodeId) (e : Kept) → entry_of kept id.key ≡ Some e
    → is_group e.node ≡ true → (t : Plain) → IsAt kept id t
    → (ls : PlainLinks) × (links_of t ≡ Ok ls) × IsAt kept id (Group tt ls)
has_links kept id e at isg t h =
    let (ls, links, is) = group_shown kept h.keyed t h.nodes h.same (ap (λ (x : Kept). is_group x.node) (sym
    (kept_at kept id t h e at)) ∙ isg) in
    (ls, links, subst (IsAt kept id) is h)

-- ---- the link at a place

pub inside_some : (links : List ChildLink) (k : ℕ) → k < length links → None ≡ slice_get links k → ⊥
inside_some [] k lt none = absurd (omega arith)
inside_some (l ∷ ls) k lt none = let both : None ≡ Some (get_or (l ∷ ls) k l) = none
    ∙ slice_get-get_or (l ∷ ls) k l lt in cc

pub line_got : (f : ChildLink
    → LinkLine) (links : List ChildLink) (k : ℕ) (l : ChildLink) (r : Result LinkLine NoMemory)
    → Some l ≡ slice_get links k → IfOk r (λ line. line ≡ f l)
    → IfOk r (λ line. slice_get (map f links) k ≡ Some line)
line_got f links k l (Ok line) is h = slice_get-map f links k ∙ ap (option_map f) (sym is) ∙ ap Some (sym h)
line_got f links k l (Err stop) is h = tt
