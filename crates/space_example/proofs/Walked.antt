-- What a path leads to, name by name, in a tree that is kept, and in the tree of a file that it matches.
use Rattle.std.proofs.Common.{◌≡◌, ℕ, ◌+◌, ◌<◌, true, false, cond, List, [], ◌∷◌, length, get_or, drop, Option, Some, None, Result, Ok, IsSome, ok_or, refl, sym, ap, ◌∙◌, subst, add-one}
use Rattle.std.specs.Option.{option_map}
use Rattle.std.proofs.Math.Seq.{drop-cons}
use Rattle.object_model.specs.declared.answer.Code.{Code}
use Rattle.object_model.specs.declared.answer.Code.TheVariants.{Absent}
use Rattle.object_model.specs.Tree.{Group, Leaf, Name, AreOrdered, same_name, find, walk, ◌>>=◌}
use Rattle.tree_nodes.specs.declared.node.NodeId.{NodeId}
use Rattle.tree_nodes.specs.declared.node.ChildLink.{ChildLink}
use Rattle.tree_nodes.specs.declared.tree.ObjectTree.{ObjectTree}
use Rattle.tree_nodes.specs.Nodes.{Kept, link_names, find_link}
use Rattle.tree_nodes.specs.Entries.{entry_of, root_of, Has}
use Rattle.tree_nodes.specs.Shown.{Keyed, Shows, key_of, links_of, kept_of, AreKept}
use Rattle.tree_nodes.proofs.ChangeLemmas.{kept_first, child-links, child_at}
use Rattle.tree_nodes.proofs.EditLemmas.{kept_found}
use Rattle.object_tree.specs.Sound.{LeadToNodes, IsSoundTree}
use Rattle.space_example.specs.Lookup.{reached_id}

-- ---- a name leads to a node that is kept

some_entry : (o : Option Kept) → IsSome o → (e : Kept) × (o ≡ Some e)
some_entry None h = absurd cc
some_entry (Some e) h = (e, refl)

lead_found : (kept : ObjectTree) (ls : List ChildLink) (n : Name) (id : NodeId) → find_link ls n ≡ Some id → LeadToNodes kept ls → Has kept id
lead_found kept [] n id is h = absurd cc
lead_found kept (l ∷ ls) n id is h =
    (elim (same_name l.name n) as (λ b. cond b (Some l.node) (find_link ls n) ≡ Some id → Has kept id) [
      | true ↦ λ q. let same : l.node ≡ id = cc in subst (Has kept) same h.0
      | false ↦ λ q. lead_found kept ls n id q h.1
    ]) is

-- what is answered for a name of a node's links
abbrev pub IsChild : ObjectTree → NodeId → Name → Option NodeId → Type 0
IsChild kept id n child = (e : Kept) → entry_of kept id.key ≡ Some e → AreOrdered (link_names e.links) → child ≡ find_link e.links n

-- the link of a name leads to a node
pub has_child : (kept : ObjectTree) (id child : NodeId) (n : Name) → IsSoundTree kept → Has kept id → IsChild kept id n (Some child) → Has kept child
has_child kept id child n sound has found =
    let (e, is) = some_entry (entry_of kept id.key) has in
    let entry = sound.nodes.entries id.key e is in
    lead_found kept e.links n child (sym (found e is entry.ordered)) entry.linked

-- ---- the names of a path, as far as they were looked up

-- the path leads where the names that are left lead from a node that is kept
pub record LeadsOn (kept : ObjectTree) (id : NodeId) (path rest : List Name) (t : Keyed) : Type 0 where
  pub node : Keyed
  pub key : key_of node ≡ id.key
  pub kept_is : AreKept (entry_of kept) node
  pub same : walk t path ≡ walk node rest

pub at_root : (kept : ObjectTree) (path : List Name) (t : Keyed) → Shows kept t → LeadsOn kept (root_of kept) path (drop 0 path) t
at_root kept path t shows = record { node = t; key = shows.root; kept_is = shows.nodes; same = refl }

pub at_end : (kept : ObjectTree) (id : NodeId) (path rest : List Name) (t : Keyed) → rest ≡ [] → LeadsOn kept id path rest t → Some id ≡ reached_id (walk t path)
at_end kept id path rest t none on =
    let is : walk t path ≡ Ok on.node = on.same ∙ ap (walk on.node) none in
    let same : Some id ≡ reached_id (Ok on.node) = (λ j. Some (record { key = sym on.key j })) in
    same ∙ ap reached_id (sym is)

child_is : (kept : ObjectTree) (id : NodeId) (n : Name) (child : Option NodeId) (u : Keyed) → IsSoundTree kept → key_of u ≡ id.key → AreKept (entry_of kept) u → IsChild kept id n child → child ≡ find_link (links_of u) n
child_is kept id n child u sound key at found =
    let entry : entry_of kept id.key ≡ Some (kept_of u) = ap (entry_of kept) (sym key) ∙ kept_first (entry_of kept) u at in
    found (kept_of u) entry (sound.nodes.entries id.key (kept_of u) entry).ordered

abbrev after : Option Keyed → List Name → Result Keyed Code
after o ns = ok_or o Absent >>= λ v. walk v ns

pub one_on : (kept : ObjectTree) (id child : NodeId) (path rest names : List Name) (n : Name) (t : Keyed) → IsSoundTree kept → rest ≡ n ∷ names → IsChild kept id n (Some child) → LeadsOn kept id path rest t
    → LeadsOn kept child path names t
one_on kept id child path rest names n t sound is found on = go on.node on.key on.kept_is (on.same ∙ ap (walk on.node) is)
  where
    go : (u : Keyed) → key_of u ≡ id.key → AreKept (entry_of kept) u → walk t path ≡ walk u (n ∷ names) → LeadsOn kept child path names t
    go (Leaf x) key at same = let none : Some child ≡ None = child_is kept id n (Some child) (Leaf x) sound key at found in absurd cc
    go (Group x ls) key at same =
        let told = child_is kept id n (Some child) (Group x ls) sound key at found ∙ child-links (Group x ls) n in
        let (v, there, key') = child_at ls n child (sym told) in
        record { node = v; key = key'; kept_is = kept_found (entry_of kept) ls n v there at.2; same = same ∙ ap (λ (o : Option Keyed). after o names) there }

no_more : (o : Option Keyed) → option_map {U = NodeId} (λ u. record { key = key_of u }) o ≡ None → o ≡ None
no_more None h = refl
no_more (Some v) h = absurd cc

pub none_on : (kept : ObjectTree) (id : NodeId) (path rest names : List Name) (n : Name) (t : Keyed) → IsSoundTree kept → rest ≡ n ∷ names → IsChild kept id n None → LeadsOn kept id path rest t
    → None ≡ reached_id (walk t path)
none_on kept id path rest names n t sound is found on = go on.node on.key on.kept_is (on.same ∙ ap (walk on.node) is)
  where
    go : (u : Keyed) → key_of u ≡ id.key → AreKept (entry_of kept) u → walk t path ≡ walk u (n ∷ names) → None ≡ reached_id (walk t path)
    go (Leaf x) key at same = ap reached_id (sym same)
    go (Group x ls) key at same =
        let told = child_is kept id n None (Group x ls) sound key at found ∙ child-links (Group x ls) n in
        ap reached_id (sym (same ∙ ap (λ (o : Option Keyed). after o names) (no_more (find ls n) (sym told))))

-- the names from a place on, the first of which is looked up
pub drop_here : (path : List Name) (i : ℕ) (n : Name) → i < length path → n ≡ get_or path i n → drop i path ≡ n ∷ drop (i + 1) path
drop_here path i n lt is = drop-cons path i n lt ∙ (λ j. sym is j ∷ drop (sym (add-one i) j) path)
