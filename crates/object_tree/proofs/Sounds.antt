-- A tree that can be looked through and shown stays one.
use Rattle.std.proofs.Common.{◌≡◌, ◌≢◌, ◌⊎◌, ℕ, Bool, true, false, cond, List, [], ◌∷◌, Some, None, IsSome, refl, sym, ◌∙◌, ap, subst, inl, inr}
use Rattle.std.proofs.lemmas.Bool.Decides.{eqb_tells}
use Rattle.object_model.specs.Tree.{Name, name_lt, same_name, ComesFirst, AreOrdered}
use Rattle.object_model.proofs.TreeLemmas.{same_or_not}
use Rattle.object_model.proofs.OrderLemmas.{lt_other}
use Rattle.tree_nodes.specs.declared.node.Node.{Node}
use Rattle.tree_nodes.specs.declared.node.NodeId.{NodeId}
use Rattle.tree_nodes.specs.declared.node.ChildLink.{ChildLink}
use Rattle.tree_nodes.specs.declared.tree.ObjectTree.{ObjectTree}
use Rattle.tree_nodes.specs.Nodes.{Kept, bare, child_link, link_names, find_link, insert_link}
use Rattle.tree_nodes.specs.Entries.{entry_of, root_of, Has, LacksLink, Inserts}
use Rattle.object_tree.specs.Grown.{LinksAscend}
use Rattle.header_reader.specs.Told.{IsSoundNode}
use Rattle.object_tree.specs.Sound.{LeadToNodes, IsSoundEntry, HasSoundNodes}
use Rattle.object_tree.proofs.Growth.{some_is, not_none}

-- ---- lists of links

first_link : (k : Name) (ls : List ChildLink) (l : ChildLink) → ComesFirst k (link_names ls) → name_lt k l.name ≡ true → ComesFirst k (link_names (insert_link ls l))
first_link k [] l first lt = lt
first_link k (m ∷ ms) l first lt = go (name_lt l.name m.name)
  where
    go : (b : Bool) → ComesFirst k (link_names (cond b (l ∷ m ∷ ms) (m ∷ insert_link ms l)))
    go true = lt
    go false = first

ordered_links : (ls : List ChildLink) (l : ChildLink) → AreOrdered (link_names ls) → find_link ls l.name ≡ None → AreOrdered (link_names (insert_link ls l))
ordered_links [] l o none = (tt, tt)
ordered_links (m ∷ ms) l o none = go (name_lt l.name m.name) refl (same_or_not m.name l.name) (ordered_links ms l o.1)
  where
    go : (b : Bool) → name_lt l.name m.name ≡ b → (same_name m.name l.name ≡ true) × (m.name ≡ l.name) ⊎ (same_name m.name l.name ≡ false) × (m.name ≢ l.name)
        → (find_link ms l.name ≡ None → AreOrdered (link_names (insert_link ms l))) → AreOrdered (link_names (cond b (l ∷ m ∷ ms) (m ∷ insert_link ms l)))
    go true is _ later = (is, o)
    go false is (inl same) later = let found : Some m.node ≡ None = rw same.0 at none in cc
    go false is (inr other) later =
        let none' : find_link ms l.name ≡ None = rw other.0 at none in
        (first_link m.name ms l o.0 (lt_other l.name m.name is other.1), later none')

lead_more : (kept : ObjectTree) (ls : List ChildLink) (l : ChildLink) → LeadToNodes kept ls → Has kept l.node → LeadToNodes kept (insert_link ls l)
lead_more kept [] l h there = (there, tt)
lead_more kept (m ∷ ms) l h there = go (name_lt l.name m.name) (lead_more kept ms l h.1 there)
  where
    go : (b : Bool) → LeadToNodes kept (insert_link ms l) → LeadToNodes kept (cond b (l ∷ m ∷ ms) (m ∷ insert_link ms l))
    go true later = (there, h)
    go false later = (h.0, later)

lead_on : (old new : ObjectTree) (ls : List ChildLink) → ((id : NodeId) → Has old id → Has new id) → LeadToNodes old ls → LeadToNodes new ls
lead_on old new [] f h = tt
lead_on old new (l ∷ ls) f h = (f l.node h.0, lead_on old new ls f h.1)

-- ---- trees

some_there : (kept : ObjectTree) (id : NodeId) (e : Kept) → entry_of kept id.key ≡ Some e → Has kept id
some_there kept id e is = subst IsSome (sym is) refl

entry_as : (kept : ObjectTree) (e x : Kept) → Some e ≡ Some x → IsSoundEntry kept e → IsSoundEntry kept x
entry_as kept e x is h = subst (IsSoundEntry kept) (some_is e x is) h

bare_sound : (kept : ObjectTree) (n : Node) → IsSoundNode n → IsSoundEntry kept (bare n)
bare_sound kept n sound = record { node = sound; ordered = tt; linked = tt }

pub sound_root : (kept : ObjectTree) (n : Node) → IsSoundNode n → entry_of kept (root_of kept).key ≡ Some (bare n) → ((k : ℕ) → k ≢ (root_of kept).key → entry_of kept k ≡ None) → HasSoundNodes kept
sound_root kept n sound at others = record {
  root = some_there kept (root_of kept) (bare n) at;
  entries = λ key e is.
      elim (eqb_tells key (root_of kept).key) [
        | inl same ↦ entry_as kept (bare n) e (sym at ∙ sym (ap (entry_of kept) same.1) ∙ is) (bare_sound kept n sound)
        | inr other ↦ absurd (not_none e (sym is ∙ others key other.1))
      ];
}

-- what was kept is kept
stays : (old new : ObjectTree) (group : NodeId) (name : Name) (key : ℕ) (n : Node) → LacksLink old group name → LinksAscend old group.key → Inserts old new group.key name key n → (id : NodeId) → Has old id → Has new id
stays old new group name key n lacks ascend ins id has =
    elim (eqb_tells id.key group.key) [
      | inl same ↦ some_there new id _ (ap (entry_of new) same.1 ∙ ins.linked lacks.0 lacks.1 (ascend lacks.0 lacks.1))
      | inr other ↦
          elim (eqb_tells id.key key) [
            | inl same ↦ some_there new id _ (ap (entry_of new) same.1 ∙ ins.made)
            | inr more ↦ subst IsSome (sym (ins.others id.key other.1 more.1)) has
          ]
    ]

entry_stays : (old new : ObjectTree) (e : Kept) → ((id : NodeId) → Has old id → Has new id) → IsSoundEntry old e → IsSoundEntry new e
entry_stays old new e stay h = record { node = h.node; ordered = h.ordered; linked = lead_on old new e.links stay h.linked }

pub sound_insert : (old new : ObjectTree) (group : NodeId) (name : Name) (key : ℕ) (n : Node) → LacksLink old group name → LinksAscend old group.key → Inserts old new group.key name key n → IsSoundNode n → HasSoundNodes old
    → HasSoundNodes new
sound_insert old new group name key n lacks ascend ins sound before =
    let stay = stays old new group name key n lacks ascend ins in
    let g = lacks.0 in
    let was = entry_stays old new g stay (before.entries group.key g lacks.1) in
    let made : Has new (record { key = key }) = some_there new (record { key = key }) (bare n) ins.made in
    let grown : IsSoundEntry new (record { node = g.node; links = insert_link g.links (child_link name key) }) =
    record { node = was.node; ordered = ordered_links g.links (child_link name key) was.ordered lacks.3; linked = lead_more new g.links (child_link name key) was.linked made } in
    record {
      root = subst (Has new) (sym ins.root) (stay (root_of old) before.root);
      entries = λ k e is.
          elim (eqb_tells k group.key) [
            | inl same ↦ entry_as new _ e (sym (ins.linked g lacks.1 (ascend g lacks.1)) ∙ sym (ap (entry_of new) same.1) ∙ is) grown
            | inr other ↦
                elim (eqb_tells k key) [
                  | inl same ↦ entry_as new (bare n) e (sym ins.made ∙ sym (ap (entry_of new) same.1) ∙ is) (bare_sound new n sound)
                  | inr more ↦ entry_stays old new e stay (before.entries k e (sym (ins.others k other.1 more.1) ∙ is))
                ]
          ];
    }
