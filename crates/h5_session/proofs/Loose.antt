-- What a link is removed from is a group, whatever the space tells.
use Rattle.std.proofs.Common.{◌≡◌, ℕ, List, [], Option, Some, None, Ok, true, refl, sym, ◌∙◌, ap, subst}
use Rattle.object_model.specs.Tree.{Group, Leaf, Name, dir_of, last_of, walk}
use Rattle.tree_nodes.specs.declared.node.NodeId.{NodeId}
use Rattle.tree_nodes.specs.declared.tree.ObjectTree.{ObjectTree}
use Rattle.tree_nodes.specs.Entries.{entry_of}
use Rattle.tree_nodes.specs.Nodes.{Kept, find_link, is_group}
use Rattle.tree_nodes.specs.Shown.{AreKept, Keyed, key_of, kept_of, links_of, node_of}
use Rattle.tree_nodes.proofs.EditLemmas.{kept_walked}
use Rattle.tree_nodes.proofs.ShownLemmas.{entry_shown}
use Rattle.object_tree.specs.Sound.{IsSoundTree}
use Rattle.tree_places.specs.Kept.{CanRemove}

linked_group : (at : ℕ → Option Kept) (u : Keyed) (n : Name) (c : NodeId) → AreKept at u
    → find_link (links_of u) n ≡ Some c → is_group (node_of u) ≡ true
linked_group at (Group x ls) n c kept found = kept.0
linked_group at (Leaf x) n c kept found = absurd cc

same_kept : (a b : Kept) (o : Option Kept) → o ≡ Some a → o ≡ Some b → a ≡ b
same_kept a b o one other =
    let same : Some a ≡ Some b = sym one ∙ other in cc

pub loose_group : (kept : ObjectTree) (p : List Name) (id : NodeId) → IsSoundTree kept → CanRemove kept p id
    → (e : Kept) × (entry_of kept id.key ≡ Some e) × (is_group e.node ≡ true)
loose_group kept p id sound h =
    let (u, walked, key) = h.leads sound.tree sound.shown in
    let at : entry_of kept id.key ≡ Some (kept_of u) =
    subst (λ (k : ℕ). entry_of kept k ≡ Some (kept_of u)) key
    (entry_shown kept sound.tree u (dir_of p) sound.shown walked) in
    let same : h.loose.group ≡ kept_of u = same_kept h.loose.group (kept_of u) (entry_of kept id.key) h.loose.at at in (
      kept_of u,
      at,
      linked_group (entry_of kept) u (last_of p) h.loose.child
          (kept_walked (entry_of kept) (dir_of p) sound.tree u walked sound.shown.nodes)
          (subst (λ (e : Kept). find_link e.links (last_of p) ≡ Some h.loose.child) same h.loose.found),
    )
