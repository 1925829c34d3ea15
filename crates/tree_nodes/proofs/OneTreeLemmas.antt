-- An object tree shows at most one tree.
use Rattle.std.proofs.Common.{◌≡◌, ℕ, true, false, Option, Some, refl, sym, ap, ◌∙◌}
use Rattle.object_model.specs.Tree.{Group, Leaf, Empty, Link}
use Rattle.tree_nodes.specs.declared.node.Node.{Node}
use Rattle.tree_nodes.specs.declared.node.ChildLink.{ChildLink}
use Rattle.tree_nodes.specs.declared.tree.ObjectTree.{ObjectTree}
use Rattle.tree_nodes.specs.Nodes.{Kept, is_group, child_link}
use Rattle.tree_nodes.specs.Entries.{entry_of}
use Rattle.tree_nodes.specs.Shown.{Placed, Keyed, KeyedLinks, Shows, key_of, child_links, AreKept, AreKeptBelow}

same_entry : (at : ℕ → Option Kept) (k l : ℕ) (a b : Kept) → k ≡ l → at k ≡ Some a → at l ≡ Some b → a ≡ b
same_entry at k l a b same here there = let both : Some a ≡ Some b = sym here ∙ ap at same ∙ there in cc

placed_is : (x y : Placed) → x.key ≡ y.key → x.node ≡ y.node → x ≡ y
placed_is x y key node =
    let a : x ≡ record { key = y.key; node = x.node } = ap (λ (k : ℕ). record { key = k; node = x.node }) key in
    let b : record { key = y.key; node = x.node } ≡ y = ap (λ (n : Node). record { key = y.key; node = n }) node in
    a ∙ b

mutual
  one_kept : (at : ℕ → Option Kept) (t u : Keyed) → AreKept at t → AreKept at u → key_of t ≡ key_of u → t ≡ u
  one_kept at (Group x ls) (Group y ms) h g same =
      let kept = same_entry at x.key y.key _ _ same h.1 g.1 in
      let node : x.node ≡ y.node = ap (λ (e : Kept). e.node) kept in
      let links : child_links ls ≡ child_links ms = ap (λ (e : Kept). e.links) kept in
      let placed : x ≡ y = placed_is x y same node in
      let below : ls ≡ ms = one_below at ls ms h.2 g.2 links in
      cc
  one_kept at (Group x ls) (Leaf y) h g same =
      let kept = same_entry at x.key y.key _ _ same h.1 g.1 in
      let node : x.node ≡ y.node = ap (λ (e : Kept). e.node) kept in
      let both : true ≡ false = sym h.0 ∙ ap is_group node ∙ g.0 in
      absurd cc
  one_kept at (Leaf x) (Group y ms) h g same =
      let kept = same_entry at x.key y.key _ _ same h.1 g.1 in
      let node : x.node ≡ y.node = ap (λ (e : Kept). e.node) kept in
      let both : false ≡ true = sym h.0 ∙ ap is_group node ∙ g.0 in
      absurd cc
  one_kept at (Leaf x) (Leaf y) h g same =
      let kept = same_entry at x.key y.key _ _ same h.1 g.1 in
      let node : x.node ≡ y.node = ap (λ (e : Kept). e.node) kept in
      let placed : x ≡ y = placed_is x y same node in
      cc

  one_below : (at : ℕ → Option Kept) (ls ms : KeyedLinks) → AreKeptBelow at ls → AreKeptBelow at ms → child_links ls ≡ child_links ms → ls ≡ ms
  one_below at Empty Empty h g same = refl
  one_below at Empty (Link n u rest) h g same = absurd cc
  one_below at (Link m t rest) Empty h g same = absurd cc
  one_below at (Link m t rest) (Link n u more) h g same =
      let first : child_link m (key_of t) ≡ child_link n (key_of u) = cc in
      let later : child_links rest ≡ child_links more = cc in
      let name : m ≡ n = ap (λ (l : ChildLink). l.name) first in
      let key : key_of t ≡ key_of u = ap (λ (l : ChildLink). l.node.key) first in
      let tree : t ≡ u = one_kept at t u h.0 g.0 key in
      let links : rest ≡ more = one_below at rest more h.1 g.1 later in
      cc

pub one_tree : (kept : ObjectTree) (t u : Keyed) → Shows kept t → Shows kept u → t ≡ u
one_tree kept t u a b = one_kept (entry_of kept) t u a.nodes b.nodes (a.root ∙ sym b.root)
