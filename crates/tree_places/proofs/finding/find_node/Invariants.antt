use Rattle.std.proofs.Common.{◌≡◌, drop}
use Rattle.object_model.specs.Tree.{walk}
use Rattle.tree_nodes.specs.Entries.{entry_of, Has}
use Rattle.tree_nodes.specs.Shown.{Keyed, Shows, key_of, AreKept}
use Rattle.tree_places.proofs.finding.find_node.Given as goal

abbrev pub invariant-loop-name : goal.invariant-loop-name
invariant-loop-name l = record {
  has : Has l.tree l.id;
  found : (t : Keyed) → Shows l.tree t → (u : Keyed) × (walk t l.path ≡ walk u (drop l.name-index l.path))
      × (key_of u ≡ l.id.key) × AreKept (entry_of l.tree) u;
}
