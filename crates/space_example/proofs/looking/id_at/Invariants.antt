use Rattle.std.proofs.Common.{drop}
use Rattle.tree_nodes.specs.Entries.{Has}
use Rattle.tree_nodes.specs.Shown.{Keyed, Shows}
use Rattle.space_example.proofs.Walked.{LeadsOn}
use Rattle.space_example.proofs.looking.id_at.Given as goal

abbrev pub invariant-loop-name : goal.invariant-loop-name
invariant-loop-name l = record {
  has : Has l.tree l.id;
  on : (t : Keyed) → Shows l.tree t → LeadsOn l.tree l.id l.path (drop l.name-index l.path) t;
}
