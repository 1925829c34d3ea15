use Rattle.tree_nodes.proofs.ShownLemmas.{loose_shown}
use Rattle.tree_nodes.proofs.laws.loose_shown.Goals as goal

pub returns : goal.returns
returns c = loose_shown
