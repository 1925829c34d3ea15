use Rattle.tree_nodes.proofs.ShownLemmas.{has_shown}
use Rattle.tree_nodes.proofs.laws.has_shown.Goals as goal

pub returns : goal.returns
returns c = has_shown
