use Rattle.tree_nodes.proofs.ShownLemmas.{lacks_shown}
use Rattle.tree_nodes.proofs.laws.lacks_shown.Goals as goal

pub returns : goal.returns
returns c = lacks_shown
