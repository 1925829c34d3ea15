use Rattle.tree_nodes.proofs.ShownLemmas.{dataset_shown}
use Rattle.tree_nodes.proofs.laws.dataset_shown.Goals as goal

pub returns : goal.returns
returns c = dataset_shown
