use Rattle.tree_nodes.proofs.OneTreeLemmas.{one_tree}
use Rattle.tree_nodes.proofs.laws.one_tree.Goals as goal

pub returns : goal.returns
returns c = one_tree
