use Rattle.file_model.proofs.UniqueTree.{one_tree}
use Rattle.file_model.proofs.laws.one_tree.Goals as goal

pub returns : goal.returns
returns c = one_tree
