use Rattle.tree_nodes.proofs.EditLemmas.{kept_same}
use Rattle.tree_nodes.proofs.laws.kept_frame.Goals as goal

pub returns : goal.returns
returns c = kept_same
