use Rattle.tree_answers.proofs.Opened.{opened_is}
use Rattle.tree_answers.proofs.laws.opened_is.Goals as goal

pub returns : goal.returns
returns c = opened_is
