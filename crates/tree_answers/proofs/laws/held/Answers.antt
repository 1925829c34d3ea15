use Rattle.tree_answers.proofs.Opened.{held}
use Rattle.tree_answers.proofs.laws.held.Goals as goal

pub returns : goal.returns
returns c = held
