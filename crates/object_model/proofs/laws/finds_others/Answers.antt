use Rattle.object_model.proofs.StepLemmas.{finds_others}
use Rattle.object_model.proofs.laws.finds_others.Goals as goal

pub returns : goal.returns
returns c = finds_others
