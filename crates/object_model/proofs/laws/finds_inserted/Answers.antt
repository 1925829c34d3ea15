use Rattle.object_model.proofs.StepLemmas.{finds_inserted}
use Rattle.object_model.proofs.laws.finds_inserted.Goals as goal

pub returns : goal.returns
returns c = finds_inserted
