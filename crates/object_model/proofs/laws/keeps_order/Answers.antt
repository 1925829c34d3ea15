use Rattle.object_model.proofs.StepLemmas.{keeps_order}
use Rattle.object_model.proofs.laws.keeps_order.Goals as goal

pub returns : goal.returns
returns c = keeps_order
