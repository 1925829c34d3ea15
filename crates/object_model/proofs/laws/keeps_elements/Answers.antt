use Rattle.object_model.proofs.DataLemmas.{keeps_elements}
use Rattle.object_model.proofs.laws.keeps_elements.Goals as goal

pub returns : goal.returns
returns c = keeps_elements
