use Rattle.object_model.proofs.DataLemmas.{keeps_others}
use Rattle.object_model.proofs.laws.keeps_others.Goals as goal

pub returns : goal.returns
returns c = keeps_others
