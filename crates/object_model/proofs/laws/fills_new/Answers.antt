use Rattle.object_model.proofs.DataLemmas.{fills_new}
use Rattle.object_model.proofs.laws.fills_new.Goals as goal

pub returns : goal.returns
returns c = fills_new
