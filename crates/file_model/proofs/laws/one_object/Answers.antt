use Rattle.file_model.proofs.UniqueTree.{one_object}
use Rattle.file_model.proofs.laws.one_object.Goals as goal

pub returns : goal.returns
returns c = one_object
