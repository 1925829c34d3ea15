use Rattle.file_model.proofs.UniqueTree.{one_full}
use Rattle.file_model.proofs.laws.one_full.Goals as goal

pub returns : goal.returns
returns c = one_full
