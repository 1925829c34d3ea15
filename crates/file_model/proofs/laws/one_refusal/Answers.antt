use Rattle.file_model.proofs.OneRefusal.{file_one}
use Rattle.file_model.proofs.laws.one_refusal.Goals as goal

pub returns : goal.returns
returns c = file_one
