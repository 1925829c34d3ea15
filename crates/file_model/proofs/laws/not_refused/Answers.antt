use Rattle.file_model.proofs.NoRefusal.{not_refused_file}
use Rattle.file_model.proofs.laws.not_refused.Goals as goal

pub returns : goal.returns
returns c = not_refused_file
