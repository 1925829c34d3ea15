use Rattle.file_model.proofs.EditLemmas.{remove_held}
use Rattle.file_model.proofs.laws.remove_held.Goals as goal

pub returns : goal.returns
returns c = remove_held
