use Rattle.file_model.proofs.EditLemmas.{edit_held}
use Rattle.file_model.proofs.laws.edit_held.Goals as goal

pub returns : goal.returns
returns c = edit_held
