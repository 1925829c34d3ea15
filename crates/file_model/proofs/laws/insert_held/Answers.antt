use Rattle.file_model.proofs.EditLemmas.{insert_held}
use Rattle.file_model.proofs.laws.insert_held.Goals as goal

pub returns : goal.returns
returns c = insert_held
