use Rattle.file_model.proofs.EditLemmas.{replace_held}
use Rattle.file_model.proofs.laws.replace_held.Goals as goal

pub returns : goal.returns
returns c = replace_held
