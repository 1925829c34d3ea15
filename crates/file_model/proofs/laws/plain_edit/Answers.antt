use Rattle.file_model.proofs.EditLemmas.{plain_edit}
use Rattle.file_model.proofs.laws.plain_edit.Goals as goal

pub returns : goal.returns
returns c = plain_edit
