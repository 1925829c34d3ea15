use Rattle.file_model.proofs.LinkEdits.{edit_there}
use Rattle.file_model.proofs.edits.edit_there.Goals as goal

pub returns : goal.returns
returns c = edit_there
