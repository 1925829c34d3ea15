use Rattle.file_model.proofs.LinkEdits.{remove_one, remove_order}
use Rattle.file_model.proofs.edits.remove_one.Goals as goal

pub returns-clause-one : goal.returns-clause-one
returns-clause-one c = remove_one

pub returns-clause-order : goal.returns-clause-order
returns-clause-order c = remove_order
