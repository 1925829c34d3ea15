use Rattle.file_model.proofs.LinkEdits.{insert_one, insert_order}
use Rattle.file_model.proofs.edits.insert_one.Goals as goal

pub returns-clause-one : goal.returns-clause-one
returns-clause-one c = insert_one

pub returns-clause-order : goal.returns-clause-order
returns-clause-order c = insert_order
