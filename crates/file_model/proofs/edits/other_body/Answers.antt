use Rattle.file_model.proofs.OtherBody.{other_body, beside_write}
use Rattle.file_model.proofs.edits.other_body.Goals as goal

pub returns-clause-header : goal.returns-clause-header
returns-clause-header c = other_body

pub returns-clause-write : goal.returns-clause-write
returns-clause-write c = beside_write
