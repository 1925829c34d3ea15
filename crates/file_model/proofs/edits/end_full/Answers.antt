use Rattle.file_model.proofs.EditFull.{end_full}
use Rattle.file_model.proofs.EndWritten.{end_written}
use Rattle.file_model.proofs.edits.end_full.Goals as goal

pub returns-clause-held : goal.returns-clause-held
returns-clause-held c = end_full

pub returns-clause-written : goal.returns-clause-written
returns-clause-written c = end_written
