use Rattle.file_model.proofs.EditFull.{edit_full, edit_holds, driver_same}
use Rattle.file_model.proofs.edits.edit_full.Goals as goal

pub returns-clause-full : goal.returns-clause-full
returns-clause-full c = edit_full

pub returns-clause-holds : goal.returns-clause-holds
returns-clause-holds c = edit_holds

pub returns-clause-driver : goal.returns-clause-driver
returns-clause-driver c = driver_same
