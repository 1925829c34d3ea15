use Rattle.file_model.proofs.EmptyFile.{empty_holds, empty_kept}
use Rattle.file_model.proofs.laws.empty_file.Goals as goal

pub returns-clause-holds : goal.returns-clause-holds
returns-clause-holds c = empty_holds

pub returns-clause-kept : goal.returns-clause-kept
returns-clause-kept c = empty_kept
