use Rattle.file_model.proofs.HeldOrder.{found_names}
use Rattle.file_model.proofs.edits.found_names.Goals as goal

pub returns : goal.returns
returns c = found_names
