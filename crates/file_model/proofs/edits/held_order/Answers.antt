use Rattle.file_model.proofs.HeldOrder.{held_order}
use Rattle.file_model.proofs.edits.held_order.Goals as goal

pub returns : goal.returns
returns c = held_order
