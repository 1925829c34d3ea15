use Rattle.file_model.proofs.BlockOrder.{agree_order, agree_through, agree_apart}
use Rattle.file_model.proofs.edits.bytes_stay.Goals as goal

pub returns-clause-order : goal.returns-clause-order
returns-clause-order c = agree_order

pub returns-clause-through : goal.returns-clause-through
returns-clause-through c = agree_through

pub returns-clause-apart : goal.returns-clause-apart
returns-clause-apart c = agree_apart
