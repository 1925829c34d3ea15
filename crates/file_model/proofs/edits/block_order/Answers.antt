use Rattle.file_model.proofs.BlockOrder.{apart_order, kept_order, kept_together, apart_from_order, apart_from_parts}
use Rattle.file_model.proofs.edits.block_order.Goals as goal

pub returns-clause-apart : goal.returns-clause-apart
returns-clause-apart c = apart_order

pub returns-clause-kept : goal.returns-clause-kept
returns-clause-kept c = kept_order

pub returns-clause-together : goal.returns-clause-together
returns-clause-together c = kept_together

pub returns-clause-apart_from : goal.returns-clause-apart_from
returns-clause-apart_from c = apart_from_order

pub returns-clause-parts : goal.returns-clause-parts
returns-clause-parts c = apart_from_parts
