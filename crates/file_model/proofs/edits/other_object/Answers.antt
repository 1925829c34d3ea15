use Rattle.file_model.proofs.OtherObject.{other_first, other_table, other_shape, other_layout}
use Rattle.file_model.proofs.edits.other_object.Goals as goal

pub returns-clause-first : goal.returns-clause-first
returns-clause-first c = other_first

pub returns-clause-table : goal.returns-clause-table
returns-clause-table c = other_table

pub returns-clause-shape : goal.returns-clause-shape
returns-clause-shape c = other_shape

pub returns-clause-layout : goal.returns-clause-layout
returns-clause-layout c = other_layout
