use Rattle.group_layout.proofs.RowLemmas.{row_in_order}
use Rattle.group_layout.proofs.RowsLemmas.{rows_in_order}
use Rattle.group_layout.proofs.laws.rows_in_order.Goals as goal

pub returns-clause-one : goal.returns-clause-one
returns-clause-one c = row_in_order

pub returns-clause-all : goal.returns-clause-all
returns-clause-all c = rows_in_order
