use Rattle.group_layout.proofs.RowsLemmas.{rows_kept}
use Rattle.group_layout.proofs.laws.rows_kept.Goals as goal

pub returns : goal.returns
returns c = rows_kept
