use Rattle.group_layout.proofs.BlockLemmas.{rows_blocks}
use Rattle.group_layout.proofs.laws.rows_blocks.Goals as goal

pub returns : goal.returns
returns c = rows_blocks
