use Rattle.group_facts.proofs.RowBlocks.{rows_are_blocks}
use Rattle.group_facts.proofs.RowRoom.{rows_have_room}
use Rattle.group_facts.proofs.laws.rows_of_index.Goals as goal

pub returns-clause-blocks : goal.returns-clause-blocks
returns-clause-blocks c = rows_are_blocks

pub returns-clause-room : goal.returns-clause-room
returns-clause-room c = rows_have_room
