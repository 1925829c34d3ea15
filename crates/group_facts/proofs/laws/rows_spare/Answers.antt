use Rattle.group_facts.proofs.SpareRoom.{leaves_have_spare, rows_have_spare}
use Rattle.group_facts.proofs.laws.rows_spare.Goals as goal

pub returns-clause-rows : goal.returns-clause-rows
returns-clause-rows c = rows_have_spare

pub returns-clause-leaves : goal.returns-clause-leaves
returns-clause-leaves c = leaves_have_spare
