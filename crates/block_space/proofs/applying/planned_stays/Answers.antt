use Rattle.block_space.proofs.applying.planned_stays.Goals as goal
use Rattle.block_space.proofs.Planned.{planned_stays}

pub returns : goal.returns
returns c = planned_stays
