use Rattle.plan_pieces.proofs.Planned.{plan_stays}
use Rattle.plan_pieces.proofs.laws.plan_stays.Goals as goal

pub returns : goal.returns
returns c = plan_stays
