use Rattle.plan_pieces.proofs.Planned.{plan_has}
use Rattle.plan_pieces.proofs.laws.plan_has.Goals as goal

pub returns : goal.returns
returns c = plan_has
