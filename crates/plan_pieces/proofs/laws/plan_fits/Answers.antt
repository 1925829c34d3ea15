use Rattle.plan_pieces.proofs.Planned.{plan_fits}
use Rattle.plan_pieces.proofs.laws.plan_fits.Goals as goal

pub returns : goal.returns
returns c = plan_fits
