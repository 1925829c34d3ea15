use Rattle.end_fields.proofs.Greatest.{one_end}
use Rattle.end_fields.proofs.laws.one_end.Goals as goal

pub returns : goal.returns
returns c = one_end
