use Rattle.new_group.proofs.Stays.{empty_stays}
use Rattle.new_group.proofs.laws.empty_stays.Goals as goal

pub returns : goal.returns
returns c = empty_stays
