use Rattle.tree_places.proofs.Edited.{same_stays}
use Rattle.tree_places.proofs.laws.same_stays.Goals as goal

pub returns : goal.returns
returns c = same_stays
