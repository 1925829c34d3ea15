use Rattle.tree_places.proofs.Steps.{add_there, remove_there}
use Rattle.tree_places.proofs.Places.{root_stays}
use Rattle.tree_places.proofs.laws.there.Goals as goal

pub returns-clause-adds : goal.returns-clause-adds
returns-clause-adds c = add_there

pub returns-clause-removes : goal.returns-clause-removes
returns-clause-removes c = remove_there

pub returns-clause-root : goal.returns-clause-root
returns-clause-root c = root_stays
