use Rattle.tree_places.proofs.Matched.{opened_places}
use Rattle.tree_places.proofs.Places.{new_group_place}
use Rattle.tree_places.proofs.laws.opened_places.Goals as goal

pub returns-clause-opened : goal.returns-clause-opened
returns-clause-opened c = opened_places

pub returns-clause-group : goal.returns-clause-group
returns-clause-group c = new_group_place
