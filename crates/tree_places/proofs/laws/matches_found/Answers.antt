use Rattle.tree_places.proofs.Matched.{matches_walk, matches_to_add, matches_to_remove}
use Rattle.tree_places.proofs.laws.matches_found.Goals as goal

pub returns-clause-walk : goal.returns-clause-walk
returns-clause-walk c = matches_walk

pub returns-clause-to_add : goal.returns-clause-to_add
returns-clause-to_add c = matches_to_add

pub returns-clause-to_remove : goal.returns-clause-to_remove
returns-clause-to_remove c = matches_to_remove
