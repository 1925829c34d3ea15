use Rattle.tree_places.proofs.Held.{add_held, remove_held}
use Rattle.tree_places.proofs.laws.held.Goals as goal

pub returns-clause-adds : goal.returns-clause-adds
returns-clause-adds c = add_held

pub returns-clause-removes : goal.returns-clause-removes
returns-clause-removes c = remove_held
