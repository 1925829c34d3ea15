use Rattle.tree_places.proofs.Counts.{places_count, add_limits, remove_limits}
use Rattle.tree_places.proofs.laws.counts.Goals as goal

pub returns-clause-kept : goal.returns-clause-kept
returns-clause-kept c = places_count

pub returns-clause-adds : goal.returns-clause-adds
returns-clause-adds c = add_limits

pub returns-clause-removes : goal.returns-clause-removes
returns-clause-removes c = remove_limits
