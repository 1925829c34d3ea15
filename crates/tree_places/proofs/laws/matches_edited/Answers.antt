use Rattle.tree_places.proofs.Matched.{matches_edit, matches_add, matches_remove}
use Rattle.tree_places.proofs.laws.matches_edited.Goals as goal

pub returns-clause-edit : goal.returns-clause-edit
returns-clause-edit c = matches_edit

pub returns-clause-adds : goal.returns-clause-adds
returns-clause-adds c = matches_add

pub returns-clause-removes : goal.returns-clause-removes
returns-clause-removes c = matches_remove
