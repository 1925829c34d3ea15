use Rattle.tree_places.proofs.Steps.{add_is, add_step, remove_step}
use Rattle.tree_places.proofs.laws.steps.Goals as goal

pub returns-clause-adds : goal.returns-clause-adds
returns-clause-adds c = add_is

pub returns-clause-mkgroup : goal.returns-clause-mkgroup
returns-clause-mkgroup c = add_step

pub returns-clause-rm : goal.returns-clause-rm
returns-clause-rm c = remove_step
