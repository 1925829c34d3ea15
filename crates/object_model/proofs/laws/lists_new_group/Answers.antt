use Rattle.object_model.proofs.StepLemmas.{lists_new_group}
use Rattle.object_model.proofs.laws.lists_new_group.Goals as goal

pub returns : goal.returns
returns c = lists_new_group
