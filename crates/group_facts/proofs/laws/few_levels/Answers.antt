use Rattle.group_facts.proofs.Levels.{few_levels}
use Rattle.group_facts.proofs.laws.few_levels.Goals as goal

pub returns : goal.returns
returns c = few_levels
