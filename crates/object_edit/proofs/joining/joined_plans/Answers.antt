use Rattle.object_edit.proofs.Joined.{joined_fits, joined_means}
use Rattle.object_edit.proofs.Parts.{taken_in_parts}
use Rattle.object_edit.proofs.joining.joined_plans.Goals as goal

pub returns-clause-taken : goal.returns-clause-taken
returns-clause-taken c = taken_in_parts

pub returns-clause-means : goal.returns-clause-means
returns-clause-means c = joined_means

pub returns-clause-fits : goal.returns-clause-fits
returns-clause-fits c = joined_fits
