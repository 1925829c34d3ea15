use Rattle.group_layout.proofs.GrowthLemmas.{wider_fits, few_more, none_more}
use Rattle.group_layout.proofs.laws.rows_grow.Goals as goal

pub returns-clause-fits : goal.returns-clause-fits
returns-clause-fits c = wider_fits

pub returns-clause-few : goal.returns-clause-few
returns-clause-few c = few_more

pub returns-clause-none : goal.returns-clause-none
returns-clause-none c = none_more
