use Rattle.session_model.proofs.NameLemmas.{extend_limit}
use Rattle.session_model.proofs.NameLemmas.{rank_limit}
use Rattle.session_model.proofs.laws.limits.Goals as goal

pub returns-clause-rank : goal.returns-clause-rank
returns-clause-rank c = rank_limit

pub returns-clause-extended : goal.returns-clause-extended
returns-clause-extended c = extend_limit
