use Rattle.session_model.proofs.NameLemmas.{never_full}
use Rattle.session_model.proofs.NameLemmas.{takes_nothing}
use Rattle.session_model.proofs.laws.takes_nothing.Goals as goal

pub returns-clause-nothing : goal.returns-clause-nothing
returns-clause-nothing c = takes_nothing

pub returns-clause-full : goal.returns-clause-full
returns-clause-full c = never_full
