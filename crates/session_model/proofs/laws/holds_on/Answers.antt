use Rattle.session_model.proofs.LineLemmas.{holds_on}
use Rattle.session_model.proofs.LineLemmas.{one_state}
use Rattle.session_model.proofs.laws.holds_on.Goals as goal

pub returns-clause-held : goal.returns-clause-held
returns-clause-held c = holds_on

pub returns-clause-one : goal.returns-clause-one
returns-clause-one c = one_state
