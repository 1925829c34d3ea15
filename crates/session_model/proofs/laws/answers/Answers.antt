use Rattle.session_model.proofs.LineLemmas.{keeps_state}
use Rattle.session_model.proofs.laws.answers.Goals as goal

pub returns-clause-keeps : goal.returns-clause-keeps
returns-clause-keeps c = keeps_state
