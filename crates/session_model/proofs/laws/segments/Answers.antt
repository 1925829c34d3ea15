use Rattle.session_model.proofs.NameLemmas.{used_lengths}
use Rattle.session_model.proofs.laws.segments.Goals as goal

pub returns-clause-used : goal.returns-clause-used
returns-clause-used c = used_lengths
