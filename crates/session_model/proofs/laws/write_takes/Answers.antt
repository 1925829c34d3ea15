use Rattle.session_model.proofs.WriteLemmas.{empty_box_lem}
use Rattle.session_model.proofs.WriteLemmas.{write_takes_lem}
use Rattle.session_model.proofs.laws.write_takes.Goals as goal

pub returns-clause-some : goal.returns-clause-some
returns-clause-some c = write_takes_lem

pub returns-clause-none : goal.returns-clause-none
returns-clause-none c = empty_box_lem
