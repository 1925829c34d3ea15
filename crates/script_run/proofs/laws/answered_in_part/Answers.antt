use Rattle.script_run.proofs.Parts.{answered_in_part}
use Rattle.script_run.proofs.laws.answered_in_part.Goals as goal

pub returns : goal.returns
returns c = answered_in_part
