use Rattle.script_run.proofs.Parts.{stopped_in_part}
use Rattle.script_run.proofs.laws.stopped_in_part.Goals as goal

pub returns : goal.returns
returns c = stopped_in_part
