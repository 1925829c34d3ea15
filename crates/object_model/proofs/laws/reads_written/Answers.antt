use Rattle.object_model.proofs.DataLemmas.{reads_written}
use Rattle.object_model.proofs.laws.reads_written.Goals as goal

pub returns : goal.returns
returns c = reads_written
