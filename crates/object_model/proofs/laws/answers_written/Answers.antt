use Rattle.object_model.proofs.StepLemmas.{answers_written}
use Rattle.object_model.proofs.laws.answers_written.Goals as goal

pub returns : goal.returns
returns c = answers_written
