use Rattle.file_model.proofs.FrameLemmas.{frame}
use Rattle.file_model.proofs.laws.frame.Goals as goal

pub returns : goal.returns
returns c = frame
