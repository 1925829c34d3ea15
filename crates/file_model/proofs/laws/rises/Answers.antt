use Rattle.file_model.proofs.FrameLemmas.{holds_risen}
use Rattle.file_model.proofs.laws.rises.Goals as goal

pub returns : goal.returns
returns c = holds_risen
