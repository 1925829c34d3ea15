use Rattle.file_model.proofs.FrameLemmas.{full_stays}
use Rattle.file_model.proofs.laws.file_frame.Goals as goal

pub returns : goal.returns
returns c = full_stays
