use Rattle.session_model.proofs.ChunkLemmas.{chunks_take_lem}
use Rattle.session_model.proofs.laws.chunks_take.Goals as goal

pub returns : goal.returns
returns c = chunks_take_lem
