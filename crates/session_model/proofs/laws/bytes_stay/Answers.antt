use Rattle.session_model.proofs.ReachLemmas.{bytes_stay}
use Rattle.session_model.proofs.ReachLemmas.{pages_cover}
use Rattle.session_model.proofs.ReachLemmas.{pages_reached}
use Rattle.session_model.proofs.laws.bytes_stay.Goals as goal

pub returns-clause-bytes : goal.returns-clause-bytes
returns-clause-bytes c = bytes_stay

pub returns-clause-pages : goal.returns-clause-pages
returns-clause-pages c = pages_reached

pub returns-clause-cover : goal.returns-clause-cover
returns-clause-cover c = pages_cover
