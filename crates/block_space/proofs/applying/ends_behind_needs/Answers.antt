use Rattle.block_space.proofs.Readied.{ends_behind_needs}
use Rattle.block_space.proofs.applying.ends_behind_needs.Goals as goal

pub returns : goal.returns
returns c = ends_behind_needs
