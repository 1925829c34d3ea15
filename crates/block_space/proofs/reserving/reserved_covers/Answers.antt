use Rattle.block_space.proofs.Readied.{reserved_covers}
use Rattle.block_space.proofs.reserving.reserved_covers.Goals as goal

pub returns : goal.returns
returns c = reserved_covers
