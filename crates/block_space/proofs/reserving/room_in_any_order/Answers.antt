use Rattle.block_space.proofs.Readied.{room_in_any_order}
use Rattle.block_space.proofs.reserving.room_in_any_order.Goals as goal

pub returns : goal.returns
returns c = room_in_any_order
