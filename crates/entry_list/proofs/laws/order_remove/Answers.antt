use Rattle.entry_list.proofs.OrderLaws.{order_remove}
use Rattle.entry_list.proofs.laws.order_remove.Goals as goal

pub returns : goal.returns
returns c = order_remove
