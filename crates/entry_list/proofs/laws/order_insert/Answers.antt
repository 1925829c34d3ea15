use Rattle.entry_list.proofs.OrderLaws.{order_insert}
use Rattle.entry_list.proofs.laws.order_insert.Goals as goal

pub returns : goal.returns
returns c = order_insert
