use Rattle.entry_list.proofs.OrderLaws.{name_found}
use Rattle.entry_list.proofs.laws.name_found.Goals as goal

pub returns : goal.returns
returns c = name_found
