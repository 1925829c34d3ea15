use Rattle.entry_list.proofs.OrderLaws.{name_lacking}
use Rattle.entry_list.proofs.laws.name_lacking.Goals as goal

pub returns : goal.returns
returns c = name_lacking
