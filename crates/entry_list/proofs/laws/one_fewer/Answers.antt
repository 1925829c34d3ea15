use Rattle.entry_list.proofs.EntryLaws.{one_fewer}
use Rattle.entry_list.proofs.laws.one_fewer.Goals as goal

pub returns : goal.returns
returns c = one_fewer
