use Rattle.entry_list.proofs.EntryLaws.{one_more}
use Rattle.entry_list.proofs.laws.one_more.Goals as goal

pub returns : goal.returns
returns c = one_more
