use Rattle.entry_list.proofs.EntryLaws.{links_insert}
use Rattle.entry_list.proofs.laws.links_insert.Goals as goal

pub returns : goal.returns
returns c = links_insert
