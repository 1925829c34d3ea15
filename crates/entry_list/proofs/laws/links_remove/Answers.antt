use Rattle.entry_list.proofs.EntryLaws.{links_remove}
use Rattle.entry_list.proofs.laws.links_remove.Goals as goal

pub returns : goal.returns
returns c = links_remove
