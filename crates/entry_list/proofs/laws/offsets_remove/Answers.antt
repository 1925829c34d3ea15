use Rattle.entry_list.proofs.EntryLaws.{offsets_remove}
use Rattle.entry_list.proofs.laws.offsets_remove.Goals as goal

pub returns : goal.returns
returns c = offsets_remove
