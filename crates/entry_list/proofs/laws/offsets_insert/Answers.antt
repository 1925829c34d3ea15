use Rattle.entry_list.proofs.EntryLaws.{offsets_insert}
use Rattle.entry_list.proofs.laws.offsets_insert.Goals as goal

pub returns : goal.returns
returns c = offsets_insert
