use Rattle.storage_reader.proofs.Places.{from_tested}
use Rattle.storage_reader.proofs.ends.is_from.Goals as goal

pub returns-else-is_first : goal.returns-else-is_first
returns-else-is_first c = rw c.if-is_first.false (from_tested c.args.low.now c.args.ends.now.first c.args.ends.now.last c.comes_before.result c.comes_before.ensures)
