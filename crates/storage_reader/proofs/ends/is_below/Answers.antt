use Rattle.std.proofs.Common.{◌+◌, arith}
use Rattle.storage_reader.proofs.Places.{below_tested}
use Rattle.storage_reader.proofs.ends.is_below.Goals as goal

pub returns-else-i-count : goal.returns-else-i-count
returns-else-i-count c =
    below_tested c.args.node.now.children (c.args.i + 1) c.args.high.now c.args.ends.now.first c.args.ends.now.last c.comes_before.result c.comes_before.ensures (omega arith)
