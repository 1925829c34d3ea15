use Rattle.std.proofs.Common.{take, map}
use Rattle.std.specs.Int.{w64, to_le_bytes}
use Rattle.h5_base.specs.Fields.{Puts}
use Rattle.node_codec.specs.Cells.{woven}
use Rattle.node_codec.proofs.group_node.put_links.Given as goal

abbrev pub invariant-loop-i : goal.invariant-loop-i
invariant-loop-i l = Puts l.initial.out l.out l.at (woven (map (to_le_bytes w64) (take l.i l.keys)) (map (to_le_bytes w64) (take l.i l.children)))
