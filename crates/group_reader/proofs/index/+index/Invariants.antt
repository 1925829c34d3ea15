use Rattle.std.proofs.Common.{◌≡◌, ◌+◌, ◌*◌, drop}
use Rattle.group_reader.specs.Links.{Adds}
use Rattle.group_reader.proofs.ChildSteps.{ReadTo}
use Rattle.group_reader.proofs.index.+index.Given as goal

abbrev pub decreases-read_child : goal.decreases-read_child
decreases-read_child g l = 3 * l.level

abbrev pub decreases-read_children : goal.decreases-read_children
decreases-read_children g l = 3 * l.node.now.level + 1

abbrev pub decreases-read_index : goal.decreases-read_index
decreases-read_index g l = 3 * l.level + 2

abbrev pub invariant-read_children-loop-i : goal.invariant-read_children-loop-i
invariant-read_children-loop-i g l = record {
  alike : g.V.Kept.Alike l.fn.blocks.space l.blocks.space;
  calm : g.V.Space.faults l.blocks.space ≡ g.V.Space.faults l.fn.blocks.space;
  adds : Adds l.fn.gathered l.gathered (ReadTo g.V.Space.tells g.V.Space.view l.table.ks l.table.segment.now
      l.table.heap_at
      l.node.level l.node_at l.keys l.children l.fn.blocks l.blocks (drop l.i l.keys) (drop l.i l.children));
}
