use Rattle.std.proofs.Common.{◌≡◌, ◌+◌, ◌<◌, IsTrue, length}
use Rattle.std.specs.List.{sum_by}
use Rattle.block_space.specs.Blocks.{array_of}
use Rattle.group_rows.proofs.CallLemmas.{Leaves}
use Rattle.group_rows.proofs.TreeLemmas.{IsDown}
use Rattle.group_rows.proofs.tree.read_tree.Given as goal

abbrev pub invariant-loop-level : goal.invariant-loop-level
invariant-loop-level g l = record {
  reads : Leaves g.V.Space.view g.V.Kept.Alike g.V.Space.faults l.fn.blocks l.blocks;
  down : IsTrue g.V.Space.tells → IsDown (array_of g.V.Space.view l.fn.blocks) l.k l.tree_at l.level l.row l.rows.items
      l.fn.gathered l.gathered;
  left : length l.row + sum_by length l.rows.items + l.gathered.left ≡ l.fn.gathered.left;
  few : 0 < length l.rows.items → length l.rows.items + l.level < 256;
}

abbrev pub decreases-loop-level : goal.decreases-loop-level
decreases-loop-level g l = l.level
