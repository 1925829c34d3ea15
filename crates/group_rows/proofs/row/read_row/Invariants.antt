use Rattle.std.proofs.Common.{◌≡◌, ◌+◌, IsTrue, length, take}
use Rattle.block_space.specs.Blocks.{array_of}
use Rattle.group_rows.specs.Rows.{row_children}
use Rattle.group_rows.specs.Gathering.{AddsNodes}
use Rattle.group_rows.proofs.CallLemmas.{Leaves}
use Rattle.group_rows.proofs.row.read_row.Given as goal

abbrev pub invariant-loop-at : goal.invariant-loop-at
invariant-loop-at g l = record {
  reads : Leaves g.V.Space.view g.V.Kept.Alike g.V.Space.faults l.fn.blocks l.blocks;
  found : IsTrue g.V.Space.tells → l.children.items
      ≡ row_children (array_of g.V.Space.view l.fn.blocks) l.k (take l.at-index l.ats);
  adds : IsTrue g.V.Space.tells
      → AddsNodes (array_of g.V.Space.view l.fn.blocks) l.k (take l.at-index l.ats) l.fn.gathered l.gathered;
  left : length l.children.items + l.gathered.left ≡ l.fn.gathered.left;
}
