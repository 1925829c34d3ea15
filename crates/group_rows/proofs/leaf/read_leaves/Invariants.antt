use Rattle.std.proofs.Common.{◌≡◌, All, IsTrue, take}
use Rattle.node_codec.specs.Snod.{IsCache}
use Rattle.block_space.specs.Blocks.{array_of}
use Rattle.group_rows.specs.Rows.{row_entries}
use Rattle.group_rows.specs.Gathering.{AddsLeaves}
use Rattle.group_rows.proofs.CallLemmas.{Leaves}
use Rattle.group_rows.proofs.leaf.read_leaves.Given as goal

abbrev pub invariant-loop-at : goal.invariant-loop-at
invariant-loop-at g l = record {
  reads : Leaves g.V.Space.view g.V.Kept.Alike g.V.Space.faults l.fn.blocks l.blocks;
  found : IsTrue g.V.Space.tells → l.entries.items
      ≡ row_entries (array_of g.V.Space.view l.fn.blocks) l.k (take l.at-index l.ats);
  caches : All IsCache l.entries.items;
  adds : IsTrue g.V.Space.tells
      → AddsLeaves (array_of g.V.Space.view l.fn.blocks) l.k (take l.at-index l.ats) l.fn.gathered l.gathered;
}
