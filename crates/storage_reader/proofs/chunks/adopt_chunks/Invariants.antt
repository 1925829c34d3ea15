use Rattle.std.proofs.Common.{◌≡◌}
use Rattle.block_space.specs.Blocks.{Takes, array_of, space_of}
use Rattle.storage_reader.specs.Nodes.{child_at, refused_child}
use Rattle.storage_reader.proofs.LeafRead.{ChunksRead}
use Rattle.storage_reader.proofs.chunks.adopt_chunks.Given as goal

abbrev pub invariant-loop-i : goal.invariant-loop-i
invariant-loop-i g l = record {
  read : Takes g.V.Space.view l.initial.blocks l.blocks
      (ChunksRead (child_at (array_of g.V.Space.view l.initial.blocks) l.form l.node.level) (refused_child (array_of g.V.Space.view l.initial.blocks) l.form l.node.level l.fn.at) l.fn.at l.node l.i);
  space : space_of l.blocks ≡ space_of l.initial.blocks;
}
