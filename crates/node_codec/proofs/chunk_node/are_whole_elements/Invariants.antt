use Rattle.std.specs.List.{All}
use Rattle.node_codec.specs.ChunkNodes.{IsWholeElement, key_cells}
use Rattle.node_codec.proofs.chunk_node.are_whole_elements.Given as goal

abbrev pub invariant-loop-i : goal.invariant-loop-i
invariant-loop-i l = All (IsWholeElement l.rank) (key_cells l.rank l.i l.bytes)
