use Rattle.std.proofs.Common.{◌≡◌, map}
use Rattle.node_codec.specs.ChunkNodes.{chunk_key_of, key_cells}
use Rattle.node_codec.proofs.chunk_node.read_keys.Given as goal

abbrev pub invariant-loop-i : goal.invariant-loop-i
invariant-loop-i l = l.keys.items ≡ map (chunk_key_of l.rank) (key_cells l.rank l.i l.bytes)
