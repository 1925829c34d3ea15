use Rattle.std.proofs.Common.{take, map}
use Rattle.std.specs.List.{All}
use Rattle.std.specs.Int.{w64, to_le_bytes}
use Rattle.h5_base.specs.Fields.{Puts}
use Rattle.node_codec.specs.Cells.{woven}
use Rattle.node_codec.specs.ChunkNodes.{KeyInRange, chunk_key_bytes}
use Rattle.node_codec.proofs.chunk_node.put_chunks.Given as goal

abbrev pub invariant-loop-i : goal.invariant-loop-i
invariant-loop-i l = record {
  put : Puts l.initial.out l.out l.at (woven (map chunk_key_bytes (take l.i l.keys)) (map (to_le_bytes w64) (take l.i l.children)));
  keys : All KeyInRange (take l.i l.keys);
}
