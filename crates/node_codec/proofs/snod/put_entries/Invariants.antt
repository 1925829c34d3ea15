use Rattle.std.proofs.Common.{take, flat_map}
use Rattle.std.specs.List.{All}
use Rattle.h5_base.specs.Fields.{Puts}
use Rattle.node_codec.specs.Snod.{EntryInRange, entry_bytes}
use Rattle.node_codec.proofs.snod.put_entries.Given as goal

abbrev pub invariant-loop-i : goal.invariant-loop-i
invariant-loop-i l = record {
  put : Puts l.initial.out l.out l.at (flat_map entry_bytes (take l.i l.entries));
  range : All EntryInRange (take l.i l.entries);
}
