use Rattle.std.proofs.Common.{◌≡◌}
use Rattle.std.specs.List.{All}
use Rattle.node_codec.specs.Snod.{IsCache, entries_of}
use Rattle.node_codec.proofs.snod.read_entries.Given as goal

abbrev pub invariant-loop-i : goal.invariant-loop-i
invariant-loop-i l = record {
  read : l.entries.items ≡ entries_of l.bytes l.i;
  caches : All IsCache l.entries.items;
}
