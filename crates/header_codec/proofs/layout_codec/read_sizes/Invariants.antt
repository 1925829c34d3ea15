use Rattle.std.proofs.Common.{◌≡◌, take, length}
use Rattle.header_codec.specs.Layouts.{u32s_at}
use Rattle.header_codec.proofs.layout_codec.read_sizes.Given as goal

abbrev pub invariant-loop-i : goal.invariant-loop-i
invariant-loop-i l = record {
  room : length l.sizes ≡ 33;
  read : take l.i l.sizes ≡ u32s_at l.bytes l.at l.i;
}
