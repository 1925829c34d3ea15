use Rattle.std.proofs.Common.{◌≡◌, ◌++◌, take}
use Rattle.h5_base.specs.Fields.{u64s_bytes}
use Rattle.dtype.proofs.shape_codec.append_sizes.Given as goal

abbrev pub invariant-loop-size : goal.invariant-loop-size
invariant-loop-size l = l.bytes.items ≡ l.initial.bytes.items ++ u64s_bytes (take l.size-index l.sizes)
