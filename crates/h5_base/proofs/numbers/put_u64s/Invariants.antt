use Rattle.std.proofs.Common.{take}
use Rattle.h5_base.specs.Fields.{Puts, u64s_bytes}
use Rattle.h5_base.proofs.numbers.put_u64s.Given as goal

abbrev pub invariant-loop-i : goal.invariant-loop-i
invariant-loop-i l = Puts l.initial.out l.out l.at (u64s_bytes (take l.i l.numbers))
