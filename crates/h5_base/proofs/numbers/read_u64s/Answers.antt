use Rattle.std.proofs.Common.{sym}
use Rattle.h5_base.proofs.FieldLemmas.{u64s_at-more}
use Rattle.h5_base.proofs.numbers.read_u64s.Goals as goal

pub loop-i-preserved : goal.loop-i-preserved
loop-i-preserved c = rw (c.in-Ok.ensures.items, c.loop-i.invariant, c.u64_of.ensures) (sym (u64s_at-more c.args.bytes.now c.args.at c.args.step c.loop-i.i))
