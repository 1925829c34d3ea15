use Rattle.std.proofs.Common.{◌≡◌, ◌+◌, ◌*◌, length, take, arith, length-take}
use Rattle.h5_base.specs.Fields.{u64s_bytes}
use Rattle.h5_base.proofs.FieldLemmas.{puts_more, u64s_bytes-take, length-u64s_bytes}
use Rattle.h5_base.proofs.numbers.put_u64s.Goals as goal

pub loop-i-preserved : goal.loop-i-preserved
loop-i-preserved c =
    let ns = c.args.numbers.now in
    let i = c.loop-i.i in
    let e : c.args.at + 8 * i ≡ c.args.at + length (u64s_bytes (take i ns)) =
    omega (arith, length-u64s_bytes (take i ns), length-take i ns) in
    rw (u64s_bytes-take ns i c.loop-i-test.true) (puts_more _ _ _ _ _ _ _ e c.loop-i.invariant c.put_u64.ensures)
