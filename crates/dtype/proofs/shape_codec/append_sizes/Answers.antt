use Rattle.std.proofs.Common.{take, get_or, append_assoc}
use Rattle.std.specs.Int.{w64, to_le_bytes}
use Rattle.h5_base.specs.Fields.{u64s_bytes}
use Rattle.h5_base.proofs.FieldLemmas.{u64s_bytes-take}
use Rattle.dtype.proofs.shape_codec.append_sizes.Goals as goal

pub loop-size-preserved : goal.loop-size-preserved
loop-size-preserved c =
    let ns = c.args.sizes.now in
    let i = c.loop-size.size-index in
    rw (c.in-Ok.ensures.items, c.loop-size.invariant, c.to_le_bytes.ensures, u64s_bytes-take ns i c.loop-size-test.true)
    (append_assoc c.args.bytes.now.items (u64s_bytes (take i ns)) (to_le_bytes w64 (get_or ns i 0)))
