use Rattle.std.proofs.Common.{◌<◌, get_or, refl, arith}
use Rattle.dtype.proofs.ProductLaws.{product-take, product-zero, positive}
use Rattle.dtype.proofs.dims.has_zero.Goals as goal

pub returns-then-size-eq0 : goal.returns-then-size-eq0
returns-then-size-eq0 c =
    let none = product-zero c.args.sizes.now c.loop-size.size-index c.loop-size-test.true c.if-size-eq0.true in
    (λ t. none, λ z. refl)

pub loop-size-preserved : goal.loop-size-preserved
loop-size-preserved c =
    let some : 0 < get_or c.args.sizes.now c.loop-size.size-index 0 = omega (arith, c.if-size-eq0.false) in
    rw (product-take c.args.sizes.now c.loop-size.size-index c.loop-size-test.true) (positive _ _ c.loop-size.invariant some)
