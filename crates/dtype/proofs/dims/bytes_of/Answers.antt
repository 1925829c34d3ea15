use Rattle.std.proofs.Common.{◌-◌, ◌*◌, ◌^◌, ◌<◌, ◌∙◌, get_or, arith}
use Rattle.dtype.specs.Products.{product}
use Rattle.dtype.proofs.ProductLaws.{bytes-take, past_most, some_bytes}
use Rattle.dtype.proofs.dims.bytes_of.Goals as goal

pub returns-in-None : goal.returns-in-None
returns-in-None c fits =
    let some = some_bytes c.has_zero.result (product c.args.sizes.now) c.has_zero.ensures c.if-has_zero.false in
    let more : 2 ^ 63 - 1 < c.loop-size.total * get_or c.args.sizes.now c.loop-size.size-index 0 = omega (arith, c.in-None.ensures) in
    let many = past_most c.args.sizes.now c.loop-size.size-index c.args.elem_size c.loop-size.total c.loop-size-test.true some c.loop-size.invariant.so_far more in
    omega (arith, many, fits)

pub loop-size-preserved : goal.loop-size-preserved
loop-size-preserved c = record {
  so_far =
      c.in-Some.ensures.1 ∙ bytes-take c.args.sizes.now c.loop-size.size-index c.args.elem_size c.loop-size.total c.loop-size-test.true c.loop-size.invariant.so_far;
  small = rw c.in-Some.ensures.1 c.in-Some.ensures.0;
}
