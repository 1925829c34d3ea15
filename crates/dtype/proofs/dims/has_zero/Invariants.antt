use Rattle.std.proofs.Common.{◌<◌, take}
use Rattle.dtype.specs.Products.{product}
use Rattle.dtype.proofs.dims.has_zero.Given as goal

abbrev pub invariant-loop-size : goal.invariant-loop-size
invariant-loop-size l = 0 < product (take l.size-index l.sizes)
