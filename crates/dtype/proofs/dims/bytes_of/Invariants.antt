use Rattle.std.proofs.Common.{◌≡◌, ◌*◌, ◌-◌, ◌^◌, ◌≤◌, take}
use Rattle.dtype.specs.Products.{product}
use Rattle.dtype.proofs.dims.bytes_of.Given as goal

abbrev pub invariant-loop-size : goal.invariant-loop-size
invariant-loop-size l = record {
  so_far : l.total ≡ product (take l.size-index l.sizes) * l.elem_size;
  small : l.total ≤ 2 ^ 63 - 1;
}
