use Rattle.std.proofs.Common.{◌≡◌, ℕ, ◌≤◌, ◌<◌, ◌^◌, take, get_or}
use Rattle.dtype.specs.Products.{product}
use Rattle.header_codec.proofs.layout_codec.is_chunk.Given as goal

abbrev pub invariant-loop-size : goal.invariant-loop-size
invariant-loop-size l = record {
  bytes : l.bytes ≡ product (take l.size-index l.sizes);
  few : l.bytes < 2 ^ 32;
  some : (k d : ℕ) → k < l.size-index → 1 ≤ get_or l.sizes k d;
}
