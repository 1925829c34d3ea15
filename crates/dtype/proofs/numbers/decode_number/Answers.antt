use Rattle.std.proofs.Common.{◌<◌, ◌*◌, ◌^◌, ◌≤ℤ◌, length, arith}
use Rattle.std.proofs.lemmas.Int.{ints}
use Rattle.dtype.proofs.NumberLaws.{number_of_bits, unsigned_below}
use Rattle.dtype.proofs.numbers.decode_number.Goals as goal

pub returns-then-number-half : goal.returns-then-number-half
returns-then-number-half c =
    let size = length c.args.bytes.now in
    let reached : c.half-half.result ≤ℤ c.from-number.result = omega (arith, ints) in
    let below : c.unsigned.result < 2 ^ (8 * size) = rw c.unsigned.ensures (unsigned_below c.args.big c.args.bytes.now c.type_inv.bytes size c.requires) in
    number_of_bits c.unsigned.result size c.from-number.result c.half-half.result c.args.signed c.args.big c.args.bytes.now
    c.requires c.from-number.ensures c.half-half.ensures c.if-signed.true c.unsigned.ensures below reached
