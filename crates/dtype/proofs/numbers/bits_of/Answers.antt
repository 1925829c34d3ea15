use Rattle.std.proofs.Common.{refl, ◌<ℤ◌, pos, arith}
use Rattle.std.proofs.lemmas.Int.{ints}
use Rattle.dtype.proofs.NumberLaws.{bits_of_negative}
use Rattle.dtype.proofs.numbers.bits_of.Goals as goal

pub overflow_cast-result : goal.overflow_cast-result
overflow_cast-result c =
    let below : c.args.number <ℤ pos 0 = omega (arith, ints) in
    let p = bits_of_negative c.args.size c.args.signed c.args.number c.half.result c.requires.size c.ranges.number c.requires.held below c.half.ensures in
    rw p.0 (tt, record { fits = p.1 })

pub returns-then-number-lt0 : goal.returns-then-number-lt0
returns-then-number-lt0 c =
    let below : c.args.number <ℤ pos 0 = omega (arith, ints) in
    let p = bits_of_negative c.args.size c.args.signed c.args.number c.half.result c.requires.size c.ranges.number c.requires.held below c.half.ensures in
    rw p.0 refl
