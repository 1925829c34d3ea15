use Rattle.std.proofs.Common.{ap, arith}
use Rattle.block_space.specs.Plans.{rounded}
use Rattle.plan_pieces.proofs.Summed.{next_below, next_sums}
use Rattle.plan_pieces.proofs.needs.needs_of.Goals as goal

pub with_block-needs-requires-clause-bytes : goal.with_block-needs-requires-clause-bytes
with_block-needs-requires-clause-bytes c = omega (
  arith,
  next_below c.args.fills.now c.loop-fill.fill-index
      c.fill-item.result c.loop-fill-test.true c.fill-item.is c.loop-fill.needs c.requires.small c.loop-fill.invariant.0,
  ap rounded c.len.ensures,
)

pub loop-fill-preserved : goal.loop-fill-preserved
loop-fill-preserved c = (
  next_sums c.args.fills.now c.loop-fill.fill-index c.fill-item.result c.loop-fill-test.true c.fill-item.is
      c.loop-fill.needs c.with_block-needs.result c.loop-fill.invariant.0 (rw c.len.ensures at c.with_block-needs.ensures),
  omega (arith, c.with_block-needs.ensures.blocks, c.loop-fill.invariant.1),
)
