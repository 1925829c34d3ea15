use Rattle.std.proofs.Common.{◌-◌, ◌^◌}
use Rattle.block_space.specs.Plans.{share}
use Rattle.block_space.proofs.Needed.{clamped_more}
use Rattle.block_space.proofs.blocks.Blocks.region_need.Goals as goal

pub loop-other-preserved : goal.loop-other-preserved
loop-other-preserved g c = clamped_more
    (share (g.V.Space.view c.args.self.now.space).regions c.args.needs.now c.args.class) c.loop-other.other-index
    c.loop-other.sum c.share.result _ (2 ^ 64 - 1) c.loop-other-test.true c.loop-other.invariant c.share.ensures
    c.saturating_add-sum.ensures
