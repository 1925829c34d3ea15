use Rattle.std.proofs.Common.{ap}
use Rattle.h5_base.specs.declared.extent.Region.{Region}
use Rattle.block_space.proofs.Needed.{short_by}
use Rattle.block_space.proofs.blocks.Blocks.is_short.Goals as goal

pub returns : goal.returns
returns g c = short_by (g.V.Space.view c.args.self.now.space) c.args.needs.now c.args.class _ _ _ c.end-end.ensures
    (ap (λ (r : Region). r.limit) c.region.ensures) c.region_need.ensures
    ((g.met.V.Space.sound _ c.requires.stands).regions.high c.args.class) c.requires.small
