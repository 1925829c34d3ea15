use Rattle.h5_base.specs.declared.extent.MemClass.TheVariants.{Super}
use Rattle.block_space.specs.Catalogue.{blocks_of}
use Rattle.block_space.specs.Plans.{classes}
use Rattle.edit_room.specs.Touched.{cut_range}
use Rattle.edit_room.proofs.Ranges.{flat_more}
use Rattle.edit_room.proofs.touching.push_all_behind.Goals as goal

pub loop-class-preserved : goal.loop-class-preserved
loop-class-preserved g c = flat_more (cut_range (g.V.Space.view c.args.blocks.now.space) c.args.needs.now) classes
    c.loop-class.class-index Super (blocks_of c.args.ranges.now.items) _ _ c.loop-class-test.true c.loop-class.invariant
    c.in_ok-push_behind.ensures
