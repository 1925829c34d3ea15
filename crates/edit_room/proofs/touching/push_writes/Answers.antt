use Rattle.h5_base.specs.declared.extent.Extent.{Extent}
use Rattle.outside.specs.Blocks.{placed}
use Rattle.block_space.specs.Catalogue.{blocks_of}
use Rattle.edit_room.proofs.Ranges.{flat_more_item}
use Rattle.edit_room.proofs.touching.push_writes.Goals as goal

pub loop-write-preserved : goal.loop-write-preserved
loop-write-preserved c = flat_more_item (λ (x : Extent). placed x.start x.len) c.args.writes.now
    c.loop-write.write-index c.write-item.result (blocks_of c.args.ranges.now.items) _ _ c.loop-write-test.true c.write-item.is
    c.loop-write.invariant c.in_ok-push_filled.ensures
