use Rattle.std.proofs.Common.{◌≡◌, ◌++◌, take}
use Rattle.std.specs.List.{flat_map}
use Rattle.block_space.specs.Catalogue.{blocks_of}
use Rattle.block_space.specs.Plans.{classes}
use Rattle.edit_room.specs.Touched.{cut_range}
use Rattle.edit_room.proofs.touching.push_all_behind.Given as goal

abbrev pub invariant-loop-class : goal.invariant-loop-class
invariant-loop-class g l = blocks_of l.ranges.items ≡ blocks_of l.fn.ranges.items
    ++ flat_map (cut_range (g.V.Space.view l.blocks.space) l.needs) (take l.class-index classes)
