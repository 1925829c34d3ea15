use Rattle.std.proofs.Common.{◌≡◌, ◌++◌, take}
use Rattle.std.specs.List.{flat_map}
use Rattle.block_space.specs.Catalogue.{blocks_of}
use Rattle.block_space.specs.Plans.{classes, new_range}
use Rattle.block_space.proofs.blocks.Blocks.ranges.Given as goal

abbrev pub invariant-loop-class : goal.invariant-loop-class
invariant-loop-class g l = blocks_of l.ranges.items
    ≡ blocks_of l.writes.items ++ flat_map (new_range (g.V.Space.view l.self.space) l.needs) (take l.class-index classes)
