use Rattle.std.specs.Prelude.{◌≡◌, take}
use Rattle.block_space.specs.Catalogue.{blocks_of}
use Rattle.plan_pieces.specs.Images.{image_blocks}
use Rattle.plan_pieces.proofs.plan.ranges_in.Given as goal

-- the ranges of those that were met so far
abbrev pub invariant-loop-image : goal.invariant-loop-image
invariant-loop-image l = blocks_of l.ranges.items ≡ take l.image-index (image_blocks l.images)
