use Rattle.std.specs.Prelude.{◌≡◌, take}
use Rattle.block_space.specs.Plans.{needed, sum_of}
use Rattle.h5_base.specs.declared.extent.MemClass.{MemClass}
use Rattle.plan_pieces.specs.Images.{takes_of}
use Rattle.plan_pieces.proofs.needs.needs_of.Given as goal

-- the sums and the number of those that were met so far
abbrev pub invariant-loop-fill : goal.invariant-loop-fill
invariant-loop-fill l = ((c : MemClass) → needed l.needs c ≡ sum_of c (take l.fill-index (takes_of l.fills)))
    × (l.needs.blocks ≡ l.fill-index)
