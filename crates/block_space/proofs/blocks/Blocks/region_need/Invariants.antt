use Rattle.std.proofs.Common.{◌≡◌, ◌-◌, ◌^◌, min, take}
use Rattle.std.specs.List.{sum_by}
use Rattle.block_space.specs.Plans.{classes, share}
use Rattle.block_space.proofs.blocks.Blocks.region_need.Given as goal

abbrev pub invariant-loop-other : goal.invariant-loop-other
invariant-loop-other g l =
    l.sum ≡ min (sum_by (share (g.V.Space.view l.self.space).regions l.needs l.class) (take l.other-index classes)) (2 ^ 64 - 1)
