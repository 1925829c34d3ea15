use Rattle.std.proofs.Common.{◌≡◌, ◌++◌, take}
use Rattle.block_space.specs.Catalogue.{blocks_of}
use Rattle.edit_room.specs.Touched.{filled_ranges}
use Rattle.edit_room.proofs.touching.push_writes.Given as goal

abbrev pub invariant-loop-write : goal.invariant-loop-write
invariant-loop-write l =
    blocks_of l.ranges.items ≡ blocks_of l.fn.ranges.items ++ filled_ranges (take l.write-index l.writes)
