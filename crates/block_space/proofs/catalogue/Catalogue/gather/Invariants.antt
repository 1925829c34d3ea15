use Rattle.std.proofs.Common.{List}
use Rattle.outside.specs.Blocks.{Block}
use Rattle.block_space.specs.Catalogue.{IsListed}
use Rattle.block_space.proofs.catalogue.Catalogue.gather.Given as goal

abbrev pub invariant-loop-last : goal.invariant-loop-last
invariant-loop-last l = (met : List Block) → IsListed l.initial.self met → IsListed l.self met

abbrev pub decreases-loop-last : goal.decreases-loop-last
decreases-loop-last l = goal.left-loop-last l
