use Rattle.block_space.proofs.NextKeys.{last_of_range}
use Rattle.block_space.proofs.neighbours.last_below.Goals as goal

pub returns-in-Some : goal.returns-in-Some
returns-in-Some c = last_of_range c.args.catalogue.now _ _ _ _ (c.range.ensures.in_range tt) c.in-Some.ensures.steps
