use Rattle.std.proofs.Common.{arith}
use Rattle.block_space.proofs.Needed.{need_exact}
use Rattle.block_space.proofs.blocks.Blocks.find_room.Goals as goal

pub returns-in-Some-clause-none : goal.returns-in-Some-clause-none
returns-in-Some-clause-none g c = λ met keeps. (
  omega (arith, c.count.ensures met keeps.lists),
  c.in-Some.class,
  c.in-Some.ensures.first,
  c.end.ensures,
  need_exact (g.V.Space.view c.args.self.now.space) c.args.needs.now c.in-Some.class _ c.region_need.ensures
      c.requires.small,
)
