use Rattle.std.proofs.Common.{◌≡◌, List, IsTrue}
use Rattle.outside.specs.Blocks.{Block}
use Rattle.block_space.specs.Blocks.{Keeps, spare_of}
use Rattle.block_space.proofs.Written.{Wrote}
use Rattle.block_space.proofs.blocks.Blocks.write_all.Given as goal

abbrev pub invariant-loop-i : goal.invariant-loop-i
invariant-loop-i g l = record {
  stands : g.V.Space.Stands l.self.space;
  edited : g.V.Space.Edited l.fn.self.space l.self.space;
  steady : IsTrue g.V.Space.tells_stops → g.V.Space.Steady l.fn.self.space → g.V.Space.Steady l.self.space;
  faults : g.V.Space.faults l.self.space ≡ g.V.Space.faults l.fn.self.space;
  copies : g.V.Space.copy_faults l.self.space ≡ g.V.Space.copy_faults l.fn.self.space;
  wrote : Wrote g.V.Space.tells (g.V.Space.view l.fn.self.space) (g.V.Space.view l.self.space) l.fn.plan.writes
      l.fn.plan.images l.i;
  spare : spare_of l.self ≡ spare_of l.fn.self;
  kept : (met : List Block) → Keeps g.V.Space.view l.fn.self met → Keeps g.V.Space.view l.self met;
}
