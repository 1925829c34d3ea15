use Rattle.std.proofs.Common.{refl, arith}
use Rattle.block_space.specs.Plans.{IsShort}
use Rattle.block_space.proofs.Needed.{first_short}
use Rattle.block_space.proofs.SixClasses.{every_class}
use Rattle.block_space.proofs.blocks.Blocks.short_class.Goals as goal

pub returns-then-is_short-clause-first : goal.returns-then-is_short-clause-first
returns-then-is_short-clause-first g c = first_short (g.V.Space.view c.args.self.now.space) c.args.needs.now
    c.loop-class.class-index _ c.loop-class-test.true refl c.loop-class.invariant (c.is_short.ensures.0 c.if-is_short.true)

pub returns-clause-none : goal.returns-clause-none
returns-clause-none g c = every_class (λ d. IsShort (g.V.Space.view c.args.self.now.space) c.args.needs.now d → ⊥)
    (λ k d low l. c.loop-class.invariant k d low (omega arith))
