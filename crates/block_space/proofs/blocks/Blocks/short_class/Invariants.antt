use Rattle.std.specs.List.{AllWithin}
use Rattle.block_space.specs.Plans.{classes, IsShort}
use Rattle.block_space.proofs.blocks.Blocks.short_class.Given as goal

abbrev pub invariant-loop-class : goal.invariant-loop-class
invariant-loop-class g l =
    AllWithin (λ d. IsShort (g.V.Space.view l.self.space) l.needs d → ⊥) classes 0 l.class-index
