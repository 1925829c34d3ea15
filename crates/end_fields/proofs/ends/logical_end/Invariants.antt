use Rattle.std.specs.List.{AllWithin}
use Rattle.block_space.specs.Plans.{classes}
use Rattle.end_fields.proofs.Greatest.{IsBelow, IsMet}
use Rattle.end_fields.proofs.ends.logical_end.Given as goal

abbrev pub invariant-loop-class : goal.invariant-loop-class
invariant-loop-class g l =
    let view = g.V.Space.view l.space in
    record {
      below : AllWithin (IsBelow view.regions view.ends l.greatest) classes 0 l.class-index;
      met : IsMet view.regions view.ends l.greatest;
    }
