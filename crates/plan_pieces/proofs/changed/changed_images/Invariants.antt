use Rattle.std.specs.Prelude.{◌≡◌, ◌++◌, length}
use Rattle.plan_pieces.specs.Plan.{AreChanged}
use Rattle.plan_pieces.proofs.changed.changed_images.Given as goal

-- those that were met so far, and those to come
abbrev pub invariant-loop-image : goal.invariant-loop-image
invariant-loop-image l = AreChanged l.initial.old.items l.yielded l.changed.items
    × (l.yielded ++ l.image-iterator.rest.items ≡ l.fn.images.items)
    × (length l.image-iterator.rest.items ≡ l.image-iterator.rest.len)
