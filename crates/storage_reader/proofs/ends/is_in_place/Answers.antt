use Rattle.std.proofs.Common.{refl}
use Rattle.file_model.specs.RefusedChunks.{BelowKey, AboveKey, OffsetsDisordered}
use Rattle.storage_reader.proofs.ends.is_in_place.Goals as goal

pub returns-then-not-is_from-clause-no : goal.returns-then-not-is_from-clause-no
returns-then-not-is_from-clause-no c = λ no done cs before here node.
    BelowKey (λ from. let yes = (c.is_from.ensures cs (rw c.in-Some.is at here.ends_are) here.ordered).1 from in cc) refl

pub returns-then-not-is_below-clause-no : goal.returns-then-not-is_below-clause-no
returns-then-not-is_below-clause-no c = λ no done cs before here node.
    let ends = rw c.in-Some.is at here.ends_are in
    AboveKey ((c.is_from.ensures cs ends here.ordered).0 c.if-not-is_from.false) (λ below. let yes = (c.is_below.ensures cs ends here.ordered).1 below in cc) refl

pub returns-clause-no : goal.returns-clause-no
returns-clause-no c = λ no done cs before here node.
    let ends = rw c.in-Some.is at here.ends_are in
    OffsetsDisordered ((c.is_from.ensures cs ends here.ordered).0 c.if-not-is_from.false) ((c.is_below.ensures cs ends here.ordered).0 c.if-not-is_below.false)
    (λ ordered. let yes = (c.follows.ensures done cs before ends here.ordered).1 ordered in cc) refl
