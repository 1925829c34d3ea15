use Rattle.std.proofs.Common.{◌∷◌, [], refl}
use Rattle.std.proofs.lemmas.Slice.{pushed}
use Rattle.call_tests.proofs.Covered.{covered_by}
use Rattle.call_tests.proofs.spaces.prepare.Goals as goal

pub returns-clause-covered : goal.returns-clause-covered
returns-clause-covered g c =
    let given = c.in_ok-prepare.ensures.prepared in
    covered_by _ _ _ _ _ given (pushed (_ ∷ []) c.new-ranges.ensures.items c.in_ok-push.was c.push.ensures.items) refl refl
