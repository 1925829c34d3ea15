use Rattle.std.proofs.Common.{rules, ◌≡◌, ◌<◌, [], length, get_or, sym, ◌∙◌, arith}
use Rattle.std.proofs.lemmas.List.{get_or_default}
use Rattle.file_ids.proofs.PlaceLemmas.{place_of-found, place_of-absent}
use Rattle.file_ids.proofs.place.Goals as goal

pub returns-then-eq : goal.returns-then-eq
returns-then-eq c =
    let lt : c.loop-i.i < length c.args.names.now = omega arith in
    let same : c.index-names-i.result ≡ c.args.name.now = search rules in
    let item : get_or c.args.names.now c.loop-i.i [] ≡ c.index-names-i.result =
    get_or_default c.args.names.now c.loop-i.i [] c.index-names-i.result lt ∙ sym c.index-names-i.is in
    (lt, place_of-found _ _ _ lt (item ∙ same) c.loop-i.invariant)

pub returns : goal.returns
returns c = place_of-absent _ _ (λ k lt. c.loop-i.invariant k (omega arith))
