use Rattle.std.proofs.Common.{ℕ, ◌*◌, length, min, ap, ◌∙◌}
use Rattle.group_layout.proofs.WidenLemmas.{grown_by}
use Rattle.group_layout.proofs.widening.widened.Goals as goal

pub returns-clause-wider : goal.returns-clause-wider
returns-clause-wider c =
    let product = c.saturating_mul.ensures
    ∙ ap (λ (n : ℕ). min (c.args.room * n) 18446744073709551615) c.len.ensures in
    let count = ap length c.from_vec-new.ensures ∙ c.in_ok-taken.ensures.count ∙ c.from-count.ensures in
    grown_by c.args.room c.args.below c.saturating_mul.result c.args.old c.from_vec-new.result product c.ranges.below.fits count
