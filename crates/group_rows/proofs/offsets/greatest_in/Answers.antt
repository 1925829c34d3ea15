use Rattle.group_rows.proofs.OffsetLemmas.{greatest_soft}
use Rattle.group_rows.proofs.offsets.greatest_in.Goals as goal

pub returns-then-entry-eq2 : goal.returns-then-entry-eq2
returns-then-entry-eq2 c =
    greatest_soft c.args.entry.now c.soft_value_at.result c.max.result c.if-entry-eq2.true c.soft_value_at.ensures
    c.max.ensures
