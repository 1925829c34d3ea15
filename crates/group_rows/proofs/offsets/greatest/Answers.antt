use Rattle.group_rows.proofs.OffsetLemmas.{greatest_more, greatest_all}
use Rattle.group_rows.proofs.offsets.greatest.Goals as goal

pub loop-entry-preserved : goal.loop-entry-preserved
loop-entry-preserved c =
    greatest_more c.args.entries.now c.loop-entry.entry-index _ c.greater-last.result c.loop-entry-test.true
    (c.greater-last.ensures _ _ c.loop-entry.invariant c.greatest_in.ensures)

pub returns : goal.returns
returns c =
    greatest_all c.args.entries.now c.loop-entry.entry-index c.loop-entry.last c.loop-entry-test.false
    c.loop-entry.invariant
