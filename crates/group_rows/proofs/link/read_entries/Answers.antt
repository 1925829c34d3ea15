use Rattle.group_rows.specs.Gathering.{IsMalformed}
use Rattle.group_rows.proofs.CallLemmas.{passed}
use Rattle.group_rows.proofs.LinkLemmas.{link_there, links_more}
use Rattle.group_rows.proofs.link.read_entries.Goals as goal

pub returns-in_err-link-clause-whole : goal.returns-in_err-link-clause-whole
returns-in_err-link-clause-whole c = λ fs h.
    let one = link_there c.args.heap.now.segment.items c.args.entries.now fs c.loop-entry.entry-index _
    c.loop-entry-test.true h in
    passed c.from_residual.result c.in_err-link.field-0.0 (λ stop. ¬ IsMalformed stop) c.from_residual.ensures.1
    (c.in_err-link.ensures.whole one.0 one.1)

pub loop-entry-preserved : goal.loop-entry-preserved
loop-entry-preserved c =
    links_more c.args.heap.now.segment.items c.args.entries.now c.loop-entry.entry-index _ c.loop-entry.links.items _
    c.in_ok-link.link c.loop-entry-test.true c.loop-entry.invariant c.in_ok-link.ensures.found
    c.in_ok-keep.ensures.kept
