use Rattle.block_space.specs.Blocks.{array_of}
use Rattle.group_rows.proofs.LinkLemmas.{read_links, told_links}
use Rattle.group_rows.proofs.list.list_links.Goals as goal

pub returns-clause-links : goal.returns-clause-links
returns-clause-links g c = λ told fs bs h.
    told_links c.in_ok-read.read.heap.segment.items c.deref.result.now fs c.read_entries.result
    (read_links (array_of g.V.Space.view c.args.blocks.now) c.args.group.now c.in_ok-read.read fs bs h
    (c.in_ok-read.ensures.found told fs bs h) c.deref.result.now c.deref.ensures.value) c.read_entries.ensures.found

pub returns-clause-whole : goal.returns-clause-whole
returns-clause-whole g c = λ told.
    let held = c.requires.held told in
    c.read_entries.ensures.whole held.links
    (read_links (array_of g.V.Space.view c.args.blocks.now) c.args.group.now c.in_ok-read.read held.links held.own
    held.has (c.in_ok-read.ensures.found told held.links held.own held.has) c.deref.result.now c.deref.ensures.value)
