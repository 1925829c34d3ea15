use Rattle.std.proofs.Common.{Err, sym, ap, ◌∙◌}
use Rattle.block_space.specs.Blocks.{Refuses, array_of}
use Rattle.file_model.specs.RefusedGroups.{IsLeafRefused}
use Rattle.group_reader.proofs.LeafLemmas.{block_refused, no_leaf, leaf_refused, leaf_found}
use Rattle.group_reader.proofs.Told.{passed}
use Rattle.group_reader.proofs.leaf.read_leaf.Goals as goal

pub returns-in_err-bytes-clause-refused : goal.returns-in_err-bytes-clause-refused
returns-in_err-bytes-clause-refused g c = λ told.
    let t = c.args.table.now in
    let stop = c.in_err-bytes.field-0.0 in
    passed c.from_residual.result stop (Refuses g.V.Space.view c.args.blocks.now
    (λ e met. IsLeafRefused (array_of g.V.Space.view c.args.blocks.now) e t.ks t.segment.now t.heap_at met
    c.args.at)) c.from_residual.ensures.1
    (block_refused g.V.Space.view c.args.blocks.now t.ks t.segment.now t.heap_at c.args.at _ c.snod_size.ensures stop
    c.in_err-bytes.ensures.refused)

pub returns-in-Err-NotThis-clause-refused : goal.returns-in-Err-NotThis-clause-refused
returns-in-Err-NotThis-clause-refused g c = λ told.
    let t = c.args.table.now in
    no_leaf g.V.Space.view c.args.blocks.now t.ks t.segment.now t.heap_at c.args.at _ c.snod_size.ensures _
    c.deref.result.now (sym (g.met.V.Space.alike _ _ c.in_ok-bytes.ensures.alike)) c.in_ok-bytes.ensures.found
    (c.deref.ensures.value ∙ c.in_ok-bytes.ensures.bytes told) c.malformed.result
    (c.read_snod.ensures.only (c.in-Err-NotThis.is ∙ ap Err c.in-Err-NotThis.field-0-is)) c.malformed.ensures

pub returns-clause-adds : goal.returns-clause-adds
returns-clause-adds g c =
    let t = c.args.table.now in
    leaf_found g.V.Space.view c.args.blocks.now t.ks t.segment.now t.heap_at c.args.at _ c.snod_size.ensures _
    c.deref.result.now (sym (g.met.V.Space.alike _ _ c.in_ok-bytes.ensures.alike)) c.in_ok-bytes.ensures.found
    c.push_entries.result g.V.Space.tells c.in-Ok.entries.items c.deref-2.result.now c.args.gathered.now
    c.push_entries.new.gathered (λ told. c.deref.ensures.value ∙ c.in_ok-bytes.ensures.bytes told)
    c.in-Ok.ensures.found c.deref-2.ensures.value c.push_entries.ensures.adds

pub returns-clause-refused : goal.returns-clause-refused
returns-clause-refused g c = λ told.
    let t = c.args.table.now in
    leaf_refused g.V.Space.view c.args.blocks.now t.ks t.segment.now t.heap_at c.args.at _ c.snod_size.ensures _
    c.deref.result.now (sym (g.met.V.Space.alike _ _ c.in_ok-bytes.ensures.alike)) c.in_ok-bytes.ensures.found
    (c.deref.ensures.value ∙ c.in_ok-bytes.ensures.bytes told) c.push_entries.result c.in-Ok.entries.items
    c.deref-2.result.now c.in-Ok.ensures.found c.deref-2.ensures.value c.push_entries.ensures.refused
