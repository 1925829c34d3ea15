use Rattle.std.proofs.Common.{Err, sym, ap, ◌∙◌}
use Rattle.block_space.specs.Blocks.{Refuses, array_of}
use Rattle.group_reader.specs.Reading.{IsHeadRefused}
use Rattle.group_reader.proofs.NodeLemmas.{block_head, no_head}
use Rattle.group_reader.proofs.Told.{passed}
use Rattle.group_reader.proofs.node.read_node.Goals as goal

pub returns-in_err-bytes-clause-refused : goal.returns-in_err-bytes-clause-refused
returns-in_err-bytes-clause-refused g c = λ told.
    let b = array_of g.V.Space.view c.args.blocks.now in
    let stop = c.in_err-bytes.field-0.0 in
    passed c.from_residual.result stop (Refuses g.V.Space.view c.args.blocks.now
    (λ e met. IsHeadRefused b e c.args.ks met c.args.at)) c.from_residual.ensures.1
    (block_head g.V.Space.view c.args.blocks.now c.args.ks c.args.at _ c.group_node_size.ensures stop
    c.in_err-bytes.ensures.refused)

pub returns-in-Err-NotThis-clause-refused : goal.returns-in-Err-NotThis-clause-refused
returns-in-Err-NotThis-clause-refused g c = λ told.
    no_head g.V.Space.view c.args.blocks.now c.args.ks c.args.at _ c.group_node_size.ensures _ c.malformed.result
    c.deref.result.now (sym (g.met.V.Space.alike _ _ c.in_ok-bytes.ensures.alike)) c.in_ok-bytes.ensures.found
    (c.deref.ensures.value ∙ c.in_ok-bytes.ensures.bytes told)
    (c.read_group_node.ensures.only (c.in-Err-NotThis.is ∙ ap Err c.in-Err-NotThis.field-0-is)) c.malformed.ensures
