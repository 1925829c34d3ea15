use Rattle.std.proofs.Common.{Err, sym, ap}
use Rattle.outside.proofs.Causes.{one_later}
use Rattle.block_space.specs.Blocks.{Refuses, array_of}
use Rattle.file_model.specs.RefusedGroups.{IsTableRefused}
use Rattle.group_reader.proofs.TableLemmas.{heap_read, table_found, table_refused, segment_refused}
use Rattle.group_reader.proofs.Told.{passed, passed_failed}
use Rattle.group_reader.proofs.links.read_links.Goals as goal

pub returns-in_err-segment-clause-refused : goal.returns-in_err-segment-clause-refused
returns-in_err-segment-clause-refused g c = λ told.
    let stop = c.in_err-segment.field-0.0 in
    passed c.from_residual-in_err-segment.result stop (Refuses g.V.Space.view c.args.blocks.now
    (λ e met r. IsTableRefused (array_of g.V.Space.view c.args.blocks.now) e c.args.ks met c.args.tree_at
    c.args.heap_at r)) c.from_residual-in_err-segment.ensures.1
    (segment_refused g.V.Space.view c.args.blocks.now c.read_head.new.blocks c.args.ks c.args.tree_at c.args.heap_at
    (sym (g.met.V.Space.alike _ _ c.in_ok-head.ensures.alike)) c.in_ok-head.ensures.taken
    c.in_ok-head.head stop (c.in_ok-head.ensures.found told) c.in_ok-head.ensures.small
    c.in_err-segment.ensures.refused)

pub returns-in_err-segment-clause-failed : goal.returns-in_err-segment-clause-failed
returns-in_err-segment-clause-failed g c =
    passed_failed c.from_residual-in_err-segment.result c.in_err-segment.field-0.0
    c.from_residual-in_err-segment.ensures.1
    (λ failed. one_later _ _ _ (g.met.V.Space.goes_counts _ _ (g.met.V.Space.goes_alike _ _ c.in_ok-head.ensures.alike))
    (c.in_err-segment.ensures.failed (ap Err failed)))

pub returns-in_err-read_tree-clause-refused : goal.returns-in_err-read_tree-clause-refused
returns-in_err-read_tree-clause-refused g c = λ told.
    let read = heap_read g.V.Space.view c.args.blocks.now c.read_head.new.blocks c.read_segment.new.blocks
    c.args.heap_at c.in_ok-head.head c.deref.result.now _ (c.in_ok-head.ensures.found told)
    c.in_ok-head.ensures.small
    (g.met.V.Space.alike _ _ c.in_ok-head.ensures.alike) (g.met.V.Space.alike _ _ c.in_ok-segment.ensures.alike)
    c.deref.ensures.value (c.in_ok-segment.ensures.bytes told) c.in_ok-head.ensures.taken
    c.in_ok-segment.ensures.taken in
    let stop = c.in_err-read_tree.field-0.0 in
    passed c.from_residual-in_err-read_tree.result stop (Refuses g.V.Space.view c.args.blocks.now
    (λ e met r. IsTableRefused (array_of g.V.Space.view c.args.blocks.now) e c.args.ks met c.args.tree_at
    c.args.heap_at r)) c.from_residual-in_err-read_tree.ensures.1
    (table_refused g.V.Space.view c.args.blocks.now c.read_head.new.blocks c.read_segment.new.blocks c.args.ks
    c.args.tree_at c.args.heap_at c.in_ok-head.head c.deref.result.now read stop
    (c.in_err-read_tree.ensures.refused told))

pub returns-in_err-read_tree-clause-failed : goal.returns-in_err-read_tree-clause-failed
returns-in_err-read_tree-clause-failed g c =
    passed_failed c.from_residual-in_err-read_tree.result c.in_err-read_tree.field-0.0
    c.from_residual-in_err-read_tree.ensures.1
    (λ failed. one_later _ _ _ (g.met.V.Space.goes_counts _ _
    (g.met.V.Space.goes_alike _ _ (g.V.Kept.transitive _ _ _ c.in_ok-head.ensures.alike
    c.in_ok-segment.ensures.alike))) (c.in_err-read_tree.ensures.failed (ap Err failed)))

pub returns-clause-found : goal.returns-clause-found
returns-clause-found g c = λ told.
    let read = heap_read g.V.Space.view c.args.blocks.now c.read_head.new.blocks c.read_segment.new.blocks
    c.args.heap_at c.in_ok-head.head c.deref.result.now _ (c.in_ok-head.ensures.found told)
    c.in_ok-head.ensures.small
    (g.met.V.Space.alike _ _ c.in_ok-head.ensures.alike) (g.met.V.Space.alike _ _ c.in_ok-segment.ensures.alike)
    c.deref.ensures.value (c.in_ok-segment.ensures.bytes told) c.in_ok-head.ensures.taken
    c.in_ok-segment.ensures.taken in
    table_found g.V.Space.view c.args.blocks.now c.read_head.new.blocks c.read_segment.new.blocks c.args.ks
    c.args.tree_at c.args.heap_at c.in_ok-head.head c.deref.result.now read
    g.V.Space.tells c.read_tree.new.blocks (record {
      links = c.new.result;
      texts = record
          { left = c.args.texts.now.left };
    }) c.read_tree.new.gathered told c.new.ensures.items
    c.in_ok-read_tree.ensures.adds
