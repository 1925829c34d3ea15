use Rattle.std.proofs.Common.{[], ◌++◌}
use Rattle.group_edit.specs.Checked.{heap_blocks}
use Rattle.group_facts.specs.Rows.{blocks_by_rows}
use Rattle.group_edit.proofs.CheckedBlocks.{checks_on, handed, left_among, passed_none, passed_ok}
use Rattle.group_edit.proofs.checking.check_read.Goals as goal

pub returns-in_err-check_heap : goal.returns-in_err-check_heap
returns-in_err-check_heap g c =
    let group = c.args.group.now in
    let read = c.args.read.now in
    let nodes = blocks_by_rows group.ks read.leaves read.rows.items group.tree_at in
    handed g.V.Space.view c.args.blocks.now c.args.blocks.now c.check_heap.new.blocks [] (heap_blocks read.heap)
    (heap_blocks read.heap ++ nodes) c.from_residual.result c.in_err-check_heap.field-0.0
    c.from_residual.ensures.1 (passed_none g.V.Space.view c.args.blocks.now) c.in_err-check_heap.ensures
    (left_among (heap_blocks read.heap) nodes)

pub returns : goal.returns
returns g c =
    let group = c.args.group.now in
    let read = c.args.read.now in
    checks_on g.V.Space.view c.args.blocks.now c.check_heap.new.blocks c.check_nodes.new.blocks
    (heap_blocks read.heap) (blocks_by_rows group.ks read.leaves read.rows.items group.tree_at) c.check_nodes.result
    (passed_ok g.V.Space.view c.args.blocks.now c.check_heap.new.blocks (heap_blocks read.heap)
    c.in_ok-check_heap.field-0 c.in_ok-check_heap.ensures) c.check_nodes.ensures
