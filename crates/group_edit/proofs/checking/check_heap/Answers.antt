use Rattle.std.proofs.Common.{[], ◌∷◌, ◌++◌}
use Rattle.outside.specs.Blocks.{placed}
use Rattle.group_edit.proofs.CheckedBlocks.{checks_on, handed, left_among, passed_none, passed_ok}
use Rattle.group_edit.proofs.checking.check_heap.Goals as goal

pub returns-in_err-check_block : goal.returns-in_err-check_block
returns-in_err-check_block g c =
    let heap = c.args.heap.now in
    let head = record { start = heap.at; len = 32 } ∷ [] in
    handed g.V.Space.view c.args.blocks.now c.args.blocks.now c.check_block.new.blocks [] head
    (head ++ placed heap.head.segment_at heap.head.len) c.from_residual.result c.in_err-check_block.field-0.0
    c.from_residual.ensures.1 (passed_none g.V.Space.view c.args.blocks.now) c.in_err-check_block.ensures
    (left_among head (placed heap.head.segment_at heap.head.len))

pub returns : goal.returns
returns g c =
    let heap = c.args.heap.now in
    let head = record { start = heap.at; len = 32 } ∷ [] in
    checks_on g.V.Space.view c.args.blocks.now c.check_block.new.blocks c.check_placed.new.blocks head
    (placed heap.head.segment_at heap.head.len) c.check_placed.result
    (passed_ok g.V.Space.view c.args.blocks.now c.check_block.new.blocks head c.in_ok-check_block.field-0
    c.in_ok-check_block.ensures) c.check_placed.ensures
