use Rattle.std.proofs.Common.{◌+◌, List, subst, sym}
use Rattle.block_space.specs.Blocks.{space_of}
use Rattle.group_layout.specs.declared.row.Row.{Row}
use Rattle.group_edit.specs.Grown.{IsGrown}
use Rattle.group_edit.proofs.GrownRows.{is_grown}
use Rattle.group_edit.proofs.growing.grow.Goals as goal

pub returns : goal.returns
returns g c =
    let v = g.V.Space.view (space_of c.args.blocks.now) in
    let ks = c.args.group.now.ks in
    let grown = c.in_ok-grown.grown in
    let wide = c.in_ok-widen.ensures in
    subst (λ (w : List Row). IsGrown v ks c.args.ahead.now c.args.count c.args.nodes.leaves c.args.nodes.rows.items
    c.args.group.now.tree_at (record { leaves = grown.row; rows = w; tree = c.args.group.now.tree_at }))
    (sym c.from_vec-rows.ensures)
    (is_grown v ks c.args.ahead.now grown.behind c.args.count c.args.nodes.leaves c.args.nodes.rows.items
    c.keep_rows-kept.result.items c.args.group.now.tree_at (c.len.result + c.len-2.result) c.next-at.result
    c.group_node_size-step.result grown.row c.in_ok-widen.field-0.items c.keep_rows-kept.ensures c.in_ok-grown.ensures
    (λ i. c.len.ensures i + c.len-2.ensures i) c.next-at.ensures c.group_node_size-step.ensures wide.wider wide.olds
    wide.news)
