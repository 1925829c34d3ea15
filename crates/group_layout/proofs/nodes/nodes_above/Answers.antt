use Rattle.std.proofs.Common.{ℕ, ◌+◌, ◌-◌, take, drop, arith, sym, ap, ◌∙◌}
use Rattle.group_layout.proofs.RowNodes.{part_node, nodes_step}
use Rattle.group_layout.proofs.nodes.nodes_above.Goals as goal

pub loop-i-preserved : goal.loop-i-preserved
loop-i-preserved c =
    let keys = c.args.keys.now in
    let below = c.args.below.now in
    let from = c.loop-i.from in
    let to = c.part_end-to.result in
    let step = nodes_step c.args.level c.args.room c.loop-i.left c.loop-i.nodes.items c.args.ats.now keys below c.loop-i.i
    from to c.loop-i-test.true c.part_end-to.ensures in
    let node = c.in_ok-node.ensures ∙ ap (λ (r : ℕ). part_node c.args.level c.loop-i.left r
    (take (to + 1 - from) (drop from keys)) (take (to - from) (drop from below))) c.at_or_none-right.ensures in
    record {
      inside = omega arith;
      nodes = rw (c.in-Ok.ensures.items, node) (sym step ∙ c.loop-i.invariant.nodes);
    }
