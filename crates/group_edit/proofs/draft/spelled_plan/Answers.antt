use Rattle.std.proofs.Common.{◌++◌, ◌^◌, ◌<◌, ◌≤◌}
use Rattle.block_space.proofs.Stopped.{if_ok}
use Rattle.block_space.specs.Plans.{all_needed}
use Rattle.plan_pieces.specs.Plan.{IsPlanOf}
use Rattle.group_edit.specs.Drafts.{heap_writes, segment_fills}
use Rattle.group_edit.proofs.DraftBelow.{fills_below, plan_few, plan_small, writes_below}
use Rattle.group_edit.proofs.draft.spelled_plan.Goals as goal

pub images_plan-requires-clause-ends : goal.images_plan-requires-clause-ends
images_plan-requires-clause-ends c = writes_below c.args.ks c.args.draft c.in_ok-laid.laid.writes.items
    c.requires.below c.in_ok-laid.ensures.writes

pub images_plan-requires-clause-sums : goal.images_plan-requires-clause-sums
images_plan-requires-clause-sums c = fills_below c.args.ks c.args.draft c.in_ok-laid.laid.fills.items
    c.requires.ks c.requires.below c.in_ok-laid.ensures.takes

pub returns-clause-small : goal.returns-clause-small
returns-clause-small c =
    let draft = c.args.draft in
    let writes = heap_writes draft.heap ++ c.in_ok-laid.laid.writes.items in
    let fills = c.in_ok-laid.laid.fills.items in
    if_ok c.images_plan.result (IsPlanOf c.args.old.items writes (segment_fills draft.heap ++ fills))
    (λ plan. all_needed plan.needs < 2 ^ 63)
    (λ plan is. plan_small c.args.ks draft c.args.old.items writes fills plan c.requires.ks c.requires.below
    c.in_ok-laid.ensures.takes is) c.images_plan.ensures

pub returns-clause-few : goal.returns-clause-few
returns-clause-few c =
    let draft = c.args.draft in
    let writes = heap_writes draft.heap ++ c.in_ok-laid.laid.writes.items in
    let fills = c.in_ok-laid.laid.fills.items in
    if_ok c.images_plan.result (IsPlanOf c.args.old.items writes (segment_fills draft.heap ++ fills))
    (λ plan. plan.needs.blocks ≤ 2 ^ 31)
    (λ plan is. plan_few c.args.ks draft c.args.old.items writes fills plan c.requires.below
    c.in_ok-laid.ensures.takes is) c.images_plan.ensures
