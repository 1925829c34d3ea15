use Rattle.block_space.proofs.Stopped.{ok_has, on_ok_gives}
use Rattle.group_edit.proofs.AppliedPlan.{removes_now}
use Rattle.group_edit.proofs.applying.apply_remove.Goals as goal

pub returns-clause-removes : goal.returns-clause-removes
returns-clause-removes g c = λ told.
    let r = c.requires.reserved in
    on_ok_gives c.apply.result _ (λ x is. removes_now g.V.Space.view g.V.Space.tells c.args.blocks.now c.apply.new.self
    c.args.plan.now told (ok_has c.apply.result _ x is c.apply.ensures.applies.done)
    (g.met.V.Space.sound _ (ok_has c.apply.result _ x is c.apply.ensures.stands)).regions r.0 r.1 r.2)
