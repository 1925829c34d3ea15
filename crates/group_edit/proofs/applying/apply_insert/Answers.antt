use Rattle.block_space.proofs.Stopped.{ok_has, on_ok_gives}
use Rattle.group_edit.proofs.AppliedPlan.{inserts_now}
use Rattle.group_edit.proofs.applying.apply_insert.Goals as goal

pub returns-clause-inserts : goal.returns-clause-inserts
returns-clause-inserts g c = λ told.
    let r = c.requires.reserved in
    on_ok_gives c.apply.result _ (λ x is. inserts_now g.V.Space.view g.V.Space.tells c.args.blocks.now c.apply.new.self
    c.args.plan.now told (ok_has c.apply.result _ x is c.apply.ensures.applies.done)
    (g.met.V.Space.sound _ (ok_has c.apply.result _ x is c.apply.ensures.stands)).regions r.0 r.1 r.2)
