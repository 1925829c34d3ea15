use Rattle.outside.specs.Space.{SpaceView}
use Rattle.block_space.specs.Blocks.{space_of}
use Rattle.h5_session.proofs.Did.{calm_causes, closing_given, closing_stays, done_comes, full_comes, full_is, limit_comes}
use Rattle.h5_session.proofs.Did.{limit_is, part_left, stop_causes}
use Rattle.h5_session.proofs.doing.do_plan.Goals as goal

-- ---- nothing was done

pub returns-in-Err-Limit-clause-comes : goal.returns-in-Err-Limit-clause-comes
returns-in-Err-Limit-clause-comes g c = λ met keeps fits.
    let is = c.in-Err-Limit.field-0-is in
    limit_comes g.V.Space.view g.V.Space.tells c.args.blocks.now c.reserve_edit.new.blocks met c.args.plan.now
    c.in-Err-Limit.field-0 (c.in-Err-Limit.ensures.refused met keeps)
    (c.in-Err-Limit.ensures.same (limit_is c.in-Err-Limit.field-0 is)) (c.reserve_edit.ensures.kept met keeps) is

pub returns-in-Err-Full-clause-comes : goal.returns-in-Err-Full-clause-comes
returns-in-Err-Full-clause-comes g c = λ met keeps fits.
    let is = c.in-Err-Full.field-0-is in
    let end = c.in-Err-Full.end in
    let need = c.in-Err-Full.need in
    full_comes g.V.Space.view g.V.Space.tells c.args.blocks.now c.reserve_edit.new.blocks met c.args.plan.now
    c.in-Err-Full.field-0 (c.in-Err-Full.ensures.refused met keeps)
    (c.in-Err-Full.ensures.same (full_is c.in-Err-Full.field-0 end need is)) (c.reserve_edit.ensures.kept met keeps)
    end need is

pub returns-in-Err-Full-clause-stands : goal.returns-in-Err-Full-clause-stands
returns-in-Err-Full-clause-stands g c =
    g.met.V.Space.readied_stands _ _ c.reserve_edit.ensures.readied c.requires.stands

pub returns-in-Err-Full-clause-cause : goal.returns-in-Err-Full-clause-cause
returns-in-Err-Full-clause-cause g c =
    calm_causes _ _ _ _ _ (g.met.V.Space.readied_counts _ _ c.reserve_edit.ensures.readied)
    (g.met.V.Space.readied_copy _ _ c.reserve_edit.ensures.readied)

pub returns-in-Err-Full-clause-edited : goal.returns-in-Err-Full-clause-edited
returns-in-Err-Full-clause-edited g c = g.met.V.Space.edited_readied _ _ c.reserve_edit.ensures.readied

pub returns-in-Err-NoMemory-clause-given : goal.returns-in-Err-NoMemory-clause-given
returns-in-Err-NoMemory-clause-given g c = λ is.
    let view = g.V.Space.view in
    closing_given (view (space_of c.args.blocks.now)) (view (space_of c.reserve_edit.new.blocks)) c.args.plan.now
    c.args.closing c.in-Err-NoMemory.ensures.given

-- ---- the plan was done

pub returns-in-Ok-apply-clause-comes : goal.returns-in-Ok-apply-clause-comes
returns-in-Ok-apply-clause-comes g c = λ met keeps fits.
    done_comes g.V.Space.view g.V.Space.tells c.args.blocks.now c.reserve_edit.new.blocks c.apply.new.self met
    c.args.plan.now c.in-Ok.field-0.items (g.met.V.Space.readied_view _ _ c.reserve_edit.ensures.readied)
    (c.in-Ok.ensures.judged met keeps) fits (c.reserve_edit.ensures.kept met keeps)
    (g.met.V.Space.edited_kind _ _ c.apply.ensures.edited) c.in-Ok-apply.ensures.applies.done

pub returns-in-Ok-apply-clause-closes : goal.returns-in-Ok-apply-clause-closes
returns-in-Ok-apply-clause-closes g c = λ done.
    let view = g.V.Space.view in
    closing_stays c.args.closing (view (space_of c.reserve_edit.new.blocks)).prepared
    (view (space_of c.apply.new.self)).prepared c.in-Ok-apply.ensures.applies.done.prepared
    c.in-Ok.ensures.holds_closing

pub returns-in-Ok-apply-clause-edited : goal.returns-in-Ok-apply-clause-edited
returns-in-Ok-apply-clause-edited g c =
    let readied = c.reserve_edit.ensures.readied in
    g.met.V.Space.edited_further _ _ _ (λ told. g.met.V.Space.readied_steady told _ _ readied)
    (g.met.V.Space.edited_readied _ _ readied) c.apply.ensures.edited

-- ---- a fault came

pub returns-in-Err-clause-in_part : goal.returns-in-Err-clause-in_part
returns-in-Err-clause-in_part g c = λ told fault met keeps fits.
    part_left g.V.Space.view g.V.Space.tells c.args.blocks.now c.reserve_edit.new.blocks c.apply.new.self met
    c.args.plan.now c.in-Ok.field-0.items (g.met.V.Space.readied_view _ _ c.reserve_edit.ensures.readied)
    (c.in-Ok.ensures.judged met keeps) fits (g.met.V.Space.sound _ c.requires.stands).regions
    (c.in-Err.ensures.applies.in_part told) c.in-Err.ensures.applies.ends_in_part

pub returns-in-Err-clause-cause : goal.returns-in-Err-clause-cause
returns-in-Err-clause-cause g c =
    let readied = c.reserve_edit.ensures.readied in
    stop_causes _ _ _ _ _ _ c.in-Err.stop c.of_write.result (g.met.V.Space.readied_counts _ _ readied)
    (g.met.V.Space.readied_copy _ _ readied) c.of_write.ensures c.in-Err.ensures.cause

pub returns-in-Err-clause-edited : goal.returns-in-Err-clause-edited
returns-in-Err-clause-edited g c =
    let readied = c.reserve_edit.ensures.readied in
    g.met.V.Space.edited_further _ _ _ (λ told. g.met.V.Space.readied_steady told _ _ readied)
    (g.met.V.Space.edited_readied _ _ readied) c.apply.ensures.edited
