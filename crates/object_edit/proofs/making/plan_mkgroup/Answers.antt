use Rattle.group_rows.proofs.CallLemmas.{handed}
use Rattle.object_edit.proofs.Made.{both_small, fits_both, makes_group}
use Rattle.object_edit.proofs.Parts.{as_many}
use Rattle.object_edit.proofs.making.plan_mkgroup.Goals as goal

pub returns-in_err-link-clause-reads : goal.returns-in_err-link-clause-reads
returns-in_err-link-clause-reads g c = handed g.V.Space.view g.V.Kept.Alike g.V.Space.faults c.args.blocks.now
    c.plan_insert.new.blocks c.from_residual.result c.in_err-link.field-0.0 c.from_residual.ensures.1
    c.in_err-link.ensures.reads

pub join_plans-requires-clause-images : goal.join_plans-requires-clause-images
join_plans-requires-clause-images g c =
    let fits = c.in_ok-link.ensures.fits c.requires.listed.0 c.requires.listed.1 in
    as_many c.in_ok-link.link.writes c.in_ok-link.link.images fits.as_long

pub join_plans-requires-clause-bytes : goal.join_plans-requires-clause-bytes
join_plans-requires-clause-bytes g c =
    both_small (g.V.Space.view c.args.blocks.now.space) c.args.group.now.ks c.no_needs.result c.in-Ok.new
    c.in-Ok.ensures c.no_needs.ensures.bytes c.requires.ks c.in_ok-link.link c.in_ok-link.ensures.small

pub returns-in-Ok-join_plans-clause-makes : goal.returns-in-Ok-join_plans-clause-makes
returns-in-Ok-join_plans-clause-makes g c = λ told.
    let met = c.requires.listed.0 in
    makes_group (g.V.Space.view c.args.blocks.now.space) c.args.group.now c.args.name.now c.no_needs.result c.in-Ok.new
    c.in-Ok.ensures c.no_needs.ensures.bytes c.requires.ks c.in_ok-link.link
    c.in-Ok-join_plans.plan c.in-Ok-join_plans.ensures met
    (c.in_ok-link.ensures.fits met c.requires.listed.1) (c.in_ok-link.ensures.inserts told)
    (c.in_ok-link.ensures.takes told) (c.in_ok-link.ensures.within told)

pub returns-in-Ok-join_plans-clause-fits : goal.returns-in-Ok-join_plans-clause-fits
returns-in-Ok-join_plans-clause-fits g c = λ met keeps.
    fits_both (g.V.Space.view c.args.blocks.now.space) c.args.group.now.ks c.no_needs.result c.in-Ok.new
    c.in-Ok.ensures c.no_needs.ensures.bytes c.requires.ks c.in_ok-link.link c.in-Ok-join_plans.plan
    c.in-Ok-join_plans.ensures met (c.in_ok-link.ensures.fits met keeps) c.in_ok-link.ensures.small
