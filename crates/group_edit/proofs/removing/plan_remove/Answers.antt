use Rattle.std.proofs.Common.{◌≡◌, List, []}
use Rattle.outside.specs.Blocks.{Block}
use Rattle.block_space.specs.Blocks.{Keeps, array_of}
use Rattle.block_space.specs.Plans.{FitsCatalogue}
use Rattle.group_rows.specs.Gathering.{IsMalformed}
use Rattle.group_rows.proofs.CallLemmas.{passed}
use Rattle.group_edit.specs.Drafts.{IsPlanFor}
use Rattle.group_edit.specs.Edited.{Removes}
use Rattle.group_edit.proofs.BelowRead.{kept_below, segment_below}
use Rattle.group_edit.proofs.RemovedLinks.{read_links}
use Rattle.group_edit.proofs.RemovedPlan.{caches_left, no_takes, ok_weaker, rest_below, rest_fits, rest_removes}
use Rattle.group_edit.proofs.RemovedPlan.{rest_room}
use Rattle.group_edit.proofs.removing.plan_remove.Goals as goal

pub draft_rest-requires-clause-within : goal.draft_rest-requires-clause-within
draft_rest-requires-clause-within g c =
    let met = c.requires.listed.0 in
    let keeps = c.requires.listed.1 in
    segment_below c.args.group.now c.in_ok-read.read met (c.in_ok-read.ensures.among met keeps)
    (kept_below g.V.Space.view c.args.blocks.now (g.met.V.Space.sound _ c.requires.stands).regions met keeps)
    c.is_address.ensures

pub returns-in_err-drafted-clause-whole : goal.returns-in_err-drafted-clause-whole
returns-in_err-drafted-clause-whole g c = λ told.
    let group = c.args.group.now in
    let b = array_of g.V.Space.view c.args.blocks.now in
    let held = c.requires.held told in
    let rd = c.in_ok-read.ensures.found told held.links held.own held.has in
    passed c.from_residual-in_err-drafted.result c.in_err-drafted.field-0.0 (λ stop. ¬ IsMalformed stop)
    c.from_residual-in_err-drafted.ensures.1
    (c.in_err-drafted.ensures.whole held.links
    (read_links b group c.in_ok-read.read held.links held.own held.has rd) held.has.ordered
    (c.requires.there told held.links held.own held.has))

pub draft_plan-requires-clause-caches : goal.draft_plan-requires-clause-caches
draft_plan-requires-clause-caches g c =
    caches_left c.args.group.now c.args.name.now c.in_ok-read.read c.in_ok-drafted.drafted.draft
    c.in_ok-drafted.ensures.draft c.in_ok-read.ensures.small.caches

pub draft_plan-requires-clause-below : goal.draft_plan-requires-clause-below
draft_plan-requires-clause-below g c =
    let met = c.requires.listed.0 in
    let keeps = c.requires.listed.1 in
    rest_below c.args.group.now c.args.name.now c.in_ok-read.read c.in_ok-drafted.drafted.draft
    c.in_ok-drafted.ensures.draft met (c.in_ok-read.ensures.among met keeps)
    (kept_below g.V.Space.view c.args.blocks.now (g.met.V.Space.sound _ c.requires.stands).regions met keeps)

pub returns-clause-removes : goal.returns-clause-removes
returns-clause-removes g c = λ told.
    let group = c.args.group.now in
    let draft = c.in_ok-drafted.drafted.draft in
    let v = g.V.Space.view c.args.blocks.now.space in
    ok_weaker c.draft_plan.result (IsPlanFor group.ks c.in_ok-drafted.drafted.old.items draft)
    (Removes v group c.args.name.now)
    (rest_removes group c.args.name.now c.in_ok-read.read draft c.in_ok-drafted.ensures.draft v
    c.in_ok-drafted.drafted.old.items c.in_ok-drafted.ensures.old (c.in_ok-read.ensures.found told)
    (c.requires.there told)) c.draft_plan.ensures.plan

pub returns-clause-nothing : goal.returns-clause-nothing
returns-clause-nothing g c =
    let group = c.args.group.now in
    let draft = c.in_ok-drafted.drafted.draft in
    let images = c.in_ok-drafted.drafted.old.items in
    ok_weaker c.draft_plan.result (IsPlanFor group.ks images draft) (λ plan. plan.takes ≡ [])
    (no_takes group c.args.name.now c.in_ok-read.read draft c.in_ok-drafted.ensures.draft images)
    c.draft_plan.ensures.plan

pub returns-clause-fits : goal.returns-clause-fits
returns-clause-fits g c =
    let group = c.args.group.now in
    let draft = c.in_ok-drafted.drafted.draft in
    let images = c.in_ok-drafted.drafted.old.items in
    ok_weaker c.draft_plan.result (IsPlanFor group.ks images draft)
    (λ plan. (met : List Block) → Keeps g.V.Space.view c.args.blocks.now met → FitsCatalogue met plan)
    (λ plan pl met keeps. rest_fits group c.args.name.now c.in_ok-read.read draft c.in_ok-drafted.ensures.draft images
    plan pl met (c.in_ok-read.ensures.among met keeps)) c.draft_plan.ensures.plan

pub returns-clause-whole : goal.returns-clause-whole
returns-clause-whole g c = λ told.
    let group = c.args.group.now in
    let b = array_of g.V.Space.view c.args.blocks.now in
    let held = c.requires.held told in
    let rd = c.in_ok-read.ensures.found told held.links held.own held.has in
    c.draft_plan.ensures.whole (rest_room group c.args.name.now c.in_ok-read.read c.in_ok-drafted.drafted.draft
    c.in_ok-drafted.ensures.draft b held.links held.own held.has rd c.in_ok-read.ensures.small)
