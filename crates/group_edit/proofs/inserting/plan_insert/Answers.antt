use Rattle.std.proofs.Common.{List, subst, sym}
use Rattle.outside.specs.Blocks.{Block}
use Rattle.outside.specs.Space.{SpaceView}
use Rattle.block_space.specs.Blocks.{Keeps, array_of}
use Rattle.block_space.specs.Plans.{FitsCatalogue}
use Rattle.group_rows.specs.Gathering.{IsMalformed}
use Rattle.group_rows.proofs.CallLemmas.{passed}
use Rattle.group_edit.specs.Drafts.{IsPlanFor}
use Rattle.group_edit.specs.Edited.{Inserts, StaysWithin, TakesLink}
use Rattle.group_edit.specs.Inserting.{IsInsertDraft}
use Rattle.group_edit.proofs.BelowRead.{kept_below, segment_below}
use Rattle.group_edit.proofs.InsertedPlan.{caches_with, insert_below, insert_fits, insert_inserts, insert_room}
use Rattle.group_edit.proofs.InsertedPlan.{insert_takes, insert_within}
use Rattle.group_edit.proofs.RemovedLinks.{read_links}
use Rattle.group_edit.proofs.RemovedPlan.{ok_weaker}
use Rattle.group_edit.proofs.inserting.plan_insert.Goals as goal

pub draft_link-requires-clause-within : goal.draft_link-requires-clause-within
draft_link-requires-clause-within g c =
    let met = c.requires.listed.0 in
    let keeps = c.requires.listed.1 in
    segment_below c.args.group.now c.in_ok-read.read met (c.in_ok-read.ensures.among met keeps)
    (kept_below g.V.Space.view c.args.blocks.now (g.met.V.Space.sound _ c.requires.stands).regions met keeps)
    c.is_address.ensures

pub returns-in_err-place-clause-whole : goal.returns-in_err-place-clause-whole
returns-in_err-place-clause-whole g c = λ told.
    let group = c.args.group.now in
    let b = array_of g.V.Space.view c.args.blocks.now in
    let held = c.requires.held told in
    let rd = c.in_ok-read.ensures.found told held.links held.own held.has in
    passed c.from_residual-in_err-place.result c.in_err-place.field-0.0 (λ stop. ¬ IsMalformed stop)
    c.from_residual-in_err-place.ensures.1
    (c.in_err-place.ensures.whole held.links
    (read_links b group c.in_ok-read.read held.links held.own held.has rd) held.has.ordered
    (c.requires.lacks told held.links held.own held.has))

pub draft_plan-requires-clause-caches : goal.draft_plan-requires-clause-caches
draft_plan-requires-clause-caches g c =
    let group = c.args.group.now in
    let link = c.args.link in
    let read = c.in_ok-read.read in
    let draft = c.in-Ok.drafted.draft in
    let v = g.V.Space.view c.args.blocks.now.space in
    let dr = subst (λ (w : SpaceView). IsInsertDraft w group c.args.ahead.now link.name.now link.target read draft)
    (sym (g.met.V.Space.alike _ _ c.in_ok-read.ensures.reads.alike)) c.in-Ok.ensures.draft in
    caches_with v group c.args.ahead.now link.name.now link.target read draft dr c.in_ok-read.ensures.small.caches

pub draft_plan-requires-clause-below : goal.draft_plan-requires-clause-below
draft_plan-requires-clause-below g c =
    let group = c.args.group.now in
    let link = c.args.link in
    let read = c.in_ok-read.read in
    let draft = c.in-Ok.drafted.draft in
    let v = g.V.Space.view c.args.blocks.now.space in
    let dr = subst (λ (w : SpaceView). IsInsertDraft w group c.args.ahead.now link.name.now link.target read draft)
    (sym (g.met.V.Space.alike _ _ c.in_ok-read.ensures.reads.alike)) c.in-Ok.ensures.draft in
    let met = c.requires.listed.0 in
    let keeps = c.requires.listed.1 in
    insert_below v group c.args.ahead.now link.name.now link.target read draft dr c.requires.name.most
    c.in_ok-read.ensures.small met (c.in_ok-read.ensures.among met keeps)
    (kept_below g.V.Space.view c.args.blocks.now (g.met.V.Space.sound _ c.requires.stands).regions met keeps)

pub returns-in-Ok-clause-inserts : goal.returns-in-Ok-clause-inserts
returns-in-Ok-clause-inserts g c = λ told.
    let group = c.args.group.now in
    let link = c.args.link in
    let read = c.in_ok-read.read in
    let draft = c.in-Ok.drafted.draft in
    let v = g.V.Space.view c.args.blocks.now.space in
    let dr = subst (λ (w : SpaceView). IsInsertDraft w group c.args.ahead.now link.name.now link.target read draft)
    (sym (g.met.V.Space.alike _ _ c.in_ok-read.ensures.reads.alike)) c.in-Ok.ensures.draft in
    let images = c.in-Ok.drafted.old.items in
    ok_weaker c.draft_plan.result (IsPlanFor group.ks images draft)
    (Inserts v group c.args.ahead.now link.name.now link.target)
    (insert_inserts v group c.args.ahead.now link.name.now link.target read draft dr c.requires.ks
    (g.met.V.Space.sound _ c.requires.stands).regions c.requires.name c.in_ok-read.ensures.small images
    c.in-Ok.ensures.old (c.in_ok-read.ensures.found told) (c.requires.lacks told)) c.draft_plan.ensures.plan

pub returns-in-Ok-clause-takes : goal.returns-in-Ok-clause-takes
returns-in-Ok-clause-takes g c = λ told.
    let group = c.args.group.now in
    let link = c.args.link in
    let read = c.in_ok-read.read in
    let draft = c.in-Ok.drafted.draft in
    let v = g.V.Space.view c.args.blocks.now.space in
    let dr = subst (λ (w : SpaceView). IsInsertDraft w group c.args.ahead.now link.name.now link.target read draft)
    (sym (g.met.V.Space.alike _ _ c.in_ok-read.ensures.reads.alike)) c.in-Ok.ensures.draft in
    let images = c.in-Ok.drafted.old.items in
    ok_weaker c.draft_plan.result (IsPlanFor group.ks images draft) (TakesLink v group link.name.now)
    (insert_takes v group c.args.ahead.now link.name.now link.target read draft dr c.requires.ks images
    (c.in_ok-read.ensures.found told)) c.draft_plan.ensures.plan

pub returns-in-Ok-clause-within : goal.returns-in-Ok-clause-within
returns-in-Ok-clause-within g c = λ told.
    let group = c.args.group.now in
    let link = c.args.link in
    let read = c.in_ok-read.read in
    let draft = c.in-Ok.drafted.draft in
    let v = g.V.Space.view c.args.blocks.now.space in
    let dr = subst (λ (w : SpaceView). IsInsertDraft w group c.args.ahead.now link.name.now link.target read draft)
    (sym (g.met.V.Space.alike _ _ c.in_ok-read.ensures.reads.alike)) c.in-Ok.ensures.draft in
    let images = c.in-Ok.drafted.old.items in
    ok_weaker c.draft_plan.result (IsPlanFor group.ks images draft) (StaysWithin v group)
    (insert_within v group c.args.ahead.now link.name.now link.target read draft dr c.requires.ks images
    (c.in_ok-read.ensures.found told)) c.draft_plan.ensures.plan

pub returns-in-Ok-clause-fits : goal.returns-in-Ok-clause-fits
returns-in-Ok-clause-fits g c =
    let group = c.args.group.now in
    let link = c.args.link in
    let read = c.in_ok-read.read in
    let draft = c.in-Ok.drafted.draft in
    let v = g.V.Space.view c.args.blocks.now.space in
    let dr = subst (λ (w : SpaceView). IsInsertDraft w group c.args.ahead.now link.name.now link.target read draft)
    (sym (g.met.V.Space.alike _ _ c.in_ok-read.ensures.reads.alike)) c.in-Ok.ensures.draft in
    let images = c.in-Ok.drafted.old.items in
    ok_weaker c.draft_plan.result (IsPlanFor group.ks images draft)
    (λ plan. (met : List Block) → Keeps g.V.Space.view c.args.blocks.now met → FitsCatalogue met plan)
    (λ plan pl met keeps. insert_fits v group c.args.ahead.now link.name.now link.target read draft dr c.requires.ks
    images plan pl met (c.in_ok-read.ensures.among met keeps)) c.draft_plan.ensures.plan

pub returns-in-Ok-clause-whole : goal.returns-in-Ok-clause-whole
returns-in-Ok-clause-whole g c = λ told.
    let group = c.args.group.now in
    let link = c.args.link in
    let read = c.in_ok-read.read in
    let draft = c.in-Ok.drafted.draft in
    let v = g.V.Space.view c.args.blocks.now.space in
    let dr = subst (λ (w : SpaceView). IsInsertDraft w group c.args.ahead.now link.name.now link.target read draft)
    (sym (g.met.V.Space.alike _ _ c.in_ok-read.ensures.reads.alike)) c.in-Ok.ensures.draft in
    let held = c.requires.held told in
    c.draft_plan.ensures.whole (insert_room v group c.args.ahead.now link.name.now link.target read draft dr
    c.requires.ks held.links held.own held.has (c.in_ok-read.ensures.found told held.links held.own held.has)
    c.in_ok-read.ensures.small)
