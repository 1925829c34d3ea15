use Rattle.std.proofs.Common.{◌≡◌, List, ap, subst, sym, ◌∙◌}
use Rattle.object_model.specs.Tree.{Name, last_of}
use Rattle.group_edit.specs.Edited.{Removes}
use Rattle.group_edit.specs.Links.{HasName}
use Rattle.group_rows.specs.declared.group.GroupAt.{GroupAt as GroupPlace}
use Rattle.h5_session.specs.Session.{space_in}
use Rattle.h5_session.proofs.Found.{drop_has, drop_held, drop_place}
use Rattle.h5_session.proofs.Loose.{loose_group}
use Rattle.h5_session.proofs.session.Session.plan_drop.Goals as goal

pub place_of-group-requires : goal.place_of-group-requires
place_of-group-requires g c = loose_group c.args.self.now.tree c.args.path.now c.args.parent c.requires.sound.tree
    c.requires.removes

pub plan_remove-requires-clause-held : goal.plan_remove-requires-clause-held
plan_remove-requires-clause-held g c = λ told.
    let (s, i, can) = c.requires.held told in
    let view = g.V.Space.view in
    let place = c.place_of-group.result in
    drop_held view c.args.self.now s i c.args.path.now c.args.parent can place
    (drop_place view c.args.self.now s i c.args.path.now c.args.parent can place c.place_of-group.ensures.place)

pub plan_remove-requires-clause-there : goal.plan_remove-requires-clause-there
plan_remove-requires-clause-there g c = λ told fs bs holds.
    let (s, i, can) = c.requires.held told in
    let view = g.V.Space.view in
    let place = c.place_of-group.result in
    subst (HasName fs) (sym (c.as_slice.ensures ∙ c.last_of.ensures))
    (drop_has view c.args.self.now s i c.args.path.now c.args.parent can place
    (drop_place view c.args.self.now s i c.args.path.now c.args.parent can place c.place_of-group.ensures.place) fs bs holds)

pub returns-in-Ok-clause-planned : goal.returns-in-Ok-clause-planned
returns-in-Ok-clause-planned g c = λ told s can i.
    let view = g.V.Space.view in
    let place = c.place_of-group.result in
    let same = drop_place view c.args.self.now s i c.args.path.now c.args.parent can place c.place_of-group.ensures.place in
    subst (λ (p : GroupPlace). Removes (view (space_in c.args.self.now)) p (last_of c.args.path.now) c.in-Ok.plan) same
    (subst (λ (n : Name). Removes (view (space_in c.args.self.now)) place n c.in-Ok.plan)
    (c.as_slice.ensures ∙ c.last_of.ensures) (c.in-Ok.ensures.removes told))
