use Rattle.std.proofs.Common.{◌≡◌, List, ap, subst, sym, ◌∙◌}
use Rattle.object_model.specs.Tree.{Name, last_of}
use Rattle.group_edit.specs.Links.{HasName}
use Rattle.group_rows.specs.declared.group.GroupAt.{GroupAt as GroupPlace}
use Rattle.object_edit.specs.Making.{MakesGroup}
use Rattle.h5_session.specs.Session.{space_in}
use Rattle.h5_session.proofs.Found.{make_held, make_lacks, make_place}
use Rattle.h5_session.proofs.session.Session.plan_group.Goals as goal

pub plan_mkgroup-requires-clause-held : goal.plan_mkgroup-requires-clause-held
plan_mkgroup-requires-clause-held g c = λ told.
    let (s, i, can) = c.requires.held told in
    let view = g.V.Space.view in
    let place = c.place_of-group.result in
    make_held view c.args.self.now s i c.args.path.now c.args.parent can place
    (make_place view c.args.self.now s i c.args.path.now c.args.parent can place c.place_of-group.ensures.place)

pub plan_mkgroup-requires-clause-lacks : goal.plan_mkgroup-requires-clause-lacks
plan_mkgroup-requires-clause-lacks g c = λ told fs bs holds has.
    let (s, i, can) = c.requires.held told in
    let view = g.V.Space.view in
    let place = c.place_of-group.result in
    make_lacks view c.args.self.now s i c.args.path.now c.args.parent can place
    (make_place view c.args.self.now s i c.args.path.now c.args.parent can place c.place_of-group.ensures.place) fs bs holds
    (subst (HasName fs) (c.as_slice.ensures ∙ c.last_of.ensures) has)

pub returns-in-Ok-reserve_link-clause-planned : goal.returns-in-Ok-reserve_link-clause-planned
returns-in-Ok-reserve_link-clause-planned g c = λ told s can i.
    let view = g.V.Space.view in
    let place = c.place_of-group.result in
    let same = make_place view c.args.self.now s i c.args.path.now c.args.parent can place c.place_of-group.ensures.place in
    subst (λ (p : GroupPlace). MakesGroup (view (space_in c.args.self.now)) p (last_of c.args.path.now)
    c.in-Ok.made) same
    (subst (λ (n : Name). MakesGroup (view (space_in c.args.self.now)) place n c.in-Ok.made)
    (c.as_slice.ensures ∙ c.last_of.ensures) (c.in-Ok.ensures.makes told))
