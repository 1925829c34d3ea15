use Rattle.std.proofs.Common.{◌≡◌, Err, Ok, true, false, refl, ap, subst, sym, ◌∙◌}
use Rattle.tree_places.specs.Kept.{FindsPlace}
use Rattle.h5_session.proofs.Found.{can_make, closed_view, make_closed, make_found, make_large, make_refused, never_true, open_view}
use Rattle.h5_session.proofs.session.Session.parent_to_add.Goals as goal

pub returns-then-not-writable-clause-refused : goal.returns-then-not-writable-clause-refused
returns-then-not-writable-clause-refused g c = λ s i. make_closed g.V.Space.view c.args.self.now s i c.args.path.now
    (closed_view g.V.Space.view _ _ c.space.ensures _ c.writable.ensures c.if-not-writable.true)

pub returns-in-Ok-clause-can : goal.returns-in-Ok-clause-can
returns-in-Ok-clause-can g c = λ s i. can_make g.V.Space.view c.args.self.now s i c.args.path.now c.in-Ok.parent
    (make_found g.V.Space.view c.args.self.now s i c.args.path.now _ c.in-Ok.parent (c.group_to_add.ensures.places _ i.places) c.in-Ok.is)
    (c.if-admits.ensures.within refl)

pub returns-in-Ok-2-clause-refused : goal.returns-in-Ok-2-clause-refused
returns-in-Ok-2-clause-refused g c = λ s i. make_large g.V.Space.view c.args.self.now s i c.args.path.now c.in-Ok-2.field-0
    (open_view g.V.Space.view _ _ c.space.ensures _ c.writable.ensures c.if-not-writable.false)
    (make_found g.V.Space.view c.args.self.now s i c.args.path.now _ c.in-Ok-2.field-0 (c.group_to_add.ensures.places _ i.places) c.in-Ok-2.is)
    (c.if-admits.ensures.over never_true s i)

pub returns-in-Err-clause-refused : goal.returns-in-Err-clause-refused
returns-in-Err-clause-refused g c = λ s i. make_refused g.V.Space.view c.args.self.now s i c.args.path.now
    (open_view g.V.Space.view _ _ c.space.ensures _ c.writable.ensures c.if-not-writable.false) c.in-Err.code
    (c.in-Err.ensures.places _ i.places)
