use Rattle.std.proofs.Common.{◌≡◌, Err, Ok, true, false, refl, ap, subst, sym, ◌∙◌}
use Rattle.h5_session.proofs.Found.{can_drop, closed_view, drop_closed, drop_refused, open_view}
use Rattle.h5_session.proofs.session.Session.parent_to_drop.Goals as goal

pub returns-then-not-writable-clause-refused : goal.returns-then-not-writable-clause-refused
returns-then-not-writable-clause-refused g c = λ s i. drop_closed g.V.Space.view c.args.self.now s i c.args.path.now
    (closed_view g.V.Space.view _ _ c.space.ensures _ c.writable.ensures c.if-not-writable.true)

pub returns-in-Ok-clause-can : goal.returns-in-Ok-clause-can
returns-in-Ok-clause-can g c = λ s i. can_drop g.V.Space.view c.args.self.now s i c.args.path.now c.in-Ok.parent
    (c.in-Ok.ensures.places _ i.places)

pub returns-in-Err-clause-refused : goal.returns-in-Err-clause-refused
returns-in-Err-clause-refused g c = λ s i. drop_refused g.V.Space.view c.args.self.now s i c.args.path.now
    (open_view g.V.Space.view _ _ c.space.ensures _ c.writable.ensures c.if-not-writable.false) c.in-Err.code
    (c.in-Err.ensures.places _ i.places)
