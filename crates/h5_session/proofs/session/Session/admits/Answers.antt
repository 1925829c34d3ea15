use Rattle.std.proofs.Common.{◌≡◌, ◌<◌, inl, inr, true, sym, arith}
use Rattle.h5_session.proofs.Found.{not_admitted, not_below}
use Rattle.h5_session.proofs.session.Session.admits.Goals as goal

pub returns-then-path-le-MOST_DEPTH-clause-over : goal.returns-then-path-le-MOST_DEPTH-clause-over
returns-then-path-le-MOST_DEPTH-clause-over g c = λ other s i. not_admitted g.V.Space.view c.args.self.now s i
    c.args.path.now (inr (omega (arith, not_below _ other, c.objects.ensures.count)))
