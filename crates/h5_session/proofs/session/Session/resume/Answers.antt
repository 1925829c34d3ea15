use Rattle.std.proofs.Common.{None, ap, subst, sym, ◌∙◌}
use Rattle.outside.specs.Space.{SpaceView, bounds_of}
use Rattle.block_space.specs.Blocks.{space_of}
use Rattle.file_model.specs.RefusedTree.{IsFileRefused}
use Rattle.session_model.specs.Runs.{IsFresh}
use Rattle.h5_session.proofs.Resumed.{IsOpenedOver, begun_ok, none_refused, super_there}
use Rattle.h5_session.proofs.session.Session.resume.Goals as goal

pub returns-in-Ok-clause-begins : goal.returns-in-Ok-clause-begins
returns-in-Ok-clause-begins g c = λ told.
    let view = g.V.Space.view in
    let blocks = c.open_tree.new.blocks in
    let first = ap view c.new-blocks.ensures.space in
    let same = sym first ∙ g.met.V.Space.alike _ _ c.in-Ok.ensures.alike in
    let opened = c.in-Ok.ensures.opened told in
    let there : IsOpenedOver view blocks c.in-Ok.tree (view (space_of c.new-blocks.result)) = record {
      opened = opened.0;
      keeps = opened.1;
      fresh = subst (λ (v : SpaceView). IsFresh v.committed) (sym first) c.requires.fresh;
    } in
    begun_ok view blocks c.in-Ok.tree c.begin.result (view c.args.space) same
    (subst (IsOpenedOver view blocks c.in-Ok.tree) first there) c.begin.ensures.begun c.begin.ensures.kept

pub returns-in-Ok-clause-refused : goal.returns-in-Ok-clause-refused
returns-in-Ok-clause-refused g c = λ told.
    let opened = c.in-Ok.ensures.opened told in
    none_refused (IsFileRefused (g.V.Space.view c.args.space).array (bounds_of (g.V.Space.view c.args.space) None))
    c.begin.result (c.begin.ensures.told _ opened.1 (super_there opened.0))
