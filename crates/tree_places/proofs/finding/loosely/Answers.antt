use Rattle.std.proofs.Common.{refl}
use Rattle.std.proofs.lemmas.Result.{err_from_is_err_and}
use Rattle.tree_places.proofs.Nodes.{kept_here, loosely_err, loosely_some, loosely_none, loose_link}
use Rattle.tree_places.proofs.finding.loosely.Goals as goal

pub returns-in_err-child-clause-found : goal.returns-in_err-child-clause-found
returns-in_err-child-clause-found c = λ t u q shows w key.
    let (e, at) = kept_here c.args.tree.now c.args.id c.requires.has in
    let p = err_from_is_err_and c.from_residual.result c.from_residual.ensures.1 in
    rw (p.1, p.2) (loosely_err c.args.tree.now c.args.id c.args.name.now e c.in_err-child.field-0.0 at
    (c.in_err-child.ensures.entry e at) t u q shows w key)

pub returns-then-links-gt0-clause-found : goal.returns-then-links-gt0-clause-found
returns-then-links-gt0-clause-found c =
    let (e, at) = kept_here c.args.tree.now c.args.id c.requires.has in
    loosely_some c.args.tree.now c.args.id c.in_ok-child.child c.args.name.now e c.links.result at
    (c.in_ok-child.ensures.entry e at) c.in_ok-child.ensures.has c.links.ensures.entry c.if-links-gt0.true

pub returns-else-links-gt0-clause-found : goal.returns-else-links-gt0-clause-found
returns-else-links-gt0-clause-found c =
    let (e, at) = kept_here c.args.tree.now c.args.id c.requires.has in
    loosely_none c.args.tree.now c.args.id c.in_ok-child.child c.args.name.now e c.links.result at
    (c.in_ok-child.ensures.entry e at) c.in_ok-child.ensures.has c.links.ensures.entry c.if-links-gt0.false

pub returns-else-links-gt0-clause-loose : goal.returns-else-links-gt0-clause-loose
returns-else-links-gt0-clause-loose c =
    let (e, at) = kept_here c.args.tree.now c.args.id c.requires.has in (
      refl,
      loose_link c.args.tree.now c.args.id c.in_ok-child.child c.args.name.now e c.links.result at
          (c.in_ok-child.ensures.entry e at) c.in_ok-child.ensures.has c.links.ensures.entry c.if-links-gt0.false,
    )
