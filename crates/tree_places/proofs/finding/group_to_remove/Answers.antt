use Rattle.tree_places.proofs.Matched.{found_remove}
use Rattle.tree_places.proofs.Nodes.{finds_ok, remove_found, can_remove}
use Rattle.tree_places.proofs.finding.group_to_remove.Goals as goal

pub returns-clause-found : goal.returns-clause-found
returns-clause-found c = λ t shows.
    let (u, w, key) = finds_ok _ c.in_ok-parent.parent (c.in_ok-parent.ensures.found t shows) in
    remove_found t u c.args.path.now c.dir_of.result.now c.last_of.result.now c.loosely.result c.dir_of.ensures
    c.last_of.ensures w (c.loosely.ensures.found t u c.dir_of.result.now shows w key)

pub returns-clause-places : goal.returns-clause-places
returns-clause-places c = found_remove c.args.tree.now c.args.path.now c.loosely.result (returns-clause-found c)

pub returns-clause-can : goal.returns-clause-can
returns-clause-can c = can_remove c.args.tree.now c.args.path.now c.dir_of.result.now c.last_of.result.now
    c.in_ok-parent.parent c.loosely.result c.dir_of.ensures c.last_of.ensures c.in_ok-parent.ensures.found
    c.loosely.ensures.loose
