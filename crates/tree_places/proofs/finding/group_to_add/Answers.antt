use Rattle.tree_places.proofs.Matched.{found_add}
use Rattle.tree_places.proofs.Nodes.{finds_ok, add_found, can_add}
use Rattle.tree_places.proofs.finding.group_to_add.Goals as goal

pub returns-clause-found : goal.returns-clause-found
returns-clause-found c = λ t shows.
    let (u, w, key) = finds_ok _ c.in_ok-parent.parent (c.in_ok-parent.ensures.found t shows) in
    add_found t u c.args.path.now c.dir_of.result.now c.last_of.result.now c.lacking.result c.dir_of.ensures
    c.last_of.ensures w (c.lacking.ensures.found t u c.dir_of.result.now shows w key)

pub returns-clause-places : goal.returns-clause-places
returns-clause-places c = found_add c.args.tree.now c.args.path.now c.lacking.result (returns-clause-found c)

pub returns-clause-can : goal.returns-clause-can
returns-clause-can c = can_add c.args.tree.now c.args.path.now c.dir_of.result.now c.last_of.result.now
    c.in_ok-parent.parent c.lacking.result c.dir_of.ensures c.last_of.ensures c.in_ok-parent.ensures.found
    c.lacking.ensures.lacks
