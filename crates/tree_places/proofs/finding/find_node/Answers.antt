use Rattle.std.proofs.Common.{Err, ◌∙◌}
use Rattle.std.proofs.lemmas.Result.{err_from_is_err_and}
use Rattle.tree_nodes.specs.Entries.{entry_of}
use Rattle.tree_places.proofs.Matched.{found_walk}
use Rattle.tree_places.proofs.Nodes.{kept_here, child_at, child_kept, finds_err, finds_ok, walk_on, end_found}
use Rattle.tree_places.proofs.Nodes.{stop_found}
use Rattle.tree_places.proofs.finding.find_node.Goals as goal

pub returns-in_err-id-clause-found : goal.returns-in_err-id-clause-found
returns-in_err-id-clause-found c = λ t shows.
    let tree = c.args.tree.now in
    let path = c.args.path.now in
    let code = c.in_err-id.field-0.0 in
    let (u, w, key, nodes) = c.loop-name.invariant.found t shows in
    let (e, at) = kept_here tree c.loop-name.id c.loop-name.invariant.has in
    let p = err_from_is_err_and c.from_residual.result c.from_residual.ensures.1 in
    let refused = finds_err _ code (child_at tree c.loop-name.id u c.name-item.result e (Err code) nodes key at
    (c.in_err-id.ensures.entry e at)) in
    rw (p.1, p.2) (stop_found t u path c.loop-name.name-index c.name-item.result code w c.loop-name-test.true
    c.name-item.is refused)

pub returns-in_err-id-clause-places : goal.returns-in_err-id-clause-places
returns-in_err-id-clause-places c = found_walk c.args.tree.now c.args.path.now c.from_residual.result
    (returns-in_err-id-clause-found c)

pub loop-name-preserved : goal.loop-name-preserved
loop-name-preserved c = record {
  has = c.in_ok-id.ensures.has;
  found = λ t shows.
      let tree = c.args.tree.now in
      let (u, w, key, nodes) = c.loop-name.invariant.found t shows in
      let (e, at) = kept_here tree c.loop-name.id c.loop-name.invariant.has in
      let (v, leads, there) = finds_ok _ _ (child_at tree c.loop-name.id u c.name-item.result e _ nodes key at
      (c.in_ok-id.ensures.entry e at)) in (
        v,
        w ∙ walk_on u v c.args.path.now c.loop-name.name-index c.name-item.result c.loop-name-test.true
            c.name-item.is leads,
        there,
        child_kept (entry_of tree) u v c.name-item.result nodes leads,
      );
}

pub returns-clause-found : goal.returns-clause-found
returns-clause-found c = λ t shows.
    let (u, w, key, nodes) = c.loop-name.invariant.found t shows in
    end_found t u c.args.path.now c.loop-name.name-index c.loop-name.id w c.loop-name-test.false key

pub returns-clause-places : goal.returns-clause-places
returns-clause-places c = found_walk c.args.tree.now c.args.path.now _ (returns-clause-found c)
