use Rattle.std.proofs.Common.{◌≡◌, true, false, sym, ap, ◌∙◌}
use Rattle.std.proofs.lemmas.Result.{err_from_is_err_and}
use Rattle.tree_nodes.specs.Nodes.{is_group}
use Rattle.tree_places.proofs.Nodes.{kept_here, no_group}
use Rattle.tree_answers.proofs.Places.{has_links, no_links, found_there, found_nowhere}
use Rattle.tree_answers.proofs.Walks.{links_there, links_nowhere}
use Rattle.tree_answers.proofs.paths.find_group.Goals as goal

pub returns-in-Group-clause-found : goal.returns-in-Group-clause-found
returns-in-Group-clause-found c = λ t h.
    let tree = c.args.tree.now in
    let id = c.in_ok-id.id in
    let (u, leads, there) = found_there tree c.args.path.now id c.in_ok-id.ensures.found t h in
    let (e, at) = kept_here tree id c.in_ok-id.ensures.has in
    let isg : is_group e.node ≡ true = ap is_group (sym (c.node.ensures.entry e at) ∙ c.in-Group.is) in
    let (ls, links, group) = has_links tree id e at isg u there in
    (ls, links_there t u c.args.path.now leads ∙ links, group)

pub returns-in_default : goal.returns-in_default
returns-in_default c = record {
  has = tt;
  found = λ t h.
      let tree = c.args.tree.now in
      let id = c.in_ok-id.id in
      let (u, leads, there) = found_there tree c.args.path.now id c.in_ok-id.ensures.found t h in
      let (e, at) = kept_here tree id c.in_ok-id.ensures.has in
      let isg : is_group e.node ≡ false = ap is_group (sym (c.node.ensures.entry e at))
      ∙ no_group c.node.result.now c.in_default.not-Group in
      links_there t u c.args.path.now leads ∙ no_links tree id e at isg u there;
}

pub returns-in_err-id-clause-found : goal.returns-in_err-id-clause-found
returns-in_err-id-clause-found c = λ t h.
    let p = err_from_is_err_and c.from_residual.result c.from_residual.ensures.1 in
    let code = c.in_err-id.field-0.0 in
    rw (p.1, p.2) (links_nowhere t c.args.path.now code
    (found_nowhere c.args.tree.now c.args.path.now code c.in_err-id.ensures.found t h))
