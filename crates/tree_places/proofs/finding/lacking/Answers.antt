use Rattle.std.proofs.Common.{◌≡◌, true, false, sym, ap, ◌∙◌}
use Rattle.tree_nodes.specs.Nodes.{is_group}
use Rattle.tree_places.proofs.Nodes.{kept_here, no_group, lacking_at, lacking_none, lacking_some, lacking_leaf}
use Rattle.tree_places.proofs.finding.lacking.Goals as goal

pub returns-in-Some-clause-found : goal.returns-in-Some-clause-found
returns-in-Some-clause-found c =
    let tree = c.args.tree.now in
    let id = c.args.id in
    let (e, at) = kept_here tree id c.requires.has in
    let isg : is_group e.node ≡ true = ap is_group (sym (c.node.ensures.entry e at) ∙ c.in-Group.is) in
    lacking_at tree id c.args.name.now e _ at
    (lacking_some e c.args.name.now id _ c.child.result isg (c.child.ensures.entry e at
    (c.requires.sound.nodes.entries id.key e at).ordered) c.in-Some.is)

pub returns-in-None-clause-found : goal.returns-in-None-clause-found
returns-in-None-clause-found c =
    let tree = c.args.tree.now in
    let id = c.args.id in
    let (e, at) = kept_here tree id c.requires.has in
    let isg : is_group e.node ≡ true = ap is_group (sym (c.node.ensures.entry e at) ∙ c.in-Group.is) in
    lacking_at tree id c.args.name.now e _ at
    (lacking_none e c.args.name.now id c.child.result isg (c.child.ensures.entry e at
    (c.requires.sound.nodes.entries id.key e at).ordered) c.in-None.is)

pub returns-in_default : goal.returns-in_default
returns-in_default c = record {
  found =
      let tree = c.args.tree.now in
      let id = c.args.id in
      let (e, at) = kept_here tree id c.requires.has in
      let isg : is_group e.node ≡ false = ap is_group (sym (c.node.ensures.entry e at))
      ∙ no_group c.node.result.now c.in_default.not-Group in
      lacking_at tree id c.args.name.now e _ at (lacking_leaf e c.args.name.now id isg);
  lacks = tt;
}
