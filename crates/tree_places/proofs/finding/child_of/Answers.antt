use Rattle.std.proofs.Common.{Result, IfOk, sym, subst}
use Rattle.object_model.specs.declared.answer.Code.{Code}
use Rattle.tree_nodes.specs.declared.node.NodeId.{NodeId}
use Rattle.tree_nodes.specs.Entries.{Has}
use Rattle.tree_places.proofs.Nodes.{kept_here, found_has}
use Rattle.tree_places.proofs.finding.child_of.Goals as goal

pub returns-in-Group-clause-has : goal.returns-in-Group-clause-has
returns-in-Group-clause-has c =
    let tree = c.args.tree.now in
    let (e, at) = kept_here tree c.args.id c.requires.has in
    let sound = c.requires.sound.nodes.entries c.args.id.key e at in
    subst (λ (r : Result NodeId Code). IfOk r (Has tree)) (sym c.ok_or.ensures.value)
    (found_has tree e.links c.args.name.now c.child.result sound.linked (c.child.ensures.entry e at sound.ordered))
