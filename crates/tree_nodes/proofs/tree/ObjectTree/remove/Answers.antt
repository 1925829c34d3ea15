use Rattle.std.proofs.Common.{refl}
use Rattle.tree_nodes.specs.Slots.{objects_in}
use Rattle.tree_nodes.proofs.ShownLemmas.{removes, shows_removes, finds_none, counted_less}
use Rattle.tree_nodes.proofs.tree.ObjectTree.remove.Goals as goal

pub returns-in-Some-clause-entry : goal.returns-in-Some-clause-entry
returns-in-Some-clause-entry c =
    let old = c.args.self.now in
    let fewer = counted_less (objects_in old.nodes.slots) (objects_in c.unlink.new.nodes.slots) (objects_in c.remove_node.new.nodes.slots) old.objects c.from-gone.result c.remove_node.result old.counted c.unlink.ensures.objects c.remove_node.ensures.objects c.from-gone.ensures in
    removes old _ c.unlink.new.nodes c.args.id c.args.name.now c.in-Some.child c.remove_node.result c.requires refl refl fewer
    c.in-Some.ensures.found c.unlink.ensures.unlinked c.unlink.ensures.others c.remove_node.ensures.gone c.remove_node.ensures.others c.remove_node.ensures.was

pub returns-in-Some-clause-tree : goal.returns-in-Some-clause-tree
returns-in-Some-clause-tree c = shows_removes c.args.self.now _ c.args.id c.args.name.now c.requires (returns-in-Some-clause-entry c)

pub returns-in_default-clause-entry : goal.returns-in_default-clause-entry
returns-in_default-clause-entry c = λ e child is o leads. absurd (finds_none c.args.self.now c.args.id c.args.name.now c.unlink.result c.in_default.is c.unlink.ensures.found e child is o leads)

pub returns-in_default-clause-tree : goal.returns-in_default-clause-tree
returns-in_default-clause-tree c = shows_removes c.args.self.now _ c.args.id c.args.name.now c.requires (returns-in_default-clause-entry c)
