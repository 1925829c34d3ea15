use Rattle.std.proofs.Common.{refl, ap, Bool, cond}
use Rattle.tree_nodes.specs.Nodes.{with_layout}
use Rattle.tree_nodes.proofs.SlotLemmas.{layout_object, layout_group}
use Rattle.tree_nodes.proofs.ShownLemmas.{sets, shows_sets}
use Rattle.tree_nodes.proofs.tree.ObjectTree.set_layout.Goals as goal

pub returns-clause-entry : goal.returns-clause-entry
returns-clause-entry c = sets c.args.self.now _ c.args.id.key (with_layout c.args.layout) refl refl refl c.set_layout.ensures.changed c.set_layout.ensures.others

pub returns-clause-tree : goal.returns-clause-tree
returns-clause-tree c =
    shows_sets c.args.self.now _ c.args.id (with_layout c.args.layout) (layout_group c.args.layout) (λ n. ap (λ (b : Bool). cond b 1 0) (layout_object c.args.layout n)) c.requires (returns-clause-entry c)
