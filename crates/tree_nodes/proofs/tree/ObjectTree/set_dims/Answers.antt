use Rattle.std.proofs.Common.{refl, ap, Bool, cond}
use Rattle.tree_nodes.specs.Nodes.{with_dims}
use Rattle.tree_nodes.proofs.SlotLemmas.{dims_object, dims_group}
use Rattle.tree_nodes.proofs.ShownLemmas.{sets, shows_sets}
use Rattle.tree_nodes.proofs.tree.ObjectTree.set_dims.Goals as goal

pub returns-clause-entry : goal.returns-clause-entry
returns-clause-entry c = sets c.args.self.now _ c.args.id.key (with_dims c.args.dims) refl refl refl c.set_dims.ensures.changed c.set_dims.ensures.others

pub returns-clause-tree : goal.returns-clause-tree
returns-clause-tree c =
    shows_sets c.args.self.now _ c.args.id (with_dims c.args.dims) (dims_group c.args.dims) (λ n. ap (λ (b : Bool). cond b 1 0) (dims_object c.args.dims n)) c.requires (returns-clause-entry c)
