use Rattle.std.proofs.Common.{rules}
use Rattle.tree_nodes.proofs.ShownLemmas.{child_shown}
use Rattle.tree_nodes.proofs.tree.ObjectTree.child.Goals as goal

pub returns-clause-entry : goal.returns-clause-entry
returns-clause-entry c = search rules

pub returns-clause-tree : goal.returns-clause-tree
returns-clause-tree c = child_shown c.args.self.now c.args.id c.args.name.now c.find.result (returns-clause-entry c)
