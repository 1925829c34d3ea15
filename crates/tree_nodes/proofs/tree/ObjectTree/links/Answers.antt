use Rattle.std.proofs.Common.{◌≡◌, rules, length}
use Rattle.tree_nodes.proofs.ShownLemmas.{of_shown}
use Rattle.tree_nodes.proofs.tree.ObjectTree.links.Goals as goal

pub returns-clause-entry : goal.returns-clause-entry
returns-clause-entry c = search rules

pub returns-clause-tree : goal.returns-clause-tree
returns-clause-tree c = of_shown c.args.self.now c.args.id.key (λ e. c.len.result ≡ length e.links) (returns-clause-entry c)
