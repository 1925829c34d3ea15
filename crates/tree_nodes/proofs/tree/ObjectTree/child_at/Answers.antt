use Rattle.std.proofs.Common.{◌≡◌, rules}
use Rattle.std.specs.Prelude.{slice_get, option_copied}
use Rattle.tree_nodes.proofs.ShownLemmas.{of_shown}
use Rattle.tree_nodes.proofs.tree.ObjectTree.child_at.Goals as goal

pub returns-clause-entry : goal.returns-clause-entry
returns-clause-entry c = search rules

pub returns-clause-tree : goal.returns-clause-tree
returns-clause-tree c = of_shown c.args.self.now c.args.id.key (λ e. option_copied c.link_at.result ≡ slice_get e.links c.args.k) (returns-clause-entry c)
