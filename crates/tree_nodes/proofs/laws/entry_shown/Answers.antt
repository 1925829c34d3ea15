use Rattle.tree_nodes.specs.Entries.{entry_of}
use Rattle.tree_nodes.proofs.EditLemmas.{kept_walked}
use Rattle.tree_nodes.proofs.ChangeLemmas.{kept_first}
use Rattle.tree_nodes.proofs.laws.entry_shown.Goals as goal

pub returns : goal.returns
returns c = λ kept t u p shows w. kept_first (entry_of kept) u (kept_walked (entry_of kept) p t u w shows.nodes)
