use Rattle.group_layout.proofs.NodeLemmas.{nodes_suffice}
use Rattle.group_layout.proofs.laws.nodes_suffice.Goals as goal

pub returns : goal.returns
returns c = nodes_suffice
