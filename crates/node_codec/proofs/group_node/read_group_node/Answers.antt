use Rattle.std.proofs.Common.{rules}
use Rattle.node_codec.proofs.GroupLemmas.{group-fits}
use Rattle.node_codec.proofs.group_node.read_group_node.Goals as goal

pub returns-clause-found : goal.returns-clause-found
returns-clause-found c = search rules

pub returns-clause-fits : goal.returns-clause-fits
returns-clause-fits c = group-fits _ _ _ (returns-clause-found c)
