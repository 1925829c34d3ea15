use Rattle.group_layout.proofs.LeafLemmas.{leaves_in_order, leaves_kept}
use Rattle.group_layout.proofs.laws.leaves_in_order.Goals as goal

pub returns-clause-order : goal.returns-clause-order
returns-clause-order c = leaves_in_order

pub returns-clause-kept : goal.returns-clause-kept
returns-clause-kept c = leaves_kept
