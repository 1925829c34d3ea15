use Rattle.group_facts.proofs.RootRow.{nothing_below, roots_children}
use Rattle.group_facts.proofs.laws.root_row.Goals as goal

pub returns-clause-children : goal.returns-clause-children
returns-clause-children c = roots_children

pub returns-clause-nothing : goal.returns-clause-nothing
returns-clause-nothing c = nothing_below
