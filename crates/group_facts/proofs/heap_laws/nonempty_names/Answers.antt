use Rattle.group_facts.proofs.EmptyName.{nonempty_names}
use Rattle.group_facts.proofs.heap_laws.nonempty_names.Goals as goal

pub returns : goal.returns
returns c = nonempty_names
