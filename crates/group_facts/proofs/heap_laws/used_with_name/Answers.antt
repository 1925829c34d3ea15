use Rattle.group_facts.proofs.HeapTexts.{used_with_name}
use Rattle.group_facts.proofs.heap_laws.used_with_name.Goals as goal

pub returns : goal.returns
returns c = used_with_name
