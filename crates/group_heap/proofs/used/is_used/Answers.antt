use Rattle.group_heap.proofs.TextLemmas.{used_by_last}
use Rattle.group_heap.proofs.used.is_used.Goals as goal

pub returns : goal.returns
returns c = used_by_last
