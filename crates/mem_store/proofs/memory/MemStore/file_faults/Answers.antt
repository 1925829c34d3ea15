use Rattle.file_ids.specs.Ids.{told}
use Rattle.mem_store.proofs.memory.MemStore.file_faults.Goals as goal

pub returns : goal.returns
unfolding told
returns c = c.own_faults.ensures
