use Rattle.block_space.proofs.Stopped.{on_ok}
use Rattle.group_reader.proofs.heap.read_segment.Goals as goal

pub returns-clause-taken : goal.returns-clause-taken
returns-clause-taken g c = on_ok c.read_bytes.result _ (λ met keeps.
    c.read_bytes.ensures.kept _ (c.in_ok-adopt_placed.ensures.found met keeps))
