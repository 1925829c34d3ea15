use Rattle.std.proofs.Common.{refl, arith}
use Rattle.h5_base.proofs.FieldLemmas.{puts_more}
use Rattle.node_codec.specs.Heap.{heap_bytes}
use Rattle.node_codec.proofs.PutLemmas.{puts-whole}
use Rattle.node_codec.proofs.HeapLemmas.{heap-spelled}
use Rattle.node_codec.proofs.heap.write_heap.Goals as goal

pub returns-clause-bytes : goal.returns-clause-bytes
unfolding heap_bytes
returns-clause-bytes c =
    puts-whole _ _ _
    (puts_more _ _ _ _ _ _ _ refl (puts_more _ _ _ _ _ _ _ refl (puts_more _ _ _ _ _ _ _ refl c.put_bytes.ensures c.put_u64.ensures) c.put_u64-2.ensures) c.put_u64-3.ensures)
    (omega arith)

pub returns-clause-spelled : goal.returns-clause-spelled
returns-clause-spelled c = rw (returns-clause-bytes c) (heap-spelled c.args.h.now c.in_range.ensures)
