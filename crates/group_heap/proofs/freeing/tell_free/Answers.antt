use Rattle.group_heap.proofs.FreeLemmas.{freed}
use Rattle.group_heap.proofs.freeing.tell_free.Goals as goal

pub returns : goal.returns
returns c = record {
  frees = freed c.args.heap.now c.args.used c.free_head.result c.in_ok-header.header c.requires.small
      c.free_head.ensures
      c.in_ok-part.part c.in_ok-header.ensures c.in_ok-part.ensures;
}
