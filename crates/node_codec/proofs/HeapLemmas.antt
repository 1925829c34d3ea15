-- A heap's header that is written is spelled.
use Rattle.std.proofs.Common.{refl, sym}
use Rattle.std.proofs.lemmas.Nat.{from_le_bytes-to_le_bytes_8}
use Rattle.h5_base.specs.Fields.{u64_at}
use Rattle.node_codec.specs.declared.heap.HeapHead.{HeapHead}
use Rattle.node_codec.specs.Heap.{SpellsHeap, HeapInRange, heap_bytes}

pub heap-spelled : (h : HeapHead) → HeapInRange h → SpellsHeap h (heap_bytes h)
unfolding u64_at heap_bytes
heap-spelled h r = record {
  block = record { len = refl; signature = refl; version = refl };
  value =
      sym
      (rw (
        from_le_bytes-to_le_bytes_8 h.len r.len,
        from_le_bytes-to_le_bytes_8 h.free r.free,
        from_le_bytes-to_le_bytes_8 h.segment_at r.segment_at,
      ) refl);
}
