use Rattle.std.proofs.Common.{◌∙◌, sym, subst}
use Rattle.outside.specs.Space.{bounds_of}
use Rattle.h5_base.specs.Refusals.{refusal_of}
use Rattle.h5_base.specs.declared.kinds.BlockKind.TheVariants as kind
use Rattle.node_codec.specs.Heap.{SpellsHeap}
use Rattle.outside.specs.Blocks.{IsBlockRefused}
use Rattle.block_space.specs.Blocks.{Refuses, array_of, space_of}
use Rattle.block_space.proofs.Stopped.{if_some}
use Rattle.file_model.specs.RefusedGroups.{IsTableRefused, HeapBlock, heap_block}
use Rattle.group_reader.proofs.TableLemmas.{no_heap, large_heap}
use Rattle.group_reader.proofs.Told.{passed}
use Rattle.group_reader.proofs.heap.read_head.Goals as goal

pub returns-in_err-bytes-clause-refused : goal.returns-in_err-bytes-clause-refused
returns-in_err-bytes-clause-refused g c = λ told ks tree.
    let b = array_of g.V.Space.view c.args.blocks.now in
    passed c.from_residual.result c.in_err-bytes.field-0.0 (Refuses g.V.Space.view c.args.blocks.now
    (λ e met r. IsTableRefused b e ks met tree c.args.heap_at r)) c.from_residual.ensures.1
    (λ met own keeps.
    let e = bounds_of (g.V.Space.view (space_of c.args.blocks.now)) own in
    if_some (refusal_of c.in_err-bytes.field-0.0) (IsBlockRefused e met (heap_block c.args.heap_at) kind.Heap)
    (IsTableRefused b e ks met tree c.args.heap_at)
    (λ r x. HeapBlock x) (c.in_err-bytes.ensures.refused met own keeps))

pub returns-in_default-clause-refused : goal.returns-in_default-clause-refused
returns-in_default-clause-refused g c = λ told ks tree.
    no_heap g.V.Space.view c.args.blocks.now _ ks tree c.args.heap_at
    (sym (g.met.V.Space.alike _ _ c.in_ok-bytes.ensures.alike)) c.in_ok-bytes.ensures.found
    c.malformed.result c.deref.result.now (c.deref.ensures.value ∙ c.in_ok-bytes.ensures.bytes told)
    (λ h x. let one = c.read_heap.ensures.only h x in let none = c.in_default.not-Some in cc) c.malformed.ensures

pub returns-then-head-gt-MOST_SEGMENT-clause-refused : goal.returns-then-head-gt-MOST_SEGMENT-clause-refused
returns-then-head-gt-MOST_SEGMENT-clause-refused g c = λ told ks tree.
    let spelled = subst (SpellsHeap c.in-Some.head) (c.deref.ensures.value ∙ c.in_ok-bytes.ensures.bytes told)
    c.in-Some.ensures.found in
    large_heap g.V.Space.view c.args.blocks.now _ ks tree c.args.heap_at
    (sym (g.met.V.Space.alike _ _ c.in_ok-bytes.ensures.alike)) c.in_ok-bytes.ensures.found
    c.in-Some.head c.unsupported.result spelled c.if-head-gt-MOST_SEGMENT.true c.unsupported.ensures
