use Rattle.std.proofs.Common.{rules, ℕ, List, ◌≡◌, ◌+◌, get_or, length, arith, sym, ◌∙◌, ap, subst}
use Rattle.std.proofs.lemmas.List.Edits.{length-insert}
use Rattle.block_space.specs.Blocks.{space_of}
use Rattle.node_codec.specs.declared.snod.SnodEntry.{SnodEntry}
use Rattle.group_heap.specs.Edits.{IsNamed}
use Rattle.group_heap.specs.Greatest.{IsUsedBy}
use Rattle.group_edit.specs.Grown.{IsGrown}
use Rattle.group_edit.specs.Inserting.{IsWithEntry}
use Rattle.group_edit.proofs.Behind.{tree_behind}
use Rattle.group_edit.proofs.PlacedSegment.{is_for}
use Rattle.group_edit.proofs.inserting.draft_link.Goals as goal

pub grow-requires-clause-bytes : goal.grow-requires-clause-bytes
grow-requires-clause-bytes g c =
    tree_behind c.next-segment_at.result c.used_len-used.result c.args.read.heap.head.len c.args.placed.link.name.now
    c.args.ahead.now c.with_segment-behind.result c.in_ok-edit.edit.segment
    (is_for c.args.read.heap c.used_len-used.result c.args.placed.link.name.now c.next-segment_at.result
    c.in_ok-edit.edit c.in_ok-edit.ensures.puts) c.with_segment-behind.ensures c.requires.ahead.bytes

pub returns-clause-draft : goal.returns-clause-draft
returns-clause-draft g c =
    let v = g.V.Space.view (space_of c.args.blocks.now) in
    let read = c.args.read in
    let name = c.args.placed.link.name.now in
    let used = c.used_len-used.result in
    let free = c.requires.free in
    let are = c.in_ok-entries.ensures in
    let count : length c.in_ok-entries.entries.items ≡ length read.entries.items + 1 =
    ap (λ (es : List SnodEntry). length es) are
    ∙ length-insert read.entries.items c.args.placed.place c.entry_to-entry.result free.within in
    record {
      used = used;
      is_used = subst (λ (s : List ℕ). IsUsedBy s read.last used) c.deref.ensures.value
          (record { none = c.used_len-used.ensures.none; some = c.used_len-used.ensures.some });
      whole = c.used_len-used.ensures.whole;
      low = c.used_len-used.ensures.low;
      high = omega (
        arith,
        c.used_len-used.ensures.high,
        ap (λ
            (l : List ℕ). length l) c.deref.ensures.value,
        read.heap.len,
      );
      named = subst (λ (at : ℕ). IsNamed read.heap used name at c.in_ok-edit.edit) c.next-segment_at.ensures
          c.in_ok-edit.ensures.puts;
      behind = c.with_segment-behind.result;
      is_behind = c.with_segment-behind.ensures;
      base_zero = λ z. c.base_with-base.ensures.zero (ap (λ (l : List ℕ). get_or l 0 0) c.deref-2.ensures.value ∙ z);
      base_other = λ some. c.base_with-base.ensures.other
          (λ z. some (ap (λ (l : List ℕ). get_or l 0 0) (sym c.deref-2.ensures.value) ∙ z));
      entries = subst (λ (e : SnodEntry). IsWithEntry read.heap.segment.items read.entries.items name e
          c.in_ok-entries.entries.items) c.entry_to-entry.ensures
          (record { place = c.args.placed.place; free = free; are = are });
      index = subst (λ (n : ℕ). IsGrown v c.args.group.now.ks c.with_segment-behind.result n read.leaves
          read.rows.items c.args.group.now.tree_at c.in_ok-index.index) (c.len.ensures ∙ (search rules)
          ∙ count) c.in_ok-index.ensures;
    }
