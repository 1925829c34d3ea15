use Rattle.std.proofs.Common.{◌≡◌, ℕ, suc, ◌≤◌, List, [], ◌∷◌, length, All, sym, ◌∙◌, ap, subst}
use Rattle.outside.specs.Array.{Array}
use Rattle.outside.specs.Space.{SpaceView}
use Rattle.block_space.specs.Blocks.{array_of}
use Rattle.group_rows.specs.Rows.{row_children, row_entries, row_down, rows_down, IsLeafThere}
use Rattle.group_rows.specs.Gathering.{IsMalformed, AddsNodes, AddsLeaves}
use Rattle.group_rows.proofs.CallLemmas.{passed}
use Rattle.group_rows.proofs.TreeLemmas.{level_at, all_nodes}
use Rattle.group_rows.proofs.HeldLemmas.{MayBeRead, may_be_read}
use Rattle.group_rows.proofs.GroupLemmas.{all_read, read_is}
use Rattle.group_rows.proofs.reading.read_group.Goals as goal

pub returns-in_err-heap-clause-whole : goal.returns-in_err-heap-clause-whole
returns-in_err-heap-clause-whole g c = λ told.
    let may = may_be_read g.V.Space.view c.args.blocks.now c.args.group.now
    (g.met.V.Space.sound _ c.requires.stands).regions (c.requires.held told) in
    passed c.from_residual.result c.in_err-heap.field-0.0 (λ stop. ¬ IsMalformed stop) c.from_residual.ensures.1
    (c.in_err-heap.ensures.whole told may.head may.spelled may.heap_fits may.small may.segment_fits)

pub returns-in_err-tree-clause-whole : goal.returns-in_err-tree-clause-whole
returns-in_err-tree-clause-whole g c = λ told.
    let group = c.args.group.now in
    let same = ap (λ (v : SpaceView). v.array) (g.met.V.Space.alike _ _ c.in_ok-heap.ensures.reads.alike) in
    let may = subst (λ (a : Array). MayBeRead a group) same
    (may_be_read g.V.Space.view c.args.blocks.now group (g.met.V.Space.sound _ c.requires.stands).regions
    (c.requires.held told)) in
    let b = array_of g.V.Space.view c.read_whole_heap.new.blocks in
    let few = subst (λ (n : ℕ). length (row_children b group.ks.internal (all_nodes b group.ks.internal group.tree_at))
    ≤ n) (sym (c.in_ok-heap.ensures.left ∙ c.new-gathered.ensures.left)) may.few in
    passed c.from_residual-in_err-tree.result c.in_err-tree.field-0.0 (λ stop. ¬ IsMalformed stop)
    c.from_residual-in_err-tree.ensures.1 (c.in_err-tree.ensures.whole told may.rows few)

pub read_leaves-requires : goal.read_leaves-requires
read_leaves-requires g c = record {
  stands = g.met.V.Space.alike_stands _ _ c.in_ok-tree.ensures.reads.alike
      (g.met.V.Space.alike_stands _ _ c.in_ok-heap.ensures.reads.alike c.requires.stands);
}

pub returns-in_err-entries-clause-whole : goal.returns-in_err-entries-clause-whole
returns-in_err-entries-clause-whole g c = λ told.
    let group = c.args.group.now in
    let k = group.ks.internal in
    let tree = group.tree_at in
    let b = array_of g.V.Space.view c.args.blocks.now in
    let same = ap (λ (v : SpaceView). v.array) (sym (g.met.V.Space.alike _ _ c.in_ok-heap.ensures.reads.alike)) in
    let still = ap (λ (v : SpaceView). v.array) (sym (g.met.V.Space.alike _ _ c.in_ok-tree.ensures.reads.alike))
    ∙ same in
    let may = may_be_read g.V.Space.view c.args.blocks.now group (g.met.V.Space.sound _ c.requires.stands).regions
    (c.requires.held told) in
    let leaves : c.as_slice-leaves.result.now ≡ row_down b k (suc (level_at b k tree)) (tree ∷ []) =
    c.as_slice-leaves.ensures ∙ c.in_ok-tree.ensures.leaves told
    ∙ ap (λ (a : Array). row_down a k (suc (level_at a k tree)) (tree ∷ [])) same in
    let here = subst (λ (l : List ℕ). All (IsLeafThere b group.ks.leaf) l) (sym leaves) may.leaves in
    let there = subst (λ (a : Array). All (IsLeafThere a group.ks.leaf) c.as_slice-leaves.result.now) (sym still) here in
    passed c.from_residual-in_err-entries.result c.in_err-entries.field-0.0 (λ stop. ¬ IsMalformed stop)
    c.from_residual-in_err-entries.ensures.1 (c.in_err-entries.ensures.whole told there)

pub returns-clause-found : goal.returns-clause-found
returns-clause-found g c = λ told fs bs h.
    let group = c.args.group.now in
    let k = group.ks.internal in
    let tree = group.tree_at in
    let b = array_of g.V.Space.view c.args.blocks.now in
    let same = ap (λ (v : SpaceView). v.array) (sym (g.met.V.Space.alike _ _ c.in_ok-heap.ensures.reads.alike)) in
    let still = ap (λ (v : SpaceView). v.array) (sym (g.met.V.Space.alike _ _ c.in_ok-tree.ensures.reads.alike))
    ∙ same in
    let nodes = subst (λ (a : Array). AddsNodes a k (all_nodes a k tree) c.read_whole_heap.new.gathered
    c.read_tree.new.gathered) same (c.in_ok-tree.ensures.adds told) in
    let there = subst (λ (a : Array). AddsLeaves a group.ks.leaf c.as_slice-leaves.result.now c.read_tree.new.gathered
    c.read_leaves.new.gathered) still (c.in_ok-entries.ensures.adds told) in
    let bottom = subst (λ (l : List ℕ). AddsLeaves b group.ks.leaf l c.read_tree.new.gathered
    c.read_leaves.new.gathered) c.as_slice-leaves.ensures there in
    let all = all_read b group c.in_ok-tree.tree.leaves c.new-gathered.result c.read_whole_heap.new.gathered
    c.read_tree.new.gathered c.read_leaves.new.gathered c.new-gathered.ensures.images c.new-gathered.ensures.last
    (c.in_ok-heap.ensures.adds told) nodes bottom in
    read_is b group (record {
      heap = c.in_ok-heap.heap;
      entries = c.in_ok-entries.entries;
      leaves = c.in_ok-tree.tree.leaves;
      rows = c.in_ok-tree.tree.rows;
      last = c.read_leaves.new.gathered.last;
      blocks = c.read_leaves.new.gathered.images;
    }) (record {
      heap_at = c.in_ok-heap.ensures.at;
      spelled = c.in_ok-heap.ensures.found told;
      segment = c.in_ok-heap.ensures.segment told;
      leaves = c.in_ok-tree.ensures.leaves told
          ∙ ap (λ (a : Array). row_down a k (suc (level_at a k tree)) (tree ∷ [])) same;
      rows = c.in_ok-tree.ensures.rows told
          ∙ ap (λ (a : Array). rows_down a k (level_at a k tree) (row_children a k (tree ∷ []))) same;
      entries = c.in_ok-entries.ensures.found told
          ∙ (λ j. row_entries (still j) group.ks.leaf (c.as_slice-leaves.ensures j));
      images = all.0;
      last = all.1;
    }) fs bs h
