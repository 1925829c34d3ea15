use Rattle.std.proofs.Common.{ℕ, ◌-◌, ◌≤◌, List, [], ◌∷◌, length, sym, ◌∙◌, ap, subst, arith}
use Rattle.std.specs.List.{sum_by}
use Rattle.std.proofs.lemmas.List.{length-append}
use Rattle.std.proofs.lemmas.List.Sums.{sum_by_push}
use Rattle.std.proofs.lemmas.List.Sorted.{sum_by-IsPermutation, length_permutation}
use Rattle.outside.specs.Array.{Array}
use Rattle.outside.specs.Space.{SpaceView}
use Rattle.block_space.specs.Blocks.{array_of}
use Rattle.group_rows.specs.Rows.{row_children, IsRow}
use Rattle.group_rows.specs.Gathering.{IsMalformed, AddsNodes}
use Rattle.group_rows.proofs.CallLemmas.{left_ok, stopped, stopped_by, leaves_on, reads_on, passed, handed}
use Rattle.group_rows.proofs.TreeLemmas.{few_more, few_all}
use Rattle.group_rows.proofs.TreeLemmas.{down_first, root_there, row_there, down_more, all_leaves, all_rows, all_added}
use Rattle.group_rows.proofs.tree.read_tree.Goals as goal

pub returns-in_err-root-clause-whole : goal.returns-in_err-root-clause-whole
returns-in_err-root-clause-whole g c = λ told there room.
    let one = root_there (array_of g.V.Space.view c.args.blocks.now) c.args.k c.args.tree_at c.args.gathered.now there
    room in
    passed c.from_residual.result c.in_err-root.field-0.0 (λ stop. ¬ IsMalformed stop) c.from_residual.ensures.1
    (c.in_err-root.ensures.whole told one.0 one.1)

pub loop-level-init : goal.loop-level-init
loop-level-init g c = record {
  reads = left_ok g.V.Space.view g.V.Kept.Alike g.V.Space.faults c.args.blocks.now _ c.in_ok-root.root
      c.in_ok-root.ensures.reads;
  down = λ told. down_first (array_of g.V.Space.view c.args.blocks.now) c.args.k c.args.tree_at c.in_ok-root.root
      c.new-rows.result.items c.args.gathered.now _ (c.in_ok-root.ensures.found told) c.new-rows.ensures.items
      (c.in_ok-root.ensures.adds told);
  left = omega (arith, c.in_ok-root.ensures.left, ap (λ (l : List (List ℕ)). sum_by length l) c.new-rows.ensures.items);
  few = λ some. omega (arith, ap (λ (l : List (List ℕ)). length l) c.new-rows.ensures.items);
}

pub returns-in_err-below-clause-whole : goal.returns-in_err-below-clause-whole
returns-in_err-below-clause-whole g c = λ told there room.
    let b = array_of g.V.Space.view c.args.blocks.now in
    let same = ap (λ (v : SpaceView). v.array) (sym (g.met.V.Space.alike _ _ c.loop-level.invariant.reads.alike)) in
    let one = row_there b c.args.k c.args.tree_at c.loop-level.level (c.loop-level.level - 1) c.loop-level.row
    c.loop-level.rows.items c.args.gathered.now c.loop-level.gathered (omega (arith, c.loop-level-test.true))
    (c.loop-level.invariant.down told) there room in
    let here = subst (λ (a : Array). IsRow a c.args.k (c.loop-level.level - 1) c.loop-level.row
    × (length (row_children a c.args.k c.loop-level.row) ≤ c.loop-level.gathered.left)) (sym same) one in
    let row = subst (λ (l : List ℕ). IsRow (array_of g.V.Space.view c.loop-level.blocks) c.args.k
    (c.loop-level.level - 1) l × (length (row_children (array_of g.V.Space.view c.loop-level.blocks) c.args.k l)
    ≤ c.loop-level.gathered.left)) (sym c.as_slice.ensures) here in
    passed c.from_residual-in_err-below.result c.in_err-below.field-0.0 (λ stop. ¬ IsMalformed stop)
    c.from_residual-in_err-below.ensures.1 (c.in_err-below.ensures.whole told row.0 row.1)

pub returns-in_err-below-clause-reads : goal.returns-in_err-below-clause-reads
returns-in_err-below-clause-reads g c =
    reads_on g.V.Space.view g.V.Kept.Alike g.V.Space.faults g.V.Kept.transitive c.args.blocks.now c.loop-level.blocks _
    c.from_residual-in_err-below.result c.loop-level.invariant.reads
    (handed g.V.Space.view g.V.Kept.Alike g.V.Space.faults c.loop-level.blocks _ c.from_residual-in_err-below.result
    c.in_err-below.field-0.0 c.from_residual-in_err-below.ensures.1 c.in_err-below.ensures.reads)

pub returns-in_err-keep-clause-reads : goal.returns-in_err-keep-clause-reads
returns-in_err-keep-clause-reads g c =
    stopped_by g.V.Space.view g.V.Kept.Alike g.V.Space.faults c.args.blocks.now _ _ c.in_err-keep.field-0.0
    c.from_residual-in_err-keep.ensures.1 (λ failed. let none = c.in_err-keep.ensures.memory in cc)
    (leaves_on g.V.Space.view g.V.Kept.Alike g.V.Space.faults g.V.Kept.transitive c.args.blocks.now c.loop-level.blocks _
    c.loop-level.invariant.reads
    (left_ok g.V.Space.view g.V.Kept.Alike g.V.Space.faults c.loop-level.blocks _ c.in_ok-below.below
    c.in_ok-below.ensures.reads))

pub loop-level-preserved : goal.loop-level-preserved
loop-level-preserved g c =
    let b = array_of g.V.Space.view c.args.blocks.now in
    let same = ap (λ (v : SpaceView). v.array) (sym (g.met.V.Space.alike _ _ c.loop-level.invariant.reads.alike)) in
    record {
      reads = leaves_on g.V.Space.view g.V.Kept.Alike g.V.Space.faults g.V.Kept.transitive c.args.blocks.now
          c.loop-level.blocks _ c.loop-level.invariant.reads
          (left_ok g.V.Space.view g.V.Kept.Alike g.V.Space.faults c.loop-level.blocks _ c.in_ok-below.below
          c.in_ok-below.ensures.reads);
      down = λ told. down_more b c.args.k c.args.tree_at c.loop-level.level (c.loop-level.level - 1) c.loop-level.row
          c.loop-level.rows.items c.args.gathered.now c.loop-level.gathered (omega (arith, c.loop-level-test.true))
          (c.loop-level.invariant.down told) c.in_ok-below.below _ _
          (c.in_ok-below.ensures.found told ∙ (λ j. row_children (same j) c.args.k (c.as_slice.ensures j)))
          c.in_ok-keep.ensures.kept
          (subst (λ (l : List ℕ). AddsNodes b c.args.k l c.loop-level.gathered c.read_row.new.gathered)
          c.as_slice.ensures
          (subst (λ (a : Array). AddsNodes a c.args.k c.as_slice.result.now c.loop-level.gathered
          c.read_row.new.gathered) same (c.in_ok-below.ensures.adds told)));
      left = omega (
        arith,
        c.loop-level.invariant.left,
        c.in_ok-below.ensures.left,
        ap (λ (l : List (List ℕ)). sum_by length l) c.in_ok-keep.ensures.kept,
        sum_by_push (λ (l : List ℕ). length l) c.loop-level.rows.items c.loop-level.row,
      );
      few = λ some. few_more (length c.loop-level.rows.items) _ c.loop-level.level
          (omega (
            arith,
            ap (λ (l : List (List ℕ)). length l) c.in_ok-keep.ensures.kept,
            length-append c.loop-level.rows.items (c.loop-level.row ∷ []),
          )) c.loop-level-test.true (omega arith)
          c.loop-level.invariant.few;
    }

pub returns-clause-leaves : goal.returns-clause-leaves
returns-clause-leaves g c = λ told.
    all_leaves (array_of g.V.Space.view c.args.blocks.now) c.args.k c.args.tree_at c.loop-level.level c.loop-level.row
    c.loop-level.rows.items c.args.gathered.now c.loop-level.gathered c.loop-level-test.false
    (c.loop-level.invariant.down told)

pub returns-clause-rows : goal.returns-clause-rows
returns-clause-rows g c = λ told.
    all_rows (array_of g.V.Space.view c.args.blocks.now) c.args.k c.args.tree_at c.loop-level.level c.loop-level.row
    c.loop-level.rows.items c.args.gathered.now c.loop-level.gathered c.loop-level-test.false
    (c.loop-level.invariant.down told) c.reverse.new.self.items c.reverse.ensures.items

pub returns-clause-adds : goal.returns-clause-adds
returns-clause-adds g c = λ told.
    all_added (array_of g.V.Space.view c.args.blocks.now) c.args.k c.args.tree_at c.loop-level.level c.loop-level.row
    c.loop-level.rows.items c.args.gathered.now c.loop-level.gathered c.loop-level-test.false
    (c.loop-level.invariant.down told)

pub returns-clause-left : goal.returns-clause-left
returns-clause-left g c = omega (
  arith,
  c.loop-level.invariant.left,
  sum_by-IsPermutation (λ (l : List ℕ). length l) c.loop-level.rows.items c.reverse.new.self.items
      c.reverse.ensures.permutation,
)

pub returns-clause-few : goal.returns-clause-few
returns-clause-few g c =
    few_all (length c.loop-level.rows.items) (length c.reverse.new.self.items) c.loop-level.level
    (length_permutation c.loop-level.rows.items c.reverse.new.self.items c.reverse.ensures.permutation)
    c.loop-level.invariant.few

pub returns-clause-reads : goal.returns-clause-reads
returns-clause-reads g c =
    stopped g.V.Space.view g.V.Kept.Alike g.V.Space.faults c.args.blocks.now c.loop-level.blocks _ (λ failed. cc)
    c.loop-level.invariant.reads
