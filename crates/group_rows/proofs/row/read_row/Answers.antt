use Rattle.std.proofs.Common.{ℕ, List, length, sym, ap, arith}
use Rattle.std.proofs.lemmas.List.{length-append}
use Rattle.outside.specs.Space.{SpaceView}
use Rattle.block_space.specs.Blocks.{array_of, space_of}
use Rattle.group_rows.specs.Gathering.{IsMalformed}
use Rattle.group_rows.proofs.CallLemmas.{left_none, left_ok, stopped, stopped_by, leaves_on, reads_on, passed, handed}
use Rattle.group_rows.proofs.GatherLemmas.{adds_none}
use Rattle.group_rows.proofs.RowLemmas.{node_adds, children_more, row_node, row_level}
use Rattle.group_rows.proofs.row.read_row.Goals as goal

pub returns-in_err-node-clause-whole : goal.returns-in_err-node-clause-whole
returns-in_err-node-clause-whole g c = λ told there room.
    let same = ap (λ (v : SpaceView). v.array) (sym (g.met.V.Space.alike _ _ c.loop-at.invariant.reads.alike)) in
    let one = row_node (array_of g.V.Space.view c.args.blocks.now) (array_of g.V.Space.view c.loop-at.blocks) c.args.k
    c.args.level c.args.ats.now c.loop-at.at-index c.args.gathered.now c.loop-at.gathered same c.loop-at-test.true
    (c.loop-at.invariant.adds told) there room in
    passed c.from_residual.result c.in_err-node.field-0.0 (λ stop. ¬ IsMalformed stop) c.from_residual.ensures.1
    (c.in_err-node.ensures.whole told one.0 one.1)

pub returns-in_err-node-clause-reads : goal.returns-in_err-node-clause-reads
returns-in_err-node-clause-reads g c =
    reads_on g.V.Space.view g.V.Kept.Alike g.V.Space.faults g.V.Kept.transitive c.args.blocks.now c.loop-at.blocks _
    c.from_residual.result c.loop-at.invariant.reads
    (handed g.V.Space.view g.V.Kept.Alike g.V.Space.faults c.loop-at.blocks _ c.from_residual.result
    c.in_err-node.field-0.0 c.from_residual.ensures.1 c.in_err-node.ensures.reads)

pub returns-then-node-level-clause-whole : goal.returns-then-node-level-clause-whole
returns-then-node-level-clause-whole g c = λ told there room malformed.
    let same = ap (λ (v : SpaceView). v.array) (sym (g.met.V.Space.alike _ _ c.loop-at.invariant.reads.alike)) in
    c.if-node-level.true (row_level (array_of g.V.Space.view c.args.blocks.now)
    (array_of g.V.Space.view c.loop-at.blocks) c.args.k c.args.level c.args.ats.now c.loop-at.at-index c.in_ok-node.node
    same c.loop-at-test.true (c.in_ok-node.ensures.found told) there)

pub returns-then-node-level-clause-reads : goal.returns-then-node-level-clause-reads
returns-then-node-level-clause-reads g c =
    stopped g.V.Space.view g.V.Kept.Alike g.V.Space.faults c.args.blocks.now _ _ (λ failed. cc)
    (leaves_on g.V.Space.view g.V.Kept.Alike g.V.Space.faults g.V.Kept.transitive c.args.blocks.now c.loop-at.blocks _
    c.loop-at.invariant.reads
    (left_ok g.V.Space.view g.V.Kept.Alike g.V.Space.faults c.loop-at.blocks _ c.in_ok-node.node
    c.in_ok-node.ensures.reads))

pub returns-in_err-extend-clause-reads : goal.returns-in_err-extend-clause-reads
returns-in_err-extend-clause-reads g c =
    stopped_by g.V.Space.view g.V.Kept.Alike g.V.Space.faults c.args.blocks.now _ _ c.in_err-extend.field-0.0
    c.from_residual-in_err-extend.ensures.1 (λ failed. let none = c.in_err-extend.ensures.memory in cc)
    (leaves_on g.V.Space.view g.V.Kept.Alike g.V.Space.faults g.V.Kept.transitive c.args.blocks.now c.loop-at.blocks _
    c.loop-at.invariant.reads
    (left_ok g.V.Space.view g.V.Kept.Alike g.V.Space.faults c.loop-at.blocks _ c.in_ok-node.node
    c.in_ok-node.ensures.reads))

pub loop-at-init : goal.loop-at-init
loop-at-init g c = record {
  reads = left_none g.V.Space.view g.V.Kept.Alike g.V.Space.faults c.args.blocks.now
      (g.V.Kept.reflexive (space_of c.args.blocks.now));
  found = λ told. c.new-children.ensures.items;
  adds = λ told. adds_none c.args.gathered.now;
  left = omega (arith, ap (λ (l : List ℕ). length l) c.new-children.ensures.items);
}

pub loop-at-preserved : goal.loop-at-preserved
loop-at-preserved g c =
    let same = ap (λ (v : SpaceView). v.array) (sym (g.met.V.Space.alike _ _ c.loop-at.invariant.reads.alike)) in
    record {
      reads = leaves_on g.V.Space.view g.V.Kept.Alike g.V.Space.faults g.V.Kept.transitive c.args.blocks.now
          c.loop-at.blocks _ c.loop-at.invariant.reads
          (left_ok g.V.Space.view g.V.Kept.Alike g.V.Space.faults c.loop-at.blocks _ c.in_ok-node.node
          c.in_ok-node.ensures.reads);
      found = λ told. children_more (array_of g.V.Space.view c.args.blocks.now)
          (array_of g.V.Space.view c.loop-at.blocks) c.args.k c.args.ats.now c.loop-at.at-index c.in_ok-node.node
          c.loop-at.children.items c.as_slice.result.now _ same c.loop-at-test.true (c.loop-at.invariant.found told)
          (c.in_ok-node.ensures.found told) c.as_slice.ensures c.in_ok-extend.ensures.kept;
      adds = λ told. node_adds (array_of g.V.Space.view c.args.blocks.now)
          (array_of g.V.Space.view c.loop-at.blocks) c.args.k c.args.ats.now c.loop-at.at-index c.args.gathered.now
          c.loop-at.gathered _ same c.loop-at-test.true (c.loop-at.invariant.adds told)
          (c.in_ok-node.ensures.adds told);
      left = omega (
        arith,
        c.loop-at.invariant.left,
        c.in_ok-node.ensures.left,
        ap (λ (l : List ℕ). length l) c.in_ok-extend.ensures.kept,
        length-append c.loop-at.children.items c.as_slice.result.now,
        ap (λ (l : List ℕ). length l) c.as_slice.ensures,
      );
    }
