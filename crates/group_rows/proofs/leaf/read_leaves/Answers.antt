use Rattle.std.proofs.Common.{sym, ap, subst}
use Rattle.std.proofs.lemmas.List.Elements.{All-append, All-nil}
use Rattle.outside.specs.Space.{SpaceView}
use Rattle.node_codec.specs.Snod.{IsCache}
use Rattle.block_space.specs.Blocks.{array_of, space_of}
use Rattle.std.proofs.Common.{All}
use Rattle.group_rows.specs.Gathering.{IsMalformed}
use Rattle.group_rows.proofs.CallLemmas.{left_none, left_ok, stopped_by, leaves_on, reads_on, passed, handed}
use Rattle.group_rows.proofs.GatherLemmas.{adds_none}
use Rattle.group_rows.proofs.RowLemmas.{leaf_adds, entries_more, leaf_node}
use Rattle.group_rows.proofs.leaf.read_leaves.Goals as goal

pub returns-in_err-more-clause-whole : goal.returns-in_err-more-clause-whole
returns-in_err-more-clause-whole g c = λ told there.
    let same = ap (λ (v : SpaceView). v.array) (sym (g.met.V.Space.alike _ _ c.loop-at.invariant.reads.alike)) in
    passed c.from_residual.result c.in_err-more.field-0.0 (λ stop. ¬ IsMalformed stop) c.from_residual.ensures.1
    (c.in_err-more.ensures.whole told (leaf_node (array_of g.V.Space.view c.args.blocks.now)
    (array_of g.V.Space.view c.loop-at.blocks) c.args.k c.args.ats.now c.loop-at.at-index same c.loop-at-test.true
    there))

pub returns-in_err-more-clause-reads : goal.returns-in_err-more-clause-reads
returns-in_err-more-clause-reads g c =
    reads_on g.V.Space.view g.V.Kept.Alike g.V.Space.faults g.V.Kept.transitive c.args.blocks.now c.loop-at.blocks _
    c.from_residual.result c.loop-at.invariant.reads
    (handed g.V.Space.view g.V.Kept.Alike g.V.Space.faults c.loop-at.blocks _ c.from_residual.result
    c.in_err-more.field-0.0 c.from_residual.ensures.1 c.in_err-more.ensures.reads)

pub returns-in_err-extend-clause-reads : goal.returns-in_err-extend-clause-reads
returns-in_err-extend-clause-reads g c =
    stopped_by g.V.Space.view g.V.Kept.Alike g.V.Space.faults c.args.blocks.now _ _ c.in_err-extend.field-0.0
    c.from_residual-in_err-extend.ensures.1 (λ failed. let none = c.in_err-extend.ensures.memory in cc)
    (leaves_on g.V.Space.view g.V.Kept.Alike g.V.Space.faults g.V.Kept.transitive c.args.blocks.now c.loop-at.blocks _
    c.loop-at.invariant.reads
    (left_ok g.V.Space.view g.V.Kept.Alike g.V.Space.faults c.loop-at.blocks _ c.in_ok-more.more
    c.in_ok-more.ensures.reads))

pub loop-at-init : goal.loop-at-init
loop-at-init g c = record {
  reads = left_none g.V.Space.view g.V.Kept.Alike g.V.Space.faults c.args.blocks.now
      (g.V.Kept.reflexive (space_of c.args.blocks.now));
  found = λ told. c.new-entries.ensures.items;
  caches = subst (All IsCache) (sym c.new-entries.ensures.items) (All-nil IsCache);
  adds = λ told. adds_none c.args.gathered.now;
}

pub loop-at-preserved : goal.loop-at-preserved
loop-at-preserved g c =
    let same = ap (λ (v : SpaceView). v.array) (sym (g.met.V.Space.alike _ _ c.loop-at.invariant.reads.alike)) in
    record {
      reads = leaves_on g.V.Space.view g.V.Kept.Alike g.V.Space.faults g.V.Kept.transitive c.args.blocks.now
          c.loop-at.blocks _ c.loop-at.invariant.reads
          (left_ok g.V.Space.view g.V.Kept.Alike g.V.Space.faults c.loop-at.blocks _ c.in_ok-more.more
          c.in_ok-more.ensures.reads);
      found = λ told. entries_more (array_of g.V.Space.view c.args.blocks.now)
          (array_of g.V.Space.view c.loop-at.blocks) c.args.k c.args.ats.now c.loop-at.at-index c.in_ok-more.more.items
          c.loop-at.entries.items c.deref.result.now _ same c.loop-at-test.true (c.loop-at.invariant.found told)
          (c.in_ok-more.ensures.found told) c.deref.ensures.value c.in_ok-extend.ensures.kept;
      caches = subst (All IsCache) (sym c.in_ok-extend.ensures.kept)
          (All-append IsCache c.loop-at.entries.items c.deref.result.now c.loop-at.invariant.caches
          (subst (All IsCache) (sym c.deref.ensures.value) c.in_ok-more.ensures.caches));
      adds = λ told. leaf_adds (array_of g.V.Space.view c.args.blocks.now)
          (array_of g.V.Space.view c.loop-at.blocks) c.args.k c.args.ats.now c.loop-at.at-index c.args.gathered.now
          c.loop-at.gathered _ same c.loop-at-test.true (c.loop-at.invariant.adds told)
          (c.in_ok-more.ensures.adds told);
    }
