use Rattle.std.proofs.Common.{drop, ◌+◌}
use Rattle.space_example.proofs.Walked.{has_child, one_on, none_on, drop_here}
use Rattle.space_example.proofs.looking.id_at.Goals as goal

pub returns-in-None-clause-found : goal.returns-in-None-clause-found
returns-in-None-clause-found c = λ t shows.
    let i = c.loop-name.name-index in
    let path = c.args.path.now in
    none_on c.args.tree.now c.loop-name.id path (drop i path) (drop (i + 1) path) c.name-item.result t c.requires (drop_here path i c.name-item.result c.loop-name-test.true c.name-item.is) c.in-None.ensures.entry (c.loop-name.invariant.on t shows)

pub loop-name-preserved : goal.loop-name-preserved
loop-name-preserved c = record {
  has = has_child c.args.tree.now c.loop-name.id c.in-Some.child c.name-item.result c.requires c.loop-name.invariant.has c.in-Some.ensures.entry;
  on = λ t shows.
      let i = c.loop-name.name-index in
      let path = c.args.path.now in
      one_on c.args.tree.now c.loop-name.id c.in-Some.child path (drop i path) (drop (i + 1) path) c.name-item.result t c.requires (drop_here path i c.name-item.result c.loop-name-test.true c.name-item.is) c.in-Some.ensures.entry (c.loop-name.invariant.on t shows);
}
