use Rattle.std.proofs.Common.{◌≡◌, ◌∙◌, ◌+◌, ◌-◌, ◌++◌, ◌∷◌, [], sym, subst, length, refl, arith}
use Rattle.std.proofs.lemmas.Result.{IfOk-weaker}
use Rattle.outside.specs.Space.{SpaceView, bounds_of}
use Rattle.outside.proofs.Causes.{one_later}
use Rattle.block_space.specs.Blocks.{Refuses, Takes, array_of, space_of}
use Rattle.block_space.proofs.Stopped.{if_err}
use Rattle.file_model.specs.Chunks.{AreAscending}
use Rattle.storage_reader.specs.Ends.{Spans}
use Rattle.storage_reader.specs.Nodes.{AreUnder, IsIndexAt, IsIndexRefused, IsUnderRefused, child_at, refused_child, node_block}
use Rattle.storage_reader.proofs.Children.{child_refused}
use Rattle.storage_reader.proofs.NodeLaws.{NodesRead, no_node, other_level, children_stopped, node_spans, leaf_spans, inner_refused, no_node_read, node_more, place_stopped, nodes_done}
use Rattle.block_space.proofs.Taken.{taken}
use Rattle.storage_reader.proofs.Parts.{handed, refuses_then, takes_as, takes_none, takes_then}
use Rattle.storage_reader.proofs.nodes.+index.Goals as goal

pub adopt_children-returns-clause-found : goal.adopt_children-returns-clause-found
adopt_children-returns-clause-found g t c = λ tells.
    let n = c.args.node.now in
    let f = c.args.form.now in
    let b = array_of g.V.Space.view c.args.blocks.now in
    let ends = c.in_ok-ends_of.field-0 in
    let level : n.level ≡ 0 = omega arith in
    takes_as g.V.Space.view c.args.blocks.now c.adopt_chunks.new.blocks (λ bs. (cs : _) × AreUnder b f n cs bs × AreAscending cs) (Spans (AreUnder b f n) ends) c.in_ok-adopt_chunks.ensures.found
    (λ xs h. leaf_spans b f n ends xs level h (c.in_ok-ends_of.ensures b f))

-- ---- a node

pub adopt_node-returns-in_err-node-clause-refused : goal.adopt_node-returns-in_err-node-clause-refused
adopt_node-returns-in_err-node-clause-refused g t c = λ tells.
    handed c.from_residual.result c.in_err-node.field-0.0 _ c.from_residual.ensures.1
    (c.in_err-node.ensures.refused tells c.args.level)

pub adopt_node-returns-then-node-level-clause-refused : goal.adopt_node-returns-then-node-level-clause-refused
adopt_node-returns-then-node-level-clause-refused g t c = λ tells met own keeps.
    let n = c.in_ok-node.node in
    let f = c.args.form.now in
    let b = array_of g.V.Space.view c.args.blocks.now in
    let x = c.in_ok-node.ensures.kept met keeps in
    rw c.malformed.ensures
    (no_node b f c.args.level c.args.at _ met x.0 (taken g.V.Space.view c.args.blocks.now c.take_node.new.blocks met x.0 own (g.met.V.Space.alike _ _ c.take_node.ensures.alike) x.2) x.1
    (λ m spelled is. other_level b f c.args.level c.args.at n m (c.in_ok-node.ensures.found tells) c.if-node-level.true spelled is))

pub adopt_node-returns-clause-found : goal.adopt_node-returns-clause-found
adopt_node-returns-clause-found g t c = λ tells.
    let n = c.in_ok-node.node in
    let f = c.args.form.now in
    let b = array_of g.V.Space.view c.args.blocks.now in
    let e : g.V.Space.view (space_of c.args.blocks.now) ≡ g.V.Space.view (space_of c.take_node.new.blocks) = g.met.V.Space.alike _ _ c.take_node.ensures.alike in
    IfOk-weaker c.adopt_children.result _ _
    (λ ends h. takes_then g.V.Space.view c.args.blocks.now c.take_node.new.blocks c.adopt_children.new.blocks (λ bs. bs ≡ node_block f c.args.at ∷ []) (Spans (AreUnder b f n) ends) (Spans (IsIndexAt b f c.args.level c.args.at) ends)
    c.in_ok-node.ensures.kept (subst (λ (v : SpaceView). Takes g.V.Space.view c.take_node.new.blocks c.adopt_children.new.blocks (Spans (AreUnder v.array f n) ends)) (sym e) h)
    (λ xs ys is x. node_spans b f c.args.level c.args.at n ends xs ys (c.in_ok-node.ensures.found tells) c.if-node-level.false is x))
    (c.adopt_children.ensures.found tells)

pub adopt_node-returns-clause-refused : goal.adopt_node-returns-clause-refused
adopt_node-returns-clause-refused g t c = λ tells.
    let n = c.in_ok-node.node in
    let f = c.args.form.now in
    let b = array_of g.V.Space.view c.args.blocks.now in
    let e : g.V.Space.view (space_of c.args.blocks.now) ≡ g.V.Space.view (space_of c.take_node.new.blocks) = g.met.V.Space.alike _ _ c.take_node.ensures.alike in
    if_err c.adopt_children.result _ _
    (λ stop h. refuses_then g.V.Space.view c.args.blocks.now c.take_node.new.blocks (λ bs. bs ≡ node_block f c.args.at ∷ []) (IsUnderRefused b f c.args.at n) (IsIndexRefused b f c.args.level c.args.at) stop e c.in_ok-node.ensures.kept
    (subst (λ (v : SpaceView). Refuses g.V.Space.view c.take_node.new.blocks (IsUnderRefused v.array f c.args.at n) stop) (sym e) h)
    (λ met own xs r is kept x. children_stopped b f c.args.level c.args.at n _ met xs r
    (taken g.V.Space.view c.args.blocks.now c.take_node.new.blocks met xs own e kept) (c.in_ok-node.ensures.found tells) c.if-node-level.false is x))
    (c.adopt_children.ensures.refused tells)

pub adopt_node-returns-clause-failed : goal.adopt_node-returns-clause-failed
adopt_node-returns-clause-failed g t c = λ failed.
    one_later _ _ _ (g.met.V.Space.goes_counts _ _ (g.met.V.Space.goes_alike _ _ c.take_node.ensures.alike)) (c.adopt_children.ensures.failed failed)

-- ---- the nodes under a node

pub adopt_nodes-loop-i-init : goal.adopt_nodes-loop-i-init
adopt_nodes-loop-i-init g t c = record {
  read = λ tells. takes_none g.V.Space.view c.args.blocks.now _ (no_node_read _ _ _ _);
  alike = g.V.Kept.reflexive _;
  listed = c.requires.listed;
  calm = refl;
}

pub adopt_nodes-returns-in_err-here-clause-refused : goal.adopt_nodes-returns-in_err-here-clause-refused
adopt_nodes-returns-in_err-here-clause-refused g t c = λ tells.
    let n = c.args.node.now in
    let i = c.loop-i.i in
    let x = c.child_of-child.result in
    let f = c.args.form.now in
    let b = array_of g.V.Space.view c.args.blocks.now in
    let e : g.V.Space.view (space_of c.args.blocks.now) ≡ g.V.Space.view (space_of c.loop-i.blocks) = g.met.V.Space.alike _ _ c.loop-i.invariant.alike in
    let stop = c.in_err-here.field-0.0 in
    let refused : Refuses g.V.Space.view c.loop-i.blocks (IsIndexRefused b f (n.level - 1) x.at) stop =
    subst (λ (v : SpaceView). Refuses g.V.Space.view c.loop-i.blocks (IsIndexRefused v.array f (n.level - 1) x.at) stop) (sym e) (c.in_err-here.ensures.refused tells) in
    handed c.from_residual.result stop (Refuses g.V.Space.view c.args.blocks.now (IsUnderRefused b f c.args.at n)) c.from_residual.ensures.1
    (refuses_then g.V.Space.view c.args.blocks.now c.loop-i.blocks (NodesRead b f c.args.at n c.requires.level i c.loop-i.before) (IsIndexRefused b f (n.level - 1) x.at) (IsUnderRefused b f c.args.at n) stop e
    (c.loop-i.invariant.read tells) refused
    (λ met own xs r h kept why.
    let bounds = bounds_of (g.V.Space.view (space_of c.args.blocks.now)) own in
    child_refused (child_at b f n.level) (refused_child b f n.level c.args.at) c.args.at n i x.low.now x.high.now x.at c.child_of-child.ensures h.chunks xs h.part bounds met r (taken g.V.Space.view c.args.blocks.now c.loop-i.blocks met xs own e kept)
    (inner_refused b f n.level c.args.at x.low.now x.at bounds (met ++ xs) r c.requires.level why)))

pub adopt_nodes-returns-then-not-is_in_place-clause-refused : goal.adopt_nodes-returns-then-not-is_in_place-clause-refused
adopt_nodes-returns-then-not-is_in_place-clause-refused g t c = λ tells met own keeps.
    let n = c.args.node.now in
    let i = c.loop-i.i in
    let x = c.child_of-child.result in
    let f = c.args.form.now in
    let b = array_of g.V.Space.view c.args.blocks.now in
    let e : g.V.Space.view (space_of c.args.blocks.now) ≡ g.V.Space.view (space_of c.loop-i.blocks) = g.met.V.Space.alike _ _ c.loop-i.invariant.alike in
    let ends = c.in_ok-here.here in
    let found : Takes g.V.Space.view c.loop-i.blocks c.adopt_node.new.blocks (Spans (IsIndexAt b f (n.level - 1) x.at) ends) =
    subst (λ (v : SpaceView). Takes g.V.Space.view c.loop-i.blocks c.adopt_node.new.blocks (Spans (IsIndexAt v.array f (n.level - 1) x.at) ends)) (sym e) (c.in_ok-here.ensures.found tells) in
    let done = c.loop-i.invariant.read tells met keeps in
    let more = found (met ++ done.0) done.2 in
    rw c.malformed.ensures
    (place_stopped b f c.args.at n c.requires.level i c.loop-i.before ends x.low.now x.high.now x.at c.child_of-child.ensures done.0 more.0 done.1 more.1 _ met
    (taken g.V.Space.view c.args.blocks.now c.loop-i.blocks met done.0 own e done.2) (taken g.V.Space.view c.args.blocks.now c.adopt_node.new.blocks (met ++ done.0) more.0 own (g.met.V.Space.alike _ _ (g.V.Kept.transitive _ _ _ c.loop-i.invariant.alike c.adopt_node.ensures.alike)) more.2)
    (λ done cs before here. c.if-not-is_in_place.ensures.no refl done cs before here c.args.at))

pub adopt_nodes-loop-i-preserved : goal.adopt_nodes-loop-i-preserved
adopt_nodes-loop-i-preserved g t c =
    let n = c.args.node.now in
    let i = c.loop-i.i in
    let x = c.child_of-child.result in
    let f = c.args.form.now in
    let b = array_of g.V.Space.view c.args.blocks.now in
    let e : g.V.Space.view (space_of c.args.blocks.now) ≡ g.V.Space.view (space_of c.loop-i.blocks) = g.met.V.Space.alike _ _ c.loop-i.invariant.alike in
    let ends = c.in_ok-here.here in
    record {
      read = λ tells.
          let found : Takes g.V.Space.view c.loop-i.blocks c.adopt_node.new.blocks (Spans (IsIndexAt b f (n.level - 1) x.at) ends) =
          subst (λ (v : SpaceView). Takes g.V.Space.view c.loop-i.blocks c.adopt_node.new.blocks (Spans (IsIndexAt v.array f (n.level - 1) x.at) ends)) (sym e) (c.in_ok-here.ensures.found tells) in
          takes_then g.V.Space.view c.args.blocks.now c.loop-i.blocks c.adopt_node.new.blocks (NodesRead b f c.args.at n c.requires.level i c.loop-i.before) (Spans (IsIndexAt b f (n.level - 1) x.at) ends)
          (NodesRead b f c.args.at n c.requires.level (i + 1) c.join-before.result) (c.loop-i.invariant.read tells) found
          (λ xs ys h more. node_more b f c.args.at n c.requires.level i c.loop-i.before ends x.low.now x.high.now x.at c.child_of-child.ensures xs ys h more c.join-before.result
          (c.if-not-is_in_place.ensures.yes refl) c.join-before.ensures);
      alike = g.V.Kept.transitive _ _ _ c.loop-i.invariant.alike c.adopt_node.ensures.alike;
      listed = c.in_ok-here.ensures.listed;
      calm = c.in_ok-here.ensures.calm (λ failed. cc) ∙ c.loop-i.invariant.calm;
    }

pub adopt_nodes-returns-clause-found : goal.adopt_nodes-returns-clause-found
adopt_nodes-returns-clause-found g t c = λ tells.
    let n = c.args.node.now in
    let f = c.args.form.now in
    let b = array_of g.V.Space.view c.args.blocks.now in
    let end : c.loop-i.i ≡ length n.children = omega arith in
    takes_as g.V.Space.view c.args.blocks.now c.loop-i.blocks (NodesRead b f c.args.at n c.requires.level c.loop-i.i c.loop-i.before) (Spans (AreUnder b f n) c.loop-i.before) (c.loop-i.invariant.read tells)
    (λ xs h. nodes_done b f c.args.at n c.requires.level c.loop-i.i c.loop-i.before xs end h)
