use Rattle.std.proofs.Common.{◌≡◌, ◌∷◌, [], sym, subst}
use Rattle.outside.specs.Space.{SpaceView}
use Rattle.outside.proofs.Causes.{one_later}
use Rattle.block_space.specs.Blocks.{Refuses, Takes, array_of, space_of}
use Rattle.file_model.specs.RefusedChunks.{chunk_level}
use Rattle.storage_reader.specs.Ends.{Spans}
use Rattle.storage_reader.specs.Nodes.{AreUnder, IsUnderRefused, IsWholeIndex, IsWholeRefused, node_block}
use Rattle.storage_reader.proofs.NodeLaws.{children_stopped, whole, root_level}
use Rattle.block_space.proofs.Taken.{taken}
use Rattle.storage_reader.proofs.Parts.{failed_on, handed, refuses_then, takes_then}
use Rattle.storage_reader.proofs.nodes.adopt_index.Goals as goal

pub returns-in_err-node-clause-refused : goal.returns-in_err-node-clause-refused
returns-in_err-node-clause-refused g c = λ tells.
    let b = array_of g.V.Space.view c.args.blocks.now in
    let f = c.args.form.now in
    handed c.from_residual.result c.in_err-node.field-0.0 _ c.from_residual.ensures.1
    (c.in_err-node.ensures.refused tells (chunk_level b f.k f.rank c.args.at))

pub returns-in_err-adopt_children-clause-refused : goal.returns-in_err-adopt_children-clause-refused
returns-in_err-adopt_children-clause-refused g c = λ tells.
    let n = c.in_ok-node.node in
    let f = c.args.form.now in
    let b = array_of g.V.Space.view c.args.blocks.now in
    let stop = c.in_err-adopt_children.field-0.0 in
    let e : g.V.Space.view (space_of c.args.blocks.now) ≡ g.V.Space.view (space_of c.take_node.new.blocks) = g.met.V.Space.alike _ _ c.take_node.ensures.alike in
    let spelled = c.in_ok-node.ensures.found tells in
    handed c.from_residual-in_err-adopt_children.result stop _ c.from_residual-in_err-adopt_children.ensures.1
    (refuses_then g.V.Space.view c.args.blocks.now c.take_node.new.blocks (λ bs. bs ≡ node_block f c.args.at ∷ []) (IsUnderRefused b f c.args.at n) (IsWholeRefused b f c.args.at) stop e c.in_ok-node.ensures.kept
    (subst (λ (v : SpaceView). Refuses g.V.Space.view c.take_node.new.blocks (IsUnderRefused v.array f c.args.at n) stop) (sym e) (c.in_err-adopt_children.ensures.refused tells))
    (λ met own xs r is kept x. children_stopped b f (chunk_level b f.k f.rank c.args.at) c.args.at n _ met xs r
    (taken g.V.Space.view c.args.blocks.now c.take_node.new.blocks met xs own e kept) spelled (root_level b f c.args.at n spelled) is x))

pub returns-in_err-adopt_children-clause-failed : goal.returns-in_err-adopt_children-clause-failed
returns-in_err-adopt_children-clause-failed g c =
    failed_on c.from_residual-in_err-adopt_children.result c.in_err-adopt_children.field-0.0 _ c.from_residual-in_err-adopt_children.ensures.1
    (λ failed. one_later _ _ _ (g.met.V.Space.goes_counts _ _ (g.met.V.Space.goes_alike _ _ c.take_node.ensures.alike)) (c.in_err-adopt_children.ensures.failed (cc)))

pub returns-clause-found : goal.returns-clause-found
returns-clause-found g c = λ tells.
    let n = c.in_ok-node.node in
    let f = c.args.form.now in
    let b = array_of g.V.Space.view c.args.blocks.now in
    let ends = c.in_ok-adopt_children.field-0 in
    let e : g.V.Space.view (space_of c.args.blocks.now) ≡ g.V.Space.view (space_of c.take_node.new.blocks) = g.met.V.Space.alike _ _ c.take_node.ensures.alike in
    takes_then g.V.Space.view c.args.blocks.now c.take_node.new.blocks c.adopt_children.new.blocks (λ bs. bs ≡ node_block f c.args.at ∷ []) (Spans (AreUnder b f n) ends) (IsWholeIndex b f c.args.at)
    c.in_ok-node.ensures.kept
    (subst (λ (v : SpaceView). Takes g.V.Space.view c.take_node.new.blocks c.adopt_children.new.blocks (Spans (AreUnder v.array f n) ends)) (sym e) (c.in_ok-adopt_children.ensures.found tells))
    (λ xs ys is x. whole b f c.args.at n ends xs ys (c.in_ok-node.ensures.found tells) is x)
