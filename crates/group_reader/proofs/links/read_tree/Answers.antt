use Rattle.std.proofs.Common.{suc, sym}
use Rattle.block_space.specs.Blocks.{Refuses, array_of}
use Rattle.file_model.specs.RefusedGroups.{root_level, IsIndexRefused}
use Rattle.group_reader.proofs.IndexLemmas.{head_index, level_is_root, index_found, index_refused}
use Rattle.group_reader.proofs.Told.{passed}
use Rattle.group_reader.proofs.links.read_tree.Goals as goal

pub returns-in_err-root-clause-refused : goal.returns-in_err-root-clause-refused
returns-in_err-root-clause-refused g c = λ told.
    let b = array_of g.V.Space.view c.args.blocks.now in
    let x = c.args.table.now in
    let stop = c.in_err-root.field-0.0 in
    passed c.from_residual.result stop (Refuses g.V.Space.view c.args.blocks.now
    (λ e met. IsIndexRefused b e x.ks x.segment.now x.heap_at (suc (root_level b x.ks c.args.tree_at)) met
    c.args.tree_at)) c.from_residual.ensures.1
    (head_index g.V.Space.view c.args.blocks.now x.ks x.segment.now x.heap_at (root_level b x.ks c.args.tree_at)
    c.args.tree_at stop (c.in_err-root.ensures.refused told))

pub returns-clause-adds : goal.returns-clause-adds
returns-clause-adds g c =
    let b = array_of g.V.Space.view c.args.blocks.now in
    let x = c.args.table.now in
    index_found g.V.Space.tells g.V.Space.view c.args.blocks.now c.read_node.new.blocks x.ks x.segment.now x.heap_at
    (root_level b x.ks c.args.tree_at) c.args.tree_at c.in_ok-root.root
    (sym (g.met.V.Space.alike _ _ c.in_ok-root.ensures.alike)) c.in_ok-root.ensures.taken
    c.read_children.new.blocks c.args.gathered.now c.read_children.new.gathered c.read_children.result
    c.in_ok-root.ensures.found (λ told. level_is_root b x.ks c.args.tree_at c.in_ok-root.root
    (c.in_ok-root.ensures.found told)) c.read_children.ensures.adds

pub returns-clause-refused : goal.returns-clause-refused
returns-clause-refused g c = λ told.
    let b = array_of g.V.Space.view c.args.blocks.now in
    let x = c.args.table.now in
    index_refused g.V.Space.tells g.V.Space.view c.args.blocks.now c.read_node.new.blocks x.ks x.segment.now x.heap_at
    (root_level b x.ks c.args.tree_at) c.args.tree_at c.in_ok-root.root
    (sym (g.met.V.Space.alike _ _ c.in_ok-root.ensures.alike)) c.in_ok-root.ensures.taken
    c.read_children.result (c.in_ok-root.ensures.found told)
    (level_is_root b x.ks c.args.tree_at c.in_ok-root.root (c.in_ok-root.ensures.found told))
    (c.read_children.ensures.refused told)
