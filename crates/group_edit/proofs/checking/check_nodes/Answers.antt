use Rattle.std.proofs.Common.{Ok, Err, ℕ, List, [], ◌∷◌, ◌++◌, map, flat_map, subst}
use Rattle.file_model.specs.Groups.{leaf_block, node_block}
use Rattle.group_edit.specs.Checked.{Checks}
use Rattle.group_edit.proofs.CheckedBlocks.{checks_on, handed, first_among, middle_among, passed_none, passed_ok}
use Rattle.group_edit.proofs.CheckedBlocks.{passed_on}
use Rattle.group_edit.proofs.checking.check_nodes.Goals as goal

pub returns-in_err-check_leaves : goal.returns-in_err-check_leaves
returns-in_err-check_leaves g c =
    let group = c.args.group.now in
    let read = c.args.read.now in
    let leaves = map (leaf_block group.ks) read.leaves in
    let rows = flat_map (λ (row : List ℕ). map (node_block group.ks) row) read.rows.items in
    let root = node_block group.ks group.tree_at ∷ [] in
    handed g.V.Space.view c.args.blocks.now c.args.blocks.now c.check_leaves.new.blocks [] leaves
    (leaves ++ rows ++ root) c.from_residual.result c.in_err-check_leaves.field-0.0
    c.from_residual.ensures.1 (passed_none g.V.Space.view c.args.blocks.now) c.in_err-check_leaves.ensures
    (first_among leaves rows root)

pub returns-in_err-check_rows : goal.returns-in_err-check_rows
returns-in_err-check_rows g c =
    let group = c.args.group.now in
    let read = c.args.read.now in
    let leaves = map (leaf_block group.ks) read.leaves in
    let rows = flat_map (λ (row : List ℕ). map (node_block group.ks) row) read.rows.items in
    let root = node_block group.ks group.tree_at ∷ [] in
    handed g.V.Space.view c.args.blocks.now c.check_leaves.new.blocks c.check_rows.new.blocks leaves rows
    (leaves ++ rows ++ root) c.from_residual-in_err-check_rows.result c.in_err-check_rows.field-0.0
    c.from_residual-in_err-check_rows.ensures.1
    (passed_ok g.V.Space.view c.args.blocks.now c.check_leaves.new.blocks leaves c.in_ok-check_leaves.field-0
    c.in_ok-check_leaves.ensures)
    (subst (λ (xs : List (List ℕ)). Checks g.V.Space.view c.check_leaves.new.blocks c.check_rows.new.blocks
    (flat_map (λ (row : List ℕ). map (node_block group.ks) row) xs) (Err c.in_err-check_rows.field-0.0))
    c.deref.ensures.value c.in_err-check_rows.ensures) (middle_among leaves rows root)

pub returns : goal.returns
returns g c =
    let group = c.args.group.now in
    let read = c.args.read.now in
    let leaves = map (leaf_block group.ks) read.leaves in
    let rows = flat_map (λ (row : List ℕ). map (node_block group.ks) row) read.rows.items in
    let root = node_block group.ks group.tree_at ∷ [] in
    checks_on g.V.Space.view c.args.blocks.now c.check_rows.new.blocks c.check_root.new.blocks (leaves ++ rows) root
    c.check_root.result
    (passed_on g.V.Space.view c.args.blocks.now c.check_leaves.new.blocks c.check_rows.new.blocks leaves rows
    (passed_ok g.V.Space.view c.args.blocks.now c.check_leaves.new.blocks leaves c.in_ok-check_leaves.field-0
    c.in_ok-check_leaves.ensures)
    (passed_ok g.V.Space.view c.check_leaves.new.blocks c.check_rows.new.blocks rows c.in_ok-check_rows.field-0
    (subst (λ (xs : List (List ℕ)). Checks g.V.Space.view c.check_leaves.new.blocks c.check_rows.new.blocks
    (flat_map (λ (row : List ℕ). map (node_block group.ks) row) xs) (Ok c.in_ok-check_rows.field-0))
    c.deref.ensures.value c.in_ok-check_rows.ensures))) c.check_root.ensures
