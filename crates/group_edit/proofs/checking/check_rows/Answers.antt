use Rattle.std.proofs.Common.{ℕ, List, Ok, Err, map, take, get_or, sym, ap, subst, ◌∙◌, ◌≡◌, arith}
use Rattle.std.proofs.lemmas.List.{take_all}
use Rattle.std.specs.List.{flat_map}
use Rattle.outside.specs.Blocks.{Block}
use Rattle.file_model.specs.Groups.{node_block}
use Rattle.group_edit.specs.Checked.{Checks}
use Rattle.group_edit.proofs.CheckedBlocks.{Passed, handed, is_passed, passed_none, passed_ok, passed_on}
use Rattle.group_edit.proofs.CheckedBlocks.{row_among, row_next}
use Rattle.group_edit.proofs.checking.check_rows.Given.{Over}
use Rattle.group_edit.proofs.checking.check_rows.Goals.{After-as_slice}
use Rattle.group_edit.proofs.checking.check_rows.Goals as goal

-- the blocks of a row
blocks_are : (g : Over) (c : After-as_slice g)
    → map (λ at. record { start = at; len = c.group_node_size-len.result }) c.as_slice.result.now
    ≡ map (node_block c.args.group.now.ks) (get_or c.args.rows.now c.loop-row.row-index c.row-item.result)
blocks_are g c =
    let same : c.as_slice.result.now ≡ get_or c.args.rows.now c.loop-row.row-index c.row-item.result =
    c.as_slice.ensures ∙ c.row-item.is in
    λ j. map (λ at. record { start = at; len = c.group_node_size-len.ensures j }) (same j)

pub loop-row-init : goal.loop-row-init
loop-row-init g c = passed_none g.V.Space.view c.args.blocks.now

pub returns-in_err-check_row : goal.returns-in_err-check_row
returns-in_err-check_row g c =
    let f : List ℕ → List Block = λ row. map (node_block c.args.group.now.ks) row in
    let rows = c.args.rows.now in
    let i = c.loop-row.row-index in
    handed g.V.Space.view c.args.blocks.now c.loop-row.blocks c.check_row.new.blocks (flat_map f (take i rows))
    (f (get_or rows i c.row-item.result)) (flat_map f rows) c.from_residual.result c.in_err-check_row.field-0.0
    c.from_residual.ensures.1 c.loop-row.invariant
    (subst (λ (xs : List Block). Checks g.V.Space.view c.loop-row.blocks c.check_row.new.blocks xs
    (Err c.in_err-check_row.field-0.0)) (blocks_are g (goal.at.returns-in_err-check_row g c).After-as_slice)
    c.in_err-check_row.ensures) (row_among f rows i c.row-item.result c.loop-row-test.true)

pub loop-row-preserved : goal.loop-row-preserved
loop-row-preserved g c =
    let f : List ℕ → List Block = λ row. map (node_block c.args.group.now.ks) row in
    let rows = c.args.rows.now in
    let i = c.loop-row.row-index in
    subst (Passed g.V.Space.view c.args.blocks.now c.check_row.new.blocks)
    (sym (row_next f rows i c.row-item.result c.loop-row-test.true))
    (passed_on g.V.Space.view c.args.blocks.now c.loop-row.blocks c.check_row.new.blocks (flat_map f (take i rows))
    (f (get_or rows i c.row-item.result)) c.loop-row.invariant
    (passed_ok g.V.Space.view c.loop-row.blocks c.check_row.new.blocks (f (get_or rows i c.row-item.result))
    c.in_ok-check_row.field-0
    (subst (λ (xs : List Block). Checks g.V.Space.view c.loop-row.blocks c.check_row.new.blocks xs
    (Ok c.in_ok-check_row.field-0)) (blocks_are g (goal.at.loop-row-preserved g c).After-as_slice)
    c.in_ok-check_row.ensures)))

pub returns : goal.returns
returns g c =
    let f : List ℕ → List Block = λ row. map (node_block c.args.group.now.ks) row in
    let rows = c.args.rows.now in
    let all = ap (flat_map f) (take_all c.loop-row.row-index rows (omega (arith, c.loop-row-test.false))) in
    is_passed g.V.Space.view c.args.blocks.now c.loop-row.blocks (flat_map f rows) tt
    (subst (Passed g.V.Space.view c.args.blocks.now c.loop-row.blocks) all c.loop-row.invariant)
