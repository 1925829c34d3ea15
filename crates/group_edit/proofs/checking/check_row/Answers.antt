use Rattle.std.proofs.Common.{ℕ, List, [], ◌∷◌, flat_map, take, get_or, sym, ap, subst, ◌∙◌, arith}
use Rattle.std.proofs.lemmas.List.{take_all}
use Rattle.outside.specs.Blocks.{Block}
use Rattle.group_edit.specs.Checked.{Checks}
use Rattle.group_edit.proofs.CheckedBlocks.{Passed, each_alone, handed, is_passed, passed_none, passed_ok, passed_on}
use Rattle.group_edit.proofs.CheckedBlocks.{row_among, row_next}
use Rattle.group_edit.proofs.checking.check_row.Goals as goal

pub loop-at-init : goal.loop-at-init
loop-at-init g c = passed_none g.V.Space.view c.args.blocks.now

pub returns-in_err-check_block : goal.returns-in_err-check_block
returns-in_err-check_block g c =
    let f : ℕ → List Block = λ at. record { start = at; len = c.args.len } ∷ [] in
    let ats = c.args.ats.now in
    let i = c.loop-at.at-index in
    subst (λ (xs : List Block). Checks g.V.Space.view c.args.blocks.now c.check_block.new.blocks xs
    c.from_residual.result) (each_alone (λ at. record { start = at; len = c.args.len }) ats)
    (handed g.V.Space.view c.args.blocks.now c.loop-at.blocks c.check_block.new.blocks (flat_map f (take i ats))
    (f (get_or ats i 0)) (flat_map f ats) c.from_residual.result c.in_err-check_block.field-0.0
    c.from_residual.ensures.1 c.loop-at.invariant c.in_err-check_block.ensures
    (row_among f ats i 0 c.loop-at-test.true))

pub loop-at-preserved : goal.loop-at-preserved
loop-at-preserved g c =
    let f : ℕ → List Block = λ at. record { start = at; len = c.args.len } ∷ [] in
    let ats = c.args.ats.now in
    let i = c.loop-at.at-index in
    subst (Passed g.V.Space.view c.args.blocks.now c.check_block.new.blocks)
    (sym (row_next f ats i 0 c.loop-at-test.true))
    (passed_on g.V.Space.view c.args.blocks.now c.loop-at.blocks c.check_block.new.blocks (flat_map f (take i ats))
    (f (get_or ats i 0)) c.loop-at.invariant
    (passed_ok g.V.Space.view c.loop-at.blocks c.check_block.new.blocks (f (get_or ats i 0))
    c.in_ok-check_block.field-0 c.in_ok-check_block.ensures))

pub returns : goal.returns
returns g c =
    let f : ℕ → List Block = λ at. record { start = at; len = c.args.len } ∷ [] in
    let ats = c.args.ats.now in
    let all = ap (flat_map f) (take_all c.loop-at.at-index ats (omega (arith, c.loop-at-test.false)))
    ∙ each_alone (λ at. record { start = at; len = c.args.len }) ats in
    is_passed g.V.Space.view c.args.blocks.now c.loop-at.blocks _ tt
    (subst (Passed g.V.Space.view c.args.blocks.now c.loop-at.blocks) all c.loop-at.invariant)
