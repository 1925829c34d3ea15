use Rattle.std.proofs.Common.{◌≡◌, List, [], ◌∷◌, ◌++◌, length, take, arith, ap, subst, sym, ◌∙◌}
use Rattle.std.proofs.lemmas.List.{take_more, take_all, length-take-le}
use Rattle.group_layout.specs.Placing.{AreLaid}
use Rattle.group_layout.specs.declared.row.Row.{Row}
use Rattle.group_layout.proofs.LaidLemmas.{IsRowLaid, row_laid}
use Rattle.group_layout.proofs.laying.lay_rows.Goals as goal

pub loop-level-preserved : goal.loop-level-preserved
loop-level-preserved c =
    let ks = c.args.ks in
    let rows = c.args.rows.now in
    let level = c.loop-level.level in
    let row : Row = c.index-rows-level.result in
    let old = c.loop-level.below in
    let new = c.in_ok-below.below in
    let told = c.in_ok-below.ensures in
    let is : IsRowLaid ks level row c.loop-level.laid c.lay_row.new.laid old.keys.items old.ats.items =
    record { adds = told.adds; spelled = told.spelled } in
    let here : level ≡ length (take level rows) = sym (length-take-le level rows (omega arith)) in
    let more = row_laid ks (take level rows) row level c.args.laid.now c.loop-level.laid c.lay_row.new.laid
    c.args.leaves.keys.items c.args.leaves.ats.items old.keys.items old.ats.items new.keys.items new.ats.items here
    c.loop-level.invariant is told.ats told.keys in
    subst (λ (l : List Row). AreLaid ks l c.args.laid.now c.lay_row.new.laid c.args.leaves.keys.items
    c.args.leaves.ats.items new.keys.items new.ats.items) (ap (λ (r : Row). take level rows ++ r ∷ []) c.index-rows-level.is
    ∙ sym (take_more rows level row c.loop-level-test.true)) more

pub returns : goal.returns
returns c =
    let rows = c.args.rows.now in
    let below = c.loop-level.below in
    subst (λ (l : List Row). AreLaid c.args.ks l c.args.laid.now c.loop-level.laid c.args.leaves.keys.items
    c.args.leaves.ats.items below.keys.items below.ats.items) (take_all c.loop-level.level rows c.loop-level-test.false)
    c.loop-level.invariant
