use Rattle.std.proofs.Common.{subst}
use Rattle.group_layout.specs.declared.row.Row.{Row}
use Rattle.group_layout.proofs.LaidLemmas.{IsRowLaid}
use Rattle.group_layout.proofs.laying.lay_root.Goals as goal

pub returns : goal.returns
returns c =
    let told = c.in_ok-lay_row.ensures in
    let below = c.args.below.now in
    let laid : IsRowLaid c.args.ks c.args.level c.in_ok-root.root c.args.laid.now c.lay_row.new.laid below.keys.items below.ats.items =
    record { adds = told.adds; spelled = told.spelled } in
    let root = subst (λ (r : Row). IsRowLaid c.args.ks c.args.level r c.args.laid.now c.lay_row.new.laid below.keys.items
    below.ats.items) c.in_ok-root.ensures laid in
    record { adds = root.adds; spelled = root.spelled }
