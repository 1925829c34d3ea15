use Rattle.std.proofs.Common.{ℕ, List, [], ◌∷◌, subst}
use Rattle.group_layout.specs.Placing.{AreLaid}
use Rattle.group_layout.specs.declared.row.Row.{Row}
use Rattle.group_layout.specs.declared.row.Laid.{Laid}
use Rattle.group_layout.proofs.LaidLemmas.{AreLeavesLaid, IsRowLaid, IsLaidOut, laid_out}
use Rattle.group_layout.proofs.laying.lay.Goals as goal

all_clauses : (c : goal.After-drop-top-3)
    → IsLaidOut c.args.ks c.args.base c.args.index.now c.args.entries.now c.lay_root.new.laid
all_clauses c =
    let ks = c.args.ks in
    let index = c.args.index.now in
    let x : Laid = record { writes = c.new.result; fills = c.new-2.result } in
    let y : Laid = c.lay_leaves.new.laid in
    let z : Laid = c.lay_rows.new.laid in
    let w : Laid = c.lay_root.new.laid in
    let below = c.in_ok-leaves.leaves in
    let top = c.in_ok-top.top in
    let low = c.in_ok-leaves.ensures in
    let leaves : AreLeavesLaid ks c.args.base index.leaves c.args.entries.now x y below.keys.items below.ats.items =
    record { adds = low.adds; spelled = low.spelled; ats_are = low.ats; keys_are = low.keys } in
    let laid = subst (λ (l : List Row). AreLaid ks l y z below.keys.items below.ats.items top.keys.items top.ats.items)
    c.as_slice.ensures c.in_ok-top.ensures in
    let told = c.in_ok-lay_root.ensures in
    let root : Row = record { old = index.tree ∷ []; new = [] } in
    let alone : IsRowLaid ks c.len.result root z w top.keys.items top.ats.items =
    record { adds = told.adds; spelled = told.spelled } in
    let high = subst (λ (n : ℕ). IsRowLaid ks n root z w top.keys.items top.ats.items) c.len.ensures alone in
    laid_out ks c.args.base index c.args.entries.now x y z w below.keys.items below.ats.items top.keys.items top.ats.items
    c.new.ensures.items c.new-2.ensures.items leaves laid high

pub returns-clause-spelled : goal.returns-clause-spelled
returns-clause-spelled c = (all_clauses c).spelled

pub returns-clause-writes : goal.returns-clause-writes
returns-clause-writes c = (all_clauses c).writes

pub returns-clause-blocks : goal.returns-clause-blocks
returns-clause-blocks c = (all_clauses c).blocks

pub returns-clause-takes : goal.returns-clause-takes
returns-clause-takes c = (all_clauses c).takes
