use Rattle.std.proofs.Common.{List, length, ℕ, ap, sym, ◌∙◌}
use Rattle.group_edit.proofs.GrownRows.{top_last}
use Rattle.group_edit.proofs.growing.top_len.Goals as goal

pub returns-in-Some : goal.returns-in-Some
returns-in-Some c = c.len.ensures
    ∙ sym (ap (λ (l : List ℕ). length l) (top_last c.args.leaves.now c.args.rows.now c.in-Some.row.now
    (sym c.in-Some.ensures.value)))
