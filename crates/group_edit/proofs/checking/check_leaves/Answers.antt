use Rattle.std.proofs.Common.{List, map, subst}
use Rattle.outside.specs.Blocks.{Block}
use Rattle.group_edit.specs.Checked.{Checks}
use Rattle.group_edit.proofs.checking.check_leaves.Goals as goal

pub returns : goal.returns
returns g c =
    subst (λ (xs : List Block). Checks g.V.Space.view c.args.blocks.now c.check_row.new.blocks xs c.check_row.result)
    (λ j. map (λ at. record { start = at; len = c.snod_size-len.ensures j }) (c.as_slice.ensures j)) c.check_row.ensures
