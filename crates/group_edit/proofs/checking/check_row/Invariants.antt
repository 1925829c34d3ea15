use Rattle.std.specs.Prelude.{[], ◌∷◌, take}
use Rattle.std.specs.List.{flat_map}
use Rattle.group_edit.proofs.CheckedBlocks.{Passed}
use Rattle.group_edit.proofs.checking.check_row.Given as goal

abbrev pub invariant-loop-at : goal.invariant-loop-at
invariant-loop-at g l = Passed g.V.Space.view l.fn.blocks l.blocks
    (flat_map (λ at. record { start = at; len = l.len } ∷ []) (take l.at-index l.ats))
