use Rattle.std.specs.Prelude.{map, take}
use Rattle.std.specs.List.{flat_map}
use Rattle.file_model.specs.Groups.{node_block}
use Rattle.group_edit.proofs.CheckedBlocks.{Passed}
use Rattle.group_edit.proofs.checking.check_rows.Given as goal

abbrev pub invariant-loop-row : goal.invariant-loop-row
invariant-loop-row g l = Passed g.V.Space.view l.fn.blocks l.blocks
    (flat_map (λ row. map (node_block l.group.ks) row) (take l.row-index l.rows))
