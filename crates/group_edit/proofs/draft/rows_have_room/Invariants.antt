use Rattle.std.specs.Prelude.{◌↔◌, ◌<◌, ◌^◌, drop}
use Rattle.group_edit.proofs.DraftRoom.{RoomIn}
use Rattle.group_edit.proofs.draft.rows_have_room.Given as goal

abbrev pub invariant-loop-row : goal.invariant-loop-row
invariant-loop-row l = (l.below < 2 ^ 128)
    × (RoomIn l.room l.below (drop l.row-index l.rows) l.tree ↔ RoomIn l.room l.leaves l.rows l.tree)
