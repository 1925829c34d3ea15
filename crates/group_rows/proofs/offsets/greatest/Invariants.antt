use Rattle.std.proofs.Common.{take}
use Rattle.std.specs.List.{flat_map}
use Rattle.file_model.specs.Groups.{entry_offsets}
use Rattle.group_heap.specs.Greatest.{IsGreatest}
use Rattle.group_rows.proofs.offsets.greatest.Given as goal

abbrev pub invariant-loop-entry : goal.invariant-loop-entry
invariant-loop-entry l = IsGreatest (flat_map entry_offsets (take l.entry-index l.entries)) l.last
