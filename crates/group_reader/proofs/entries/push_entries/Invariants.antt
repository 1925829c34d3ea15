use Rattle.std.proofs.Common.{take}
use Rattle.file_model.specs.Groups.{AreLinks}
use Rattle.group_reader.specs.Links.{Adds}
use Rattle.group_reader.proofs.entries.push_entries.Given as goal

abbrev pub invariant-loop-entry : goal.invariant-loop-entry
invariant-loop-entry l = Adds l.initial.gathered l.gathered (AreLinks l.table.segment.now (take l.entry-index l.entries))
