use Rattle.std.proofs.Common.{take}
use Rattle.file_model.specs.Groups.{AreLinks}
use Rattle.group_reader.specs.Links.{links_of}
use Rattle.group_rows.proofs.link.read_entries.Given as goal

abbrev pub invariant-loop-entry : goal.invariant-loop-entry
invariant-loop-entry l = AreLinks l.heap.segment.items (take l.entry-index l.entries) (links_of l.links.items)
