use Rattle.file_model.proofs.OtherSegment.{other_segment, other_heap}
use Rattle.file_model.proofs.edits.other_segment.Goals as goal

pub returns-clause-segment : goal.returns-clause-segment
returns-clause-segment c = other_segment

pub returns-clause-heap : goal.returns-clause-heap
returns-clause-heap c = other_heap
