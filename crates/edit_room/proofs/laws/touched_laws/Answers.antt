use Rattle.edit_room.proofs.Limits.{limit_of_any, touched_in_reach}
use Rattle.edit_room.proofs.Raised.{pages_are_touched, stays_beside}
use Rattle.edit_room.proofs.Touched.{needs_are_taken}
use Rattle.edit_room.proofs.laws.touched_laws.Goals as goal

pub returns-clause-reach : goal.returns-clause-reach
returns-clause-reach c = touched_in_reach

pub returns-clause-needs : goal.returns-clause-needs
returns-clause-needs c = needs_are_taken

pub returns-clause-pages : goal.returns-clause-pages
returns-clause-pages c = pages_are_touched c.ends_behind_needs.ensures

pub returns-clause-stays : goal.returns-clause-stays
returns-clause-stays c = stays_beside c.ends_behind_needs.ensures c.planned_stays.ensures

pub returns-clause-limits : goal.returns-clause-limits
returns-clause-limits c = limit_of_any
