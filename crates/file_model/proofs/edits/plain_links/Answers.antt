use Rattle.file_model.proofs.LinkEdits.{plain_find, plain_insert, plain_remove, plain_walk, plain_change}
use Rattle.file_model.proofs.edits.plain_links.Goals as goal

pub returns-clause-find : goal.returns-clause-find
returns-clause-find c = plain_find

pub returns-clause-insert : goal.returns-clause-insert
returns-clause-insert c = plain_insert

pub returns-clause-remove : goal.returns-clause-remove
returns-clause-remove c = plain_remove

pub returns-clause-walk : goal.returns-clause-walk
returns-clause-walk c = plain_walk

pub returns-clause-change : goal.returns-clause-change
returns-clause-change c = plain_change
