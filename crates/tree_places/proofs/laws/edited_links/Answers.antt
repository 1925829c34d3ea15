use Rattle.tree_places.proofs.Places.{inserted_links, removed_links}
use Rattle.tree_places.proofs.laws.edited_links.Goals as goal

pub returns-clause-inserted : goal.returns-clause-inserted
returns-clause-inserted c = inserted_links

pub returns-clause-removed : goal.returns-clause-removed
returns-clause-removed c = removed_links
