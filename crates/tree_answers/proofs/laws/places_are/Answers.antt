use Rattle.tree_answers.proofs.Full.{places_are, places_of}
use Rattle.tree_answers.proofs.laws.places_are.Goals as goal

pub returns-clause-are : goal.returns-clause-are
returns-clause-are c = places_are

pub returns-clause-of : goal.returns-clause-of
returns-clause-of c = places_of
