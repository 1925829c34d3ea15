use Rattle.std.proofs.Common.{refl}
use Rattle.tree_nodes.proofs.ShownLemmas.{same_tree, shows_same, has_room}
use Rattle.tree_nodes.proofs.tree.ObjectTree.reserve.Goals as goal

pub returns-in-Ok-clause-room : goal.returns-in-Ok-clause-room
returns-in-Ok-clause-room c = has_room _ c.args.id c.in-Ok.ensures.room

pub returns-in-Ok-clause-same : goal.returns-in-Ok-clause-same
returns-in-Ok-clause-same c = same_tree c.args.self.now _ refl refl refl c.make_room.ensures.kept

pub returns-in-Ok-clause-tree : goal.returns-in-Ok-clause-tree
returns-in-Ok-clause-tree c = shows_same c.args.self.now _ (returns-in-Ok-clause-same c)

pub returns-in-Err-clause-same : goal.returns-in-Err-clause-same
returns-in-Err-clause-same c = same_tree c.args.self.now _ refl refl refl c.make_room.ensures.kept

pub returns-in-Err-clause-tree : goal.returns-in-Err-clause-tree
returns-in-Err-clause-tree c = shows_same c.args.self.now _ (returns-in-Err-clause-same c)
