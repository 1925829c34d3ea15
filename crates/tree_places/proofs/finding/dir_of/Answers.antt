use Rattle.std.proofs.Common.{sym}
use Rattle.tree_places.proofs.Nodes.{dir_is}
use Rattle.tree_places.proofs.finding.dir_of.Goals as goal

pub returns : goal.returns
returns c = sym (dir_is c.args.path.now c.requires)
