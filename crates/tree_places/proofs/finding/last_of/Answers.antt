use Rattle.std.proofs.Common.{sym, ◌∙◌}
use Rattle.tree_places.proofs.Nodes.{last_is}
use Rattle.tree_places.proofs.finding.last_of.Goals as goal

pub returns : goal.returns
returns c = c.index-path-path.is ∙ sym (last_is c.args.path.now c.index-path-path.result c.requires)
