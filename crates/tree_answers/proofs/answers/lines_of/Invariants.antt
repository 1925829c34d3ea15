use Rattle.std.proofs.Common.{◌≡◌, Some, map, take}
use Rattle.tree_nodes.specs.Nodes.{Kept}
use Rattle.tree_nodes.specs.Entries.{entry_of}
use Rattle.tree_answers.specs.Kept.{line_by}
use Rattle.tree_answers.proofs.answers.lines_of.Given as goal

abbrev pub invariant-loop-k : goal.invariant-loop-k
invariant-loop-k l = (e : Kept) → entry_of l.tree l.id.key ≡ Some e → l.lines.items ≡ take l.k (map (line_by l.tree) e.links)
