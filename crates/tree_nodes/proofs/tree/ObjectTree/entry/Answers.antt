use Rattle.std.proofs.Common.{sym}
use Rattle.tree_nodes.proofs.ShownLemmas.{no_entry, entry_got}
use Rattle.tree_nodes.proofs.tree.ObjectTree.entry.Goals as goal

pub unreachable-requires : goal.unreachable-requires
unreachable-requires c = no_entry c.args.self.now c.args.id c.requires (sym c.in-None.ensures)

pub returns : goal.returns
returns c = entry_got c.args.self.now c.args.id.key c.in-Some.entry.now (sym c.in-Some.ensures)
