use Rattle.std.proofs.Common.{sym, refl}
use Rattle.tree_nodes.proofs.SlotLemmas.{kept_rewritten, objects_written}
use Rattle.tree_nodes.proofs.slots.make_link_room.Goals as goal

pub returns-in-Some-clause-kept : goal.returns-in-Some-clause-kept
returns-in-Some-clause-kept c = kept_rewritten c.args.nodes.now c.args.key c.in-Some.entry.now _ (sym c.in-Some.ensures.value) refl c.reserve.ensures.items

pub returns-in-Some-clause-objects : goal.returns-in-Some-clause-objects
returns-in-Some-clause-objects c = objects_written c.args.nodes.now c.args.key c.in-Some.entry.now _ (sym c.in-Some.ensures.value) refl
