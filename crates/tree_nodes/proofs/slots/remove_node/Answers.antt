use Rattle.std.proofs.Common.{sym}
use Rattle.tree_nodes.proofs.SlotLemmas.{of_entry, of_none, kept_get, kept_same, objects_removed}
use Rattle.tree_nodes.proofs.slots.remove_node.Goals as goal

pub returns-in-Some-clause-gone : goal.returns-in-Some-clause-gone
returns-in-Some-clause-gone c = kept_get c.try_remove.new.self c.args.key _ c.try_remove.ensures.updates.changed

pub returns-in-Some-clause-others : goal.returns-in-Some-clause-others
returns-in-Some-clause-others c = λ k apart. kept_same c.args.nodes.now c.try_remove.new.self k k (c.try_remove.ensures.updates.others k apart)

pub returns-in-Some-clause-was : goal.returns-in-Some-clause-was
returns-in-Some-clause-was c = of_entry c.args.nodes.now c.args.key c.in-Some.entry _ (sym c.in-Some.ensures.value) c.is_object.ensures

pub returns-in-Some-clause-objects : goal.returns-in-Some-clause-objects
returns-in-Some-clause-objects c = objects_removed c.args.nodes.now c.try_remove.new.self c.args.key c.in-Some.entry c.is_object.result (sym c.in-Some.ensures.value) c.try_remove.ensures.updates c.is_object.ensures

pub returns-in-None-clause-gone : goal.returns-in-None-clause-gone
returns-in-None-clause-gone c = kept_get c.try_remove.new.self c.args.key _ c.try_remove.ensures.updates.changed

pub returns-in-None-clause-was : goal.returns-in-None-clause-was
returns-in-None-clause-was c = of_none c.args.nodes.now c.args.key _ (sym c.in-None.ensures.value)
