use Rattle.std.proofs.Common.{◌∙◌, ap, Some, List, arith}
use Rattle.tree_nodes.specs.declared.node.ChildLink.{ChildLink}
use Rattle.tree_nodes.proofs.SlotLemmas.{kept_get, objects_new, objects-le}
use Rattle.tree_nodes.proofs.slots.add_node.Goals as goal

pub returns-clause-made : goal.returns-clause-made
returns-clause-made c =
    kept_get c.insert_reserved-key.new.self c.insert_reserved-key.result _ c.insert_reserved-key.ensures.updates.changed
    ∙ ap (λ (ls : List ChildLink). Some (record { node = c.args.node; links = ls })) c.new.ensures.items

pub returns-clause-objects : goal.returns-clause-objects
returns-clause-objects c = objects_new c.args.nodes.now c.insert_reserved-key.new.self c.insert_reserved-key.result _ c.insert_reserved-key.ensures.was_vacant c.insert_reserved-key.ensures.updates

pub returns-clause-fits : goal.returns-clause-fits
returns-clause-fits c =
    let few = objects-le c.insert_reserved-key.new.self in
    let len = c.len-len.ensures in
    let fits = c.len-len.type_inv in
    omega (arith, few, len, fits)
