use Rattle.std.proofs.Common.{sym, ◌∙◌, ap, refl, Some, List}
use Rattle.tree_nodes.specs.declared.node.ChildLink.{ChildLink}
use Rattle.tree_nodes.proofs.SlotLemmas.{of_entry, of_none, kept_written, kept_beside, objects_written}
use Rattle.tree_nodes.proofs.slots.link.Goals as goal

pub returns-in-Some-clause-linked : goal.returns-in-Some-clause-linked
returns-in-Some-clause-linked c =
    let s = c.args.nodes.now in
    let d = c.in-Some.entry.now in
    let at = sym c.in-Some.ensures.value in
    of_entry s c.args.key d _ at (λ o none. kept_written s c.args.key d _ at ∙ ap (λ (ls : List ChildLink). Some (record { node = d.node; links = ls })) (c.add_link.ensures o none))

pub returns-in-Some-clause-others : goal.returns-in-Some-clause-others
returns-in-Some-clause-others c = kept_beside c.args.nodes.now c.args.key c.in-Some.entry.now _ (sym c.in-Some.ensures.value)

pub returns-in-Some-clause-objects : goal.returns-in-Some-clause-objects
returns-in-Some-clause-objects c = objects_written c.args.nodes.now c.args.key c.in-Some.entry.now _ (sym c.in-Some.ensures.value) refl

pub returns-in_default-clause-linked : goal.returns-in_default-clause-linked
returns-in_default-clause-linked c = of_none c.args.nodes.now c.args.key _ (sym c.in_default.ensures.value)
