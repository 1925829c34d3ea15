use Rattle.std.proofs.Common.{sym, ◌∙◌, ap, refl, Some, List}
use Rattle.tree_nodes.specs.declared.node.ChildLink.{ChildLink}
use Rattle.tree_nodes.proofs.SlotLemmas.{of_entry, of_none, kept_written, kept_beside, objects_written}
use Rattle.tree_nodes.proofs.slots.unlink.Goals as goal

pub returns-in-Some-clause-found : goal.returns-in-Some-clause-found
returns-in-Some-clause-found c = of_entry c.args.nodes.now c.args.key c.in-Some.entry.now _ (sym c.in-Some.ensures.value) c.take_link.ensures.found

pub returns-in-Some-clause-unlinked : goal.returns-in-Some-clause-unlinked
returns-in-Some-clause-unlinked c =
    let s = c.args.nodes.now in
    let d = c.in-Some.entry.now in
    let at = sym c.in-Some.ensures.value in
    of_entry s c.args.key d _ at (λ o. kept_written s c.args.key d _ at ∙ ap (λ (ls : List ChildLink). Some (record { node = d.node; links = ls })) (c.take_link.ensures.rest o))

pub returns-in-Some-clause-others : goal.returns-in-Some-clause-others
returns-in-Some-clause-others c = kept_beside c.args.nodes.now c.args.key c.in-Some.entry.now _ (sym c.in-Some.ensures.value)

pub returns-in-Some-clause-objects : goal.returns-in-Some-clause-objects
returns-in-Some-clause-objects c = objects_written c.args.nodes.now c.args.key c.in-Some.entry.now _ (sym c.in-Some.ensures.value) refl

pub returns-in-None-clause-found : goal.returns-in-None-clause-found
returns-in-None-clause-found c = of_none c.args.nodes.now c.args.key _ (sym c.in-None.ensures.value)

pub returns-in-None-clause-unlinked : goal.returns-in-None-clause-unlinked
returns-in-None-clause-unlinked c = of_none c.args.nodes.now c.args.key _ (sym c.in-None.ensures.value)
