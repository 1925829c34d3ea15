use Rattle.std.proofs.Common.{sym, ◌∙◌, ap, Some}
use Rattle.tree_nodes.specs.declared.node.Node.{Node}
use Rattle.tree_nodes.specs.Nodes.{is_object}
use Rattle.tree_nodes.proofs.SlotLemmas.{of_entry, of_none, kept_written, kept_beside, objects_written, dims_object}
use Rattle.tree_nodes.proofs.slots.set_dims.Goals as goal

pub returns-in-Some-clause-changed : goal.returns-in-Some-clause-changed
returns-in-Some-clause-changed c =
    let s = c.args.nodes.now in
    let d = c.in-Some.entry.now in
    let at = sym c.in-Some.ensures.value in
    of_entry s c.args.key d _ at (kept_written s c.args.key d _ at ∙ ap (λ (n : Node). Some (record { node = n; links = d.links.items })) c.set_dims.ensures)

pub returns-in-Some-clause-others : goal.returns-in-Some-clause-others
returns-in-Some-clause-others c = kept_beside c.args.nodes.now c.args.key c.in-Some.entry.now _ (sym c.in-Some.ensures.value)

pub returns-in-Some-clause-objects : goal.returns-in-Some-clause-objects
returns-in-Some-clause-objects c =
    objects_written c.args.nodes.now c.args.key c.in-Some.entry.now _ (sym c.in-Some.ensures.value) (ap is_object c.set_dims.ensures ∙ dims_object c.args.dims c.in-Some.entry.now.node)

pub returns-in_default-clause-changed : goal.returns-in_default-clause-changed
returns-in_default-clause-changed c = of_none c.args.nodes.now c.args.key _ (sym c.in_default.ensures.value)
