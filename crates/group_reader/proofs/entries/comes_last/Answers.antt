use Rattle.std.proofs.Common.{sym, ◌∙◌, ap}
use Rattle.object_model.specs.Tree.{Name, name_lt}
use Rattle.group_reader.proofs.NameLemmas.{name_ascends}
use Rattle.group_reader.proofs.entries.comes_last.Goals as goal

pub returns-in-Some : goal.returns-in-Some
returns-in-Some c =
    name_ascends c.args.links.now c.in-Some.last.now c.args.name.now _ (sym c.in-Some.ensures.value)
    (c.comes_before.ensures ∙ ap (λ (n : Name). name_lt n c.args.name.now) c.as_slice.ensures)
