use Rattle.std.proofs.Common.{sym, ◌∙◌}
use Rattle.object_model.specs.Tree.{name_lt}
use Rattle.group_reader.proofs.NameLemmas.{lists_ascend}
use Rattle.group_reader.proofs.names.ascend.Goals as goal

pub returns-in-Some-Some : goal.returns-in-Some-Some
returns-in-Some-Some c = λ o p.
    lists_ascend c.args.before.now c.args.after.now c.in-Some-Some.last.now c.in-Some-Some.first.now _ (sym c.in-Some-Some.ensures.value) (sym c.in-Some-Some.ensures'.value)
    (c.comes_before.ensures ∙ (λ j. name_lt (c.as_slice.ensures j) (c.as_slice-in-Some-Some.ensures j))) o p
