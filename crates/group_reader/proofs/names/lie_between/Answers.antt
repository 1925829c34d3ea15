use Rattle.std.proofs.Common.{sym, ap, ◌∙◌}
use Rattle.object_model.specs.Tree.{Name, name_lt}
use Rattle.group_reader.proofs.NameLemmas.{between_answer}
use Rattle.group_reader.proofs.names.lie_between.Goals as goal

pub returns-then-text_before : goal.returns-then-text_before
returns-then-text_before c = λ low high at_low at_high o.
    between_answer low high c.args.links.now c.in-Some-Some.first.now c.in-Some-Some.last.now _
    (sym c.in-Some-Some.ensures.value) (sym c.in-Some-Some.ensures'.value)
    (ap (λ (n : Name). name_lt low n) (sym c.as_slice.ensures) ∙ sym (c.text_before.ensures low at_low) ∙
    c.if-text_before.true)
    (c.text_before-then-text_before.ensures high at_high ∙ ap (λ (n : Name). name_lt high n)
    c.as_slice-then-text_before.ensures) o
