use Rattle.std.proofs.Common.{rules, ◌≡◌, ap, sym, ◌∙◌}
use Rattle.std.proofs.lemmas.Result.{IfOk-weaker}
use Rattle.dtype.specs.Types.{type_bytes}
use Rattle.dtype.proofs.TypeLaws.{type_spelled}
use Rattle.dtype.proofs.type_codec.write_type.Goals as goal

pub returns-in-Int-clause-spelled : goal.returns-in-Int-clause-spelled
returns-in-Int-clause-spelled c =
    IfOk-weaker c.from_slice.result _ _
    (λ b e h rest. let is : b ≡ type_bytes c.args.elem.now = e ∙ c.int_bytes.ensures ∙ ap type_bytes (sym c.in-Int.is) in rw is (type_spelled c.args.elem.now h rest))
    c.from_slice.ensures

pub returns-in-Text-clause-spelled : goal.returns-in-Text-clause-spelled
returns-in-Text-clause-spelled c =
    IfOk-weaker c.from_slice-in-Text.result _ _
    (λ b e h rest. let is : b ≡ type_bytes c.args.elem.now = search rules in rw is (type_spelled c.args.elem.now h rest))
    c.from_slice-in-Text.ensures
