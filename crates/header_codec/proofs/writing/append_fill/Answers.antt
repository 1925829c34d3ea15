use Rattle.std.proofs.lemmas.Result.{IfOk-weaker}
use Rattle.header_codec.proofs.PartLaws.{fill_spelled}
use Rattle.header_codec.proofs.writing.append_fill.Goals as goal

pub returns-clause-told : goal.returns-clause-told
returns-clause-told c =
    IfOk-weaker c.append_message.result _ _ (λ _ _. fill_spelled c.args.layout.now c.args.fill.now c.requires) c.append_message.ensures
