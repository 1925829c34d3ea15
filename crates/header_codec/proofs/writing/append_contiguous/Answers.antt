use Rattle.std.proofs.Common.{◌<◌, ◌^◌, arith}
use Rattle.std.proofs.lemmas.Result.{IfOk-weaker}
use Rattle.header_codec.proofs.PartLaws.{contiguous_spelled}
use Rattle.header_codec.proofs.writing.append_contiguous.Goals as goal

pub returns-clause-told : goal.returns-clause-told
returns-clause-told c =
    let at : c.args.at < 2 ^ 64 = omega arith in
    let len : c.args.len < 2 ^ 64 = omega arith in
    IfOk-weaker c.append_message.result _ _ (λ _ _. contiguous_spelled c.args.at c.args.len at len) c.append_message.ensures
