use Rattle.std.proofs.lemmas.Result.{IfOk-weaker}
use Rattle.header_codec.proofs.MessageLaws.{message_laid}
use Rattle.header_codec.proofs.writing.append_message.Goals as goal

pub returns : goal.returns
returns c =
    IfOk-weaker c.append-3.result _ _
    (λ _ e. message_laid _ _ c.args.body.now _ _ _ c.args.kind c.message_head.ensures c.in_ok-append.ensures c.in_ok-append-2.ensures e)
    c.append-3.ensures
