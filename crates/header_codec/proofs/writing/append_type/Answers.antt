use Rattle.std.proofs.Common.{[], ◌∙◌, ℕ, List, length, subst}
use Rattle.std.proofs.lemmas.List.{append-nil}
use Rattle.std.specs.Prelude.{replicate}
use Rattle.std.proofs.lemmas.Result.{IfOk-weaker}
use Rattle.dtype.specs.declared.types.ElemType.{ElemType}
use Rattle.dtype.specs.Types.{type_bytes, SpellsType}
use Rattle.header_codec.specs.Written.{padding}
use Rattle.header_codec.proofs.PartLaws.{type_longer}
use Rattle.header_codec.proofs.writing.append_type.Goals as goal

abbrev Spelled : ElemType → List ℕ → Type 0
Spelled t b = SpellsType t b

pub returns-clause-told : goal.returns-clause-told
returns-clause-told c =
    let elem = c.args.elem.now in
    let told = subst (Spelled elem) (append-nil c.in_ok-body.body ∙ c.in_ok-body.ensures.bytes) (c.in_ok-body.ensures.spelled c.requires []) in
    IfOk-weaker c.append_message.result _ _
    (λ _ _. type_longer elem (type_bytes elem) (replicate (padding (length (type_bytes elem))) 0) told)
    c.append_message.ensures
