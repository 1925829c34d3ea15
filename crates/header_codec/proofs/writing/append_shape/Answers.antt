use Rattle.std.proofs.Common.{[], ◌≡◌, ℕ, List, ◌++◌, ◌∙◌, ap, subst, arith}
use Rattle.std.proofs.lemmas.List.{append-nil}
use Rattle.std.proofs.lemmas.Result.{IfOk-weaker}
use Rattle.dtype.specs.declared.types.Shape.{Shape}
use Rattle.dtype.specs.Shapes.{shape_bytes, SpellsShape}
use Rattle.header_codec.specs.Written.{part, message_bytes}
use Rattle.header_codec.proofs.MessageLaws.{part_fits}
use Rattle.header_codec.proofs.PartLaws.{shape_short, shape_filled}
use Rattle.header_codec.proofs.writing.append_shape.Goals as goal

pub append_message-requires : goal.append_message-requires
append_message-requires c =
    let e : c.as_slice.result.now ≡ shape_bytes c.args.shape.now = c.as_slice.ensures ∙ c.in_ok-body.ensures.bytes in
    let short = (shape_short c.args.shape.now c.requires).short in
    rw e (omega arith)

pub returns-clause-appended : goal.returns-clause-appended
returns-clause-appended c =
    let e : c.as_slice.result.now ≡ shape_bytes c.args.shape.now = c.as_slice.ensures ∙ c.in_ok-body.ensures.bytes in
    IfOk-weaker c.append_message.result _ _ (λ _ h. h ∙ ap (λ (b : List ℕ). c.args.out.now.items ++ message_bytes (part 1 b)) e) c.append_message.ensures

pub returns-clause-fit : goal.returns-clause-fit
returns-clause-fit c =
    let short = (shape_short c.args.shape.now c.requires).short in
    IfOk-weaker c.append_message.result _ _ (λ _ _. part_fits 1 (shape_bytes c.args.shape.now) (omega arith) (omega arith)) c.append_message.ensures

abbrev Spelled : Shape → List ℕ → Type 0
Spelled s b = SpellsShape s b

pub returns-clause-told : goal.returns-clause-told
returns-clause-told c =
    let told = subst (Spelled c.args.shape.now) (append-nil c.in_ok-body.body ∙ c.in_ok-body.ensures.bytes) (c.in_ok-body.ensures.spelled c.requires []) in
    IfOk-weaker c.append_message.result _ _ (λ _ _. shape_filled c.args.shape.now c.requires told) c.append_message.ensures
