use Rattle.std.proofs.Common.{◌≡◌, ◌<◌, ◌^◌, ◌++◌, length, refl, sym, ap, subst, ◌∙◌, arith}
use Rattle.std.proofs.lemmas.Result.{IfOk-weaker}
use Rattle.dtype.specs.Shapes.{shape_bytes}
use Rattle.dtype.specs.Types.{type_bytes}
use Rattle.header_codec.specs.declared.types.NewHeader.TheVariants.{Dataset}
use Rattle.header_codec.specs.Written.{part, fill_bytes, alloc_time, value_bytes, layout_bytes, parts_of, messages_bytes, prefix_bytes, header_bytes, SpellsHeader, Tell}
use Rattle.header_codec.proofs.MessageLaws.{AreFit, four_laid, messages_short, header_spelled}
use Rattle.header_codec.proofs.writing.write_dataset.Goals as goal

pub returns-clause-bytes : goal.returns-clause-bytes
returns-clause-bytes c =
    let h = Dataset c.args.space.now c.args.elem.now c.args.fill.now c.args.layout.now in
    let laid : c.append_layout.new.out.items ≡ messages_bytes (parts_of h) =
    four_laid (part 1 (shape_bytes c.args.space.now)) (part 3 (type_bytes c.args.elem.now)) (part 5 (fill_bytes (alloc_time c.args.layout.now) (value_bytes c.args.fill.now))) (part 8 (layout_bytes c.args.layout.now)) _ _ _ _ _ c.new-messages.ensures.items c.in_ok-append_shape.ensures.appended c.in_ok-append_type.ensures.appended c.in_ok-append_fill.ensures.appended c.in_ok-append_layout.ensures.appended in
    IfOk-weaker c.with_prefix.result _ _
    (λ b e. e ∙ ap (λ m. prefix_bytes 4 (length m) ++ m) (c.as_slice.ensures.value ∙ laid))
    c.with_prefix.ensures

pub returns-clause-spelled : goal.returns-clause-spelled
returns-clause-spelled c =
    let h = Dataset c.args.space.now c.args.elem.now c.args.fill.now c.args.layout.now in
    let laid : c.append_layout.new.out.items ≡ messages_bytes (parts_of h) =
    four_laid (part 1 (shape_bytes c.args.space.now)) (part 3 (type_bytes c.args.elem.now)) (part 5 (fill_bytes (alloc_time c.args.layout.now) (value_bytes c.args.fill.now))) (part 8 (layout_bytes c.args.layout.now)) _ _ _ _ _ c.new-messages.ensures.items c.in_ok-append_shape.ensures.appended c.in_ok-append_type.ensures.appended c.in_ok-append_fill.ensures.appended c.in_ok-append_layout.ensures.appended in
    let fit : AreFit (parts_of h) = (c.in_ok-append_shape.ensures.fit, (c.in_ok-append_type.ensures.fit, (c.in_ok-append_fill.ensures.fit, (c.in_ok-append_layout.ensures.fit, tt)))) in
    let most = messages_short (parts_of h) fit in
    let short : length (messages_bytes (parts_of h)) < 2 ^ 32 = omega arith in
    let told : Tell h (parts_of h) = (refl, c.in_ok-append_shape.ensures.told, refl, c.in_ok-append_type.ensures.told, refl, c.in_ok-append_fill.ensures.told, refl, c.in_ok-append_layout.ensures.told) in
    let spelled : SpellsHeader h (parts_of h) (header_bytes h) = header_spelled h (parts_of h) fit (omega arith) short told in
    IfOk-weaker c.with_prefix.result _ _
    (λ b e. subst (SpellsHeader h (parts_of h)) (sym (e ∙ ap (λ m. prefix_bytes 4 (length m) ++ m) (c.as_slice.ensures.value ∙ laid))) spelled)
    c.with_prefix.ensures
