use Rattle.std.proofs.Common.{◌≡◌, refl, ◌≤◌, ◌<◌, ◌^◌, ℕ, List, ◌++◌, length, ◌∙◌, ap, arith}
use Rattle.std.proofs.lemmas.Result.{IfOk-weaker}
use Rattle.header_codec.specs.declared.types.Layout.TheVariants.{Chunked}
use Rattle.header_codec.specs.Written.{part, message_bytes, layout_bytes}
use Rattle.header_codec.proofs.MessageLaws.{part_fits}
use Rattle.header_codec.proofs.PartLaws.{chunk_sizes, chunked_spelled, length-u32s}
use Rattle.header_codec.proofs.writing.append_chunked.Goals as goal

chunked_short : (tree : ℕ) (sizes : List ℕ) → length sizes ≤ 33 → length (layout_bytes (Chunked tree sizes)) ≤ 143
chunked_short tree sizes h = omega (arith, length-u32s sizes)

pub append_sizes-requires : goal.append_sizes-requires
append_sizes-requires c = chunk_sizes c.args.sizes.now c.requires

pub append_message-requires : goal.append_message-requires
append_message-requires c =
    let e : c.as_slice.result.now ≡ layout_bytes (Chunked c.args.tree_at c.args.sizes.now) = rw (c.as_slice.ensures.value, c.in_ok-append_sizes.ensures, c.in-Ok.ensures.items, c.to_le_bytes.ensures) refl in
    let short = chunked_short c.args.tree_at c.args.sizes.now c.requires.most_rank in
    rw e (omega arith)

pub returns-clause-appended : goal.returns-clause-appended
returns-clause-appended c =
    let e : c.as_slice.result.now ≡ layout_bytes (Chunked c.args.tree_at c.args.sizes.now) = rw (c.as_slice.ensures.value, c.in_ok-append_sizes.ensures, c.in-Ok.ensures.items, c.to_le_bytes.ensures) refl in
    IfOk-weaker c.append_message.result _ _ (λ _ h. h ∙ ap (λ (b : List ℕ). c.args.out.now.items ++ message_bytes (part 8 b)) e) c.append_message.ensures

pub returns-clause-fit : goal.returns-clause-fit
returns-clause-fit c =
    let short = chunked_short c.args.tree_at c.args.sizes.now c.requires.most_rank in
    IfOk-weaker c.append_message.result _ _
    (λ _ _. part_fits 8 (layout_bytes (Chunked c.args.tree_at c.args.sizes.now)) (omega arith) (omega arith))
    c.append_message.ensures

pub returns-clause-told : goal.returns-clause-told
returns-clause-told c =
    let tree : c.args.tree_at < 2 ^ 64 = omega arith in
    IfOk-weaker c.append_message.result _ _
    (λ _ _. chunked_spelled c.args.tree_at c.args.sizes.now tree c.requires)
    c.append_message.ensures
