use Rattle.std.proofs.Common.{◌≡◌, ℕ, suc, ◌≤◌, ◌<◌, ◌*◌, ◌+◌, ◌^◌, take, get_or, sym, ap, ◌∙◌, arith, rules, add-one, below_more}
use Rattle.std.proofs.lemmas.List.{get_or_default}
use Rattle.dtype.specs.Products.{product}
use Rattle.header_codec.proofs.SizeLaws.{product-more, product-take}
use Rattle.header_codec.proofs.layout_codec.is_chunk.Goals as goal

-- the sizes of a chunk, as far as the loop has come, are some and few enough
pub returns-in-None : goal.returns-in-None
returns-in-None c =
    let ns = c.args.sizes.now in
    let i = c.loop-size.size-index in
    let lt = c.loop-size-test.true in
    let none = c.in-None.ensures in
    let more = product-more ns i lt in (
      λ h. search rules,
      λ chunk.
          let all = product-take ns (suc i) chunk.some in
          let most = chunk.bytes in
          let few : c.loop-size.bytes * get_or ns i 0 < 2 ^ 32 = rw c.loop-size.invariant.bytes (omega arith) in
          absurd (none (chunk.some i 0 lt, few)),
    )

pub loop-size-preserved : goal.loop-size-preserved
loop-size-preserved c =
    let ns = c.args.sizes.now in
    let i = c.loop-size.size-index in
    let lt = c.loop-size-test.true in
    let some = c.in-Some.ensures in
    let more : product (take (i + 1) ns) ≡ product (take i ns) * get_or ns i 0 = rw add-one (product-more ns i lt) in
    record {
      bytes = some.1 ∙ ap (λ n. n * get_or ns i 0) c.loop-size.invariant.bytes ∙ sym more;
      few = rw some.1 some.0.1;
      some =
          λ k d h. below_more
          (λ k. (d : ℕ) → 1 ≤ get_or ns k d)
          i
          (λ k h d. c.loop-size.invariant.some k d h)
          (λ d. rw (get_or_default ns i d 0 lt) some.0.0)
          k
          h
          d;
    }
