use Rattle.std.proofs.Common.{◌≡◌, ◌+◌, ◌-◌, ◌*◌, ◌<◌, [], length, sym, ◌∙◌, arith}
use Rattle.std.proofs.lemmas.List.Elements.{All-push}
use Rattle.h5_base.specs.Fields.{bytes_at, u64_at}
use Rattle.node_codec.specs.ChunkNodes.{IsWholeElement, key_cells, chunk_key_len}
use Rattle.node_codec.proofs.ChunkLemmas.{key_cells-more, key_cells-at, length-key_cells, element-at}
use Rattle.node_codec.proofs.chunk_node.are_whole_elements.Goals as goal

pub returns-then-u64_of-ne0 : goal.returns-then-u64_of-ne0
returns-then-u64_of-ne0 c =
    let r = c.args.rank in
    let b = c.args.bytes.now in
    let i = c.loop-i.i in
    let at = 24 + (chunk_key_len r + 8) * i in
    let read : c.u64_of.result ≡ u64_at b (at + chunk_key_len r - 8) = rw c.key_size-size.ensures at c.u64_of.ensures in
    let lt : i < length (key_cells r c.args.count b) = omega (arith, length-key_cells r c.args.count b) in
    ((λ h. cc), (λ all. absurd (c.if-u64_of-ne0.true (read ∙ sym (element-at r b at) ∙ rw (key_cells-at r c.args.count b i [] c.loop-i-test.true) at (all i [] lt)))))

pub loop-i-preserved : goal.loop-i-preserved
loop-i-preserved c =
    let r = c.args.rank in
    let b = c.args.bytes.now in
    let i = c.loop-i.i in
    let w = chunk_key_len r in
    let at = 24 + (w + 8) * i in
    let read : c.u64_of.result ≡ u64_at b (at + w - 8) = rw c.key_size-size.ensures at c.u64_of.ensures in
    let whole : IsWholeElement r (bytes_at b at w) = element-at r b at ∙ sym read ∙ c.if-u64_of-ne0.false in
    rw (key_cells-more r i b) (All-push (IsWholeElement r) (key_cells r i b) (bytes_at b at w) c.loop-i.invariant whole)
