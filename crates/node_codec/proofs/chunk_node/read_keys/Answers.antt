use Rattle.std.proofs.Common.{◌≡◌, ◌+◌, ◌-◌, ◌*◌, refl, arith}
use Rattle.std.proofs.lemmas.List.{map_push}
use Rattle.h5_base.specs.Fields.{bytes_at}
use Rattle.node_codec.specs.ChunkNodes.{chunk_key_of, chunk_key_len}
use Rattle.node_codec.proofs.ChunkLemmas.{key_cells-more}
use Rattle.node_codec.proofs.chunk_node.read_keys.Goals as goal

pub loop-i-preserved : goal.loop-i-preserved
loop-i-preserved c =
    let r = c.args.rank in
    let b = c.args.bytes.now in
    let i = c.loop-i.i in
    let w = chunk_key_len r in
    let at = 24 + (w + 8) * i in
    let e : at + w - at ≡ w = omega arith in
    let key : c.in_ok-read_key.field-0 ≡ chunk_key_of r (bytes_at b at w) = rw (c.key_size-size.ensures, e) at c.in_ok-read_key.ensures in
    rw (c.in-Ok.ensures.items, c.loop-i.invariant, key, key_cells-more r i b, map_push (chunk_key_of r)) refl
