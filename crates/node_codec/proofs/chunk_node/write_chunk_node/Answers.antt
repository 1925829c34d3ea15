use Rattle.std.proofs.Common.{◌≡◌, ℕ, length, map, replicate, refl, ap, ◌∙◌, arith}
use Rattle.h5_base.specs.Fields.{Puts}
use Rattle.h5_base.proofs.FieldLemmas.{puts_more}
use Rattle.node_codec.specs.Cells.{woven}
use Rattle.node_codec.specs.TreeHead.{tree_head}
use Rattle.node_codec.specs.ChunkNodes.{chunk_node_bytes, chunk_key_bytes, chunk_node_len}
use Rattle.node_codec.proofs.NodeLemmas.{number}
use Rattle.node_codec.proofs.PutLemmas.{puts-padded}
use Rattle.node_codec.proofs.ChunkLemmas.{chunk-spelled, node-room}
use Rattle.node_codec.proofs.chunk_node.write_chunk_node.Goals as goal

pub returns-clause-bytes : goal.returns-clause-bytes
unfolding chunk_node_bytes
returns-clause-bytes c =
    let n = c.args.n.now in
    let zeros : c.fill.new.self ≡ replicate {A = ℕ} (chunk_node_len c.args.k c.args.rank) 0 =
    c.fill.ensures.after (λ y e. e) ∙ ap (λ m. replicate {A = ℕ} m 0) c.requires.room in
    let head : Puts c.fill.new.self c.put_tree_head.new.out 0 (tree_head 1 n.level (length n.children) n.left n.right) =
    rw (← c.len.ensures) c.put_tree_head.ensures.put in
    let links : Puts c.put_tree_head.new.out c.put_chunks.new.out 24 (woven (map chunk_key_bytes n.keys) (map number n.children)) =
    rw (← c.as_slice.ensures, ← c.as_slice-2.ensures) c.put_chunks.ensures.put in
    let all = puts_more _ _ _ 0 24 _ _ refl head links in
    puts-padded (chunk_node_len c.args.k c.args.rank) c.put_chunks.new.out _ (rw zeros at all)

pub returns-clause-spelled : goal.returns-clause-spelled
returns-clause-spelled c =
    let r = c.requires in
    let keys = rw c.as_slice.ensures at c.put_chunks.ensures.keys in
    let children = rw c.as_slice-2.ensures at c.put_chunks.ensures.children in
    rw (returns-clause-bytes c)
    (chunk-spelled c.args.k c.args.rank c.args.n.now r.k r.counts c.put_tree_head.ensures.left c.put_tree_head.ensures.right keys children)

pub put_chunks-requires-clause-room : goal.put_chunks-requires-clause-room
put_chunks-requires-clause-room c =
    let r = c.requires in
    rw c.as_slice-2.ensures (omega (arith, r.room, node-room c.args.k c.args.rank (length c.args.n.now.children) r.counts.room))
