use Rattle.std.proofs.Common.{◌≡◌, ◌+◌, map, refl, ap, ◌∙◌, arith}
use Rattle.h5_base.specs.Fields.{u64s_at}
use Rattle.node_codec.specs.TreeHead.{used_of}
use Rattle.node_codec.specs.ChunkNodes.{chunk_key_of, chunk_key_len, key_cells}
use Rattle.node_codec.proofs.ChunkLemmas.{used-inside, chunk-fits}
use Rattle.node_codec.proofs.chunk_node.read_chunk_node.Goals as goal

pub are_whole_elements-requires : goal.are_whole_elements-requires
are_whole_elements-requires c =
    omega (arith, used-inside c.args.k c.args.rank _ _ _ (c.if-not-is_tree_node.ensures.0 refl) c.chunk_node_size.ensures c.u16_of-used.ensures)

pub read_keys-requires : goal.read_keys-requires
read_keys-requires c =
    omega (arith, used-inside c.args.k c.args.rank _ _ _ (c.if-not-is_tree_node.ensures.0 refl) c.chunk_node_size.ensures c.u16_of-used.ensures)

pub read_u64s-requires-clause-inside : goal.read_u64s-requires-clause-inside
read_u64s-requires-clause-inside c =
    rw c.key_size-size.ensures
    (omega (arith, used-inside c.args.k c.args.rank _ _ _ (c.if-not-is_tree_node.ensures.0 refl) c.chunk_node_size.ensures c.u16_of-used.ensures))

pub returns-clause-found : goal.returns-clause-found
returns-clause-found c =
    let r = c.args.rank in
    let b = c.args.bytes.now in
    let used = c.u16_of-used.ensures in
    let keys : c.from_vec.result ≡ map (chunk_key_of r) (key_cells r (used_of b + 1) b) =
    c.from_vec.ensures ∙ c.in-Ok.ensures ∙ ap (λ n. map (chunk_key_of r) (key_cells r (n + 1) b)) used in
    let children : c.from_vec-2.result ≡ u64s_at b (24 + chunk_key_len r) (chunk_key_len r + 8) (used_of b) =
    c.from_vec-2.ensures ∙ rw (c.key_size-size.ensures, used) at c.in-Ok-read_u64s.ensures in
    record {
      block = rw c.chunk_node_size.ensures at (c.if-not-is_tree_node.ensures.0 refl);
      elements = rw used at (c.if-not-are_whole_elements.ensures.0 refl);
      value = rw (c.u64_of.ensures, c.u64_of-2.ensures, keys, children) refl;
    }

pub returns-clause-fits : goal.returns-clause-fits
returns-clause-fits c = chunk-fits c.args.k c.args.rank _ _ (returns-clause-found c)
