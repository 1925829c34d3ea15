use Rattle.std.proofs.Common.{◌≡◌, ◌-◌, length, get_or, arith, sym, ap, ◌∙◌}
use Rattle.node_codec.specs.declared.chunk_node.ChunkKey.{ChunkKey}
use Rattle.storage_reader.proofs.Places.{leaf_ends, same_ends}
use Rattle.storage_reader.proofs.ends.ends_of.Goals as goal

pub returns : goal.returns
returns c = λ b f cs bs h.
    let keys = c.args.node.now.keys in
    let children = c.args.node.now.children in
    let k = c.index-keys-0.result in
    let l = c.index-keys-count.result in
    let low : k ≡ get_or keys 0 k = cc in
    let high : l ≡ get_or keys (length children - 1) l = cc in
    let first : k.offset ≡ c.in_ok-from_slice.field-0 = sym (c.in_ok-from_slice.ensures ∙ c.as_slice.ensures ∙ ap (λ (x : ChunkKey). x.offset) (sym c.index-keys-0.is)) in
    let last : l.offset ≡ c.in_ok-from_slice-2.field-0 = sym (c.in_ok-from_slice-2.ensures ∙ c.as_slice-2.ensures ∙ ap (λ (x : ChunkKey). x.offset) (sym c.index-keys-count.is)) in
    same_ends k.offset c.in_ok-from_slice.field-0 l.offset c.in_ok-from_slice-2.field-0 cs first last (leaf_ends b f keys children cs bs k l h (omega arith) low high)
