use Rattle.std.proofs.Common.{◌≡◌, ◌+◌, ◌*◌, ◌<◌, length, take, map, get_or, sym, subst, arith}
use Rattle.std.specs.List.{All}
use Rattle.std.proofs.lemmas.List.{take_all}
use Rattle.std.proofs.lemmas.List.Elements.{All-from_get_or, All-more}
use Rattle.h5_base.specs.Fields.{Puts}
use Rattle.h5_base.proofs.FieldLemmas.{puts_more}
use Rattle.node_codec.specs.Cells.{woven}
use Rattle.node_codec.specs.TreeHead.{IsU64}
use Rattle.node_codec.specs.ChunkNodes.{HasRank, KeyInRange, chunk_key_bytes, chunk_key_len}
use Rattle.node_codec.proofs.NodeLemmas.{number, length-links, links-more, links-last}
use Rattle.node_codec.proofs.ChunkLemmas.{length-key, keys-wide}
use Rattle.node_codec.proofs.chunk_node.put_chunks.Goals as goal

pub loop-i-preserved : goal.loop-i-preserved
loop-i-preserved c =
    let r = c.args.rank in
    let w = chunk_key_len r in
    let ks = c.args.keys.now in
    let cs = c.args.children.now in
    let i = c.loop-i.i in
    let key = c.index-keys-i.result in
    let is = c.index-keys-i.is in
    let a : i < length ks = omega arith in
    let before = woven (map chunk_key_bytes (take i ks)) (map number (take i cs)) in
    let long : length before ≡ (w + 8) * i = length-links w chunk_key_bytes ks cs i (keys-wide r ks c.requires.ranks) (omega arith) (omega arith) in
    let at = c.args.at + (w + 8) * i in
    let e : at ≡ c.args.at + length before = omega (arith, long) in
    let has : HasRank r key = subst (HasRank r) (sym is) (c.requires.ranks i key a) in
    let f : at + w ≡ at + length (chunk_key_bytes key) = omega (arith, length-key r key has) in
    let one : Puts c.loop-i.out c.put_key.new.out at (chunk_key_bytes key) = rw c.key_size-size.ensures at c.put_key.ensures.put in
    let two : Puts c.put_key.new.out c.put_u64.new.out (at + w) (number (get_or cs i 0)) = rw c.key_size-size.ensures at c.put_u64.ensures in
    let pair = puts_more _ _ _ _ _ _ _ f one two in
    record {
      put = rw (links-more chunk_key_bytes ks cs i key a c.loop-i-test.true, ← is) (puts_more _ _ _ _ _ _ _ e c.loop-i.invariant.put pair);
      keys = All-more KeyInRange ks i key a c.loop-i.invariant.keys (subst KeyInRange is c.put_key.ensures.range);
    }

pub returns-clause-put : goal.returns-clause-put
returns-clause-put c =
    let r = c.args.rank in
    let w = chunk_key_len r in
    let ks = c.args.keys.now in
    let cs = c.args.children.now in
    let n = length cs in
    let key = c.index-keys-children.result in
    let end : c.loop-i.i ≡ n = omega arith in
    let before = woven (map chunk_key_bytes (take n ks)) (map number (take n cs)) in
    let long : length before ≡ (w + 8) * n = length-links w chunk_key_bytes ks cs n (keys-wide r ks c.requires.ranks) (omega arith) (omega arith) in
    let at = c.args.at + (w + 8) * n in
    let e : at ≡ c.args.at + length before = omega (arith, long) in
    let last : Puts c.loop-i.out c.put_key-2.new.out at (chunk_key_bytes key) = rw c.key_size-size.ensures at c.put_key-2.ensures.put in
    rw (links-last chunk_key_bytes ks cs key c.requires.one_more, ← c.index-keys-children.is)
    (puts_more _ _ _ _ _ _ _ e (rw end at c.loop-i.invariant.put) last)

pub returns-clause-keys : goal.returns-clause-keys
returns-clause-keys c =
    let ks = c.args.keys.now in
    let n = length c.args.children.now in
    let key = c.index-keys-children.result in
    let end : c.loop-i.i ≡ n = omega arith in
    let whole : take (n + 1) ks ≡ ks = take_all (n + 1) ks (omega arith) in
    subst (All KeyInRange) whole
    (All-more KeyInRange ks n key (omega arith) (rw end at c.loop-i.invariant.keys) (subst KeyInRange c.index-keys-children.is c.put_key-2.ensures.range))

pub returns-clause-children : goal.returns-clause-children
returns-clause-children c = All-from_get_or IsU64 c.args.children.now 0 (λ i lt. omega (arith, c.type_inv.children i))
