use Rattle.std.proofs.Common.{◌≡◌, ◌+◌, ◌*◌, ◌<◌, length, take, map, refl, arith}
use Rattle.std.proofs.lemmas.List.Elements.{All-from_get_or}
use Rattle.h5_base.proofs.FieldLemmas.{puts_more}
use Rattle.node_codec.specs.Cells.{woven}
use Rattle.node_codec.specs.TreeHead.{IsU64}
use Rattle.node_codec.proofs.NodeLemmas.{number, length-links, links-more, links-last}
use Rattle.node_codec.proofs.group_node.put_links.Goals as goal

pub loop-i-preserved : goal.loop-i-preserved
loop-i-preserved c =
    let ks = c.args.keys.now in
    let cs = c.args.children.now in
    let i = c.loop-i.i in
    let a : i < length ks = omega arith in
    let b : i < length cs = c.loop-i-test.true in
    let long : length (woven (map number (take i ks)) (map number (take i cs))) ≡ 16 * i =
    length-links 8 number ks cs i (λ k d lt. refl) (omega arith) (omega arith) in
    let e : c.args.at + 16 * i ≡ c.args.at + length (woven (map number (take i ks)) (map number (take i cs))) = omega arith in
    let pair = puts_more _ _ _ _ (c.args.at + 16 * i + 8) _ _ refl c.put_u64.ensures c.put_u64-in-loop-i.ensures in
    rw (links-more number ks cs i 0 a b) (puts_more _ _ _ _ _ _ _ e c.loop-i.invariant pair)

pub returns-clause-put : goal.returns-clause-put
returns-clause-put c =
    let ks = c.args.keys.now in
    let cs = c.args.children.now in
    let n = length cs in
    let is : c.loop-i.i ≡ n = omega arith in
    let long : length (woven (map number (take n ks)) (map number (take n cs))) ≡ 16 * n =
    length-links 8 number ks cs n (λ k d lt. refl) (omega arith) (omega arith) in
    let e : c.args.at + 16 * n ≡ c.args.at + length (woven (map number (take n ks)) (map number (take n cs))) = omega arith in
    let before = rw is at c.loop-i.invariant in
    rw (links-last number ks cs 0 c.requires.one_more) (puts_more _ _ _ _ _ _ _ e before c.put_u64-2.ensures)

pub returns-clause-keys : goal.returns-clause-keys
returns-clause-keys c = All-from_get_or IsU64 c.args.keys.now 0 (λ i lt. omega (arith, c.type_inv.keys i))

pub returns-clause-children : goal.returns-clause-children
returns-clause-children c = All-from_get_or IsU64 c.args.children.now 0 (λ i lt. omega (arith, c.type_inv.children i))
