-- A group's node that is written is spelled.
use Rattle.std.proofs.Common.{◌≡◌, ℕ, ◌+◌, ◌*◌, ◌≤◌, List, ◌++◌, length, map, replicate, refl, ap, ◌∙◌, arith, ◌-◌, length-append}
use Rattle.std.specs.List.{All}
use Rattle.std.proofs.lemmas.Nat.{from_le_bytes-to_le_bytes_2, from_le_bytes-to_le_bytes_8}
use Rattle.h5_base.specs.Fields.{u16_at, u64_at, u64s_at}
use Rattle.node_codec.specs.declared.group_node.GroupNode.{GroupNode}
use Rattle.node_codec.specs.Cells.{woven}
use Rattle.node_codec.specs.TreeHead.{IsU64, used_of, tree_head}
use Rattle.node_codec.specs.GroupNodes.{SpellsGroupNode, FitsGroupNode, group_node_bytes, group_node_len}
use Rattle.node_codec.proofs.PutLemmas.{length-padded}
use Rattle.node_codec.proofs.NodeLemmas.{length-u64s_at, number, children-read, numbers-read, length-all-links}

same_node : (n : GroupNode) (l a r : ℕ) (ks cs : List ℕ) → l ≡ n.level → a ≡ n.left → r ≡ n.right → ks ≡ n.keys → cs ≡ n.children → n ≡ record { level = l; left = a; right = r; keys = ks; children = cs }
same_node n l a r ks cs e1 e2 e3 e4 e5 = rw (e1, e2, e3, e4, e5) refl

pub group-len : (k : ℕ) (n : GroupNode) → FitsGroupNode k n → length (group_node_bytes k n) ≡ group_node_len k
unfolding group_node_bytes
group-len k n fits =
    let head = tree_head 0 n.level (length n.children) n.left n.right in
    let links = woven (map number n.keys) (map number n.children) in
    let long : length links ≡ 16 * length n.children + 8 = length-all-links 8 number n.keys n.children 0 (λ k d lt. refl) fits.one_more in
    length-padded (group_node_len k) (head ++ links) (omega (arith, fits.room, length-append head links))

pub group-spelled : (k : ℕ) (n : GroupNode) → k ≤ 1024 → FitsGroupNode k n → IsU64 n.left → IsU64 n.right → All IsU64 n.keys → All IsU64 n.children → SpellsGroupNode k n (group_node_bytes k n)
unfolding u16_at u64_at group_node_bytes
group-spelled k n small fits left right keys children =
    let b = group_node_bytes k n in
    let head = tree_head 0 n.level (length n.children) n.left n.right in
    let links = head ++ woven (map number n.keys) (map number n.children) in
    let rest : List ℕ = replicate (group_node_len k - length links) 0 in
    let used : used_of b ≡ length n.children = from_le_bytes-to_le_bytes_2 (length n.children) (omega (arith, fits.room)) in
    let more : used_of b + 1 ≡ length n.keys = omega (arith, fits.one_more) in
    let ks : u64s_at b 24 16 (used_of b + 1) ≡ n.keys =
    ap (λ i. u64s_at b 24 16 i) more ∙ numbers-read head n.keys n.children rest refl keys fits.one_more in
    let cs : u64s_at b 32 16 (used_of b) ≡ n.children =
    ap (λ i. u64s_at b 32 16 i) used ∙ children-read 8 number head n.keys n.children rest refl (λ k d lt. refl) children fits.one_more in
    record {
      block = record { len = group-len k n fits; signature = refl; kind = refl; room = rw used fits.room };
      value = same_node n _ _ _ _ _ refl (from_le_bytes-to_le_bytes_8 n.left left) (from_le_bytes-to_le_bytes_8 n.right right) ks cs;
    }

-- a node that is spelled fits
pub group-fits : (k : ℕ) (n : GroupNode) (b : List ℕ) → SpellsGroupNode k n b → FitsGroupNode k n
group-fits k n b p =
    let keys : length n.keys ≡ used_of b + 1 = ap (λ (m : GroupNode). length m.keys) p.value ∙ length-u64s_at b 24 16 (used_of b + 1) in
    let children : length n.children ≡ used_of b = ap (λ (m : GroupNode). length m.children) p.value ∙ length-u64s_at b 32 16 (used_of b) in
    record { room = omega (arith, p.block.room); one_more = omega arith }
