-- The keys of a chunk index's node, and that a node that is written is spelled.
use Rattle.std.proofs.Common.{◌≡◌, ℕ, ◌+◌, ◌-◌, ◌*◌, ◌<◌, ◌≤◌, List, [], ◌∷◌, ◌++◌, length, take, drop, map, get_or, replicate, refl, sym, ap, subst, ◌∙◌, arith, length-append}
use Rattle.std.specs.List.{All}
use Rattle.std.specs.Int.{w32, w64, to_le_bytes}
use Rattle.std.proofs.Math.Nat.{mul-le-mul_left}
use Rattle.std.proofs.lemmas.List.{length-map, drop-drop, drop-take, take-take, take_at}
use Rattle.std.proofs.lemmas.List.Elements.{All-map, All-take}
use Rattle.std.proofs.lemmas.Nat.{from_le_bytes-to_le_bytes_2, from_le_bytes-to_le_bytes_4, from_le_bytes-to_le_bytes_8}
use Rattle.h5_base.specs.Fields.{bytes_at, u16_at, u32_at, u64_at, u64s_at, u64s_bytes}
use Rattle.h5_base.proofs.FieldLemmas.{u64_at-past, length-u64s_bytes}
use Rattle.node_codec.specs.declared.chunk_node.ChunkNode.{ChunkNode}
use Rattle.node_codec.specs.declared.chunk_node.ChunkKey.{ChunkKey}
use Rattle.node_codec.specs.Cells.{cells, woven}
use Rattle.node_codec.specs.TreeHead.{IsTreeNode, IsU64, used_of, tree_head}
use Rattle.node_codec.specs.ChunkNodes.{SpellsChunkNode, FitsChunkNode, IsWholeElement, HasRank, KeyInRange, chunk_key_of, chunk_key_len, key_cells, chunk_key_bytes, chunk_node_len, chunk_node_bytes}
use Rattle.node_codec.proofs.CellLemmas.{cells-more, cells-at, cells-rows, length-cells, map-undone, u64s_at-cells}
use Rattle.node_codec.proofs.PutLemmas.{length-padded}
use Rattle.node_codec.proofs.NodeLemmas.{length-u64s_at, number, keys-cells, children-read, numbers-undone, length-all-links}

-- what is used lies within the node
pub node-room : (k rank used : ℕ) → used ≤ 2 * k → 24 + (chunk_key_len rank + 8) * used + chunk_key_len rank ≤ chunk_node_len k rank
node-room k rank used le =
    let w = chunk_key_len rank in
    let h : (w + 8) * used ≤ (w + 8) * (2 * k) = mul-le-mul_left (w + 8) le in
    omega arith

pub used-inside : (k rank size used : ℕ) (b : List ℕ) → IsTreeNode 1 k size b → size ≡ chunk_node_len k rank → used ≡ used_of b → 24 + (chunk_key_len rank + 8) * used + chunk_key_len rank ≤ length b
used-inside k rank size used b block is e =
    let few : used ≤ 2 * k = omega (arith, block.room) in
    omega (arith, block.len, node-room k rank used few)

-- one key more
pub key_cells-more : (rank n : ℕ) (b : List ℕ) → key_cells rank (n + 1) b ≡ key_cells rank n b ++ bytes_at b (24 + (chunk_key_len rank + 8) * n) (chunk_key_len rank) ∷ []
key_cells-more rank n b =
    let w = chunk_key_len rank in
    rw (cells-more w (w + 8) n (drop 24 b), drop-drop ((w + 8) * n) 24 b) refl

pub key_cells-at : (rank n : ℕ) (b : List ℕ) (i : ℕ) (d : List ℕ) → i < n → get_or (key_cells rank n b) i d ≡ bytes_at b (24 + (chunk_key_len rank + 8) * i) (chunk_key_len rank)
key_cells-at rank n b i d lt =
    let w = chunk_key_len rank in
    rw (cells-at w (w + 8) n (drop 24 b) i d lt, drop-drop ((w + 8) * i) 24 b) refl

pub length-key_cells : (rank n : ℕ) (b : List ℕ) → length (key_cells rank n b) ≡ n
length-key_cells rank n b = length-cells (chunk_key_len rank) (chunk_key_len rank + 8) n (drop 24 b)

-- what holds of one key more holds of the keys before it
first-keys : (rank n : ℕ) (b : List ℕ) → All (IsWholeElement rank) (key_cells rank (n + 1) b) → All (IsWholeElement rank) (key_cells rank n b)
first-keys rank n b all =
    let last = bytes_at b (24 + (chunk_key_len rank + 8) * n) (chunk_key_len rank) in
    let front : take n (key_cells rank (n + 1) b) ≡ key_cells rank n b =
    rw (key_cells-more rank n b) (take_at (key_cells rank n b) (last ∷ []) n (length-key_cells rank n b)) in
    subst (All (IsWholeElement rank)) front (All-take (IsWholeElement rank) n (key_cells rank (n + 1) b) all)

-- the last number of a cell
u64_at-within : (b : List ℕ) (at m : ℕ) → u64_at (bytes_at b at (m + 8)) m ≡ u64_at b (at + m)
unfolding u64_at
u64_at-within b at m = rw (drop-take m 8 (drop at b), take-take 8 8 (drop m (drop at b)) (omega arith), drop-drop m at b) refl

pub element-at : (rank : ℕ) (b : List ℕ) (at : ℕ) → u64_at (bytes_at b at (chunk_key_len rank)) (8 + 8 * rank) ≡ u64_at b (at + chunk_key_len rank - 8)
element-at rank b at =
    let w : chunk_key_len rank ≡ 8 + 8 * rank + 8 = omega arith in
    let e : at + (8 + 8 * rank + 8) - 8 ≡ at + (8 + 8 * rank) = omega arith in
    rw (w, e) (u64_at-within b at (8 + 8 * rank))

-- a key that is written is read again
pub length-key : (rank : ℕ) (key : ChunkKey) → HasRank rank key → length (chunk_key_bytes key) ≡ chunk_key_len rank
length-key rank key has =
    let head : List ℕ = to_le_bytes w32 key.bytes ++ to_le_bytes w32 key.mask in
    omega (arith, length-append (head ++ u64s_bytes key.offset) (to_le_bytes w64 0), length-append head (u64s_bytes key.offset), length-u64s_bytes key.offset)

pub keys-wide : (rank : ℕ) (ks : List ChunkKey) → All (HasRank rank) ks → All (λ (x : ChunkKey). length (chunk_key_bytes x) ≡ chunk_key_len rank) ks
keys-wide rank ks ranks = λ i d lt. length-key rank (get_or ks i d) (ranks i d lt)

same_key : (key : ChunkKey) (b m : ℕ) (os : List ℕ) → b ≡ key.bytes → m ≡ key.mask → os ≡ key.offset → record { bytes = b; mask = m; offset = os } ≡ key
same_key key b m os e1 e2 e3 = rw (e1, e2, e3) refl

key-undone : (rank : ℕ) (key : ChunkKey) → HasRank rank key → KeyInRange key → chunk_key_of rank (chunk_key_bytes key) ≡ key
unfolding u32_at u64_at
key-undone rank key has r =
    let b = chunk_key_bytes key in
    let offset : cells 8 8 rank (drop 8 b) ≡ map number key.offset =
    ap (λ n. cells 8 8 n (drop 8 b)) (sym has) ∙ cells-rows 8 number key.offset (to_le_bytes w64 0) (λ i d lt. refl) in
    same_key key _ _ _ (from_le_bytes-to_le_bytes_4 key.bytes r.bytes) (from_le_bytes-to_le_bytes_4 key.mask r.mask)
    (u64s_at-cells b 8 8 rank ∙ rw offset (numbers-undone key.offset r.offset))

key-whole : (rank : ℕ) (key : ChunkKey) → HasRank rank key → IsWholeElement rank (chunk_key_bytes key)
unfolding u64_at
key-whole rank key has =
    let head : List ℕ = to_le_bytes w32 key.bytes ++ to_le_bytes w32 key.mask in
    let front = head ++ u64s_bytes key.offset in
    let e : 8 + 8 * rank ≡ length front + 0 = omega (arith, length-append head (u64s_bytes key.offset), length-u64s_bytes key.offset) in
    rw e (u64_at-past front (to_le_bytes w64 0) 0)

same_node : (n : ChunkNode) (l a r : ℕ) (ks : List ChunkKey) (cs : List ℕ) → l ≡ n.level → a ≡ n.left → r ≡ n.right → ks ≡ n.keys → cs ≡ n.children → n ≡ record { level = l; left = a; right = r; keys = ks; children = cs }
same_node n l a r ks cs e1 e2 e3 e4 e5 = rw (e1, e2, e3, e4, e5) refl

pub chunk-len : (k rank : ℕ) (n : ChunkNode) → FitsChunkNode k rank n → ChunkKey → length (chunk_node_bytes k rank n) ≡ chunk_node_len k rank
unfolding chunk_node_bytes
chunk-len k rank n fits d =
    let head = tree_head 1 n.level (length n.children) n.left n.right in
    let links = woven (map chunk_key_bytes n.keys) (map number n.children) in
    let long = length-all-links (chunk_key_len rank) chunk_key_bytes n.keys n.children d (keys-wide rank n.keys fits.ranks) fits.one_more in
    length-padded (chunk_node_len k rank) (head ++ links)
    (omega (arith, length-append head links, long, node-room k rank (length n.children) fits.room))

pub chunk-spelled : (k rank : ℕ) (n : ChunkNode) → k ≤ 1024 → FitsChunkNode k rank n → IsU64 n.left → IsU64 n.right → All KeyInRange n.keys → All IsU64 n.children → SpellsChunkNode k rank n (chunk_node_bytes k rank n)
unfolding u16_at u64_at chunk_node_bytes
chunk-spelled k rank n small fits left right ranges children =
    let b = chunk_node_bytes k rank n in
    let w = chunk_key_len rank in
    let head = tree_head 1 n.level (length n.children) n.left n.right in
    let links = head ++ woven (map chunk_key_bytes n.keys) (map number n.children) in
    let rest : List ℕ = replicate (chunk_node_len k rank - length links) 0 in
    let wide = keys-wide rank n.keys fits.ranks in
    let used : used_of b ≡ length n.children = from_le_bytes-to_le_bytes_2 (length n.children) (omega (arith, fits.room)) in
    let more : used_of b + 1 ≡ length n.keys = omega (arith, fits.one_more) in
    let laid : key_cells rank (length n.keys) b ≡ map chunk_key_bytes n.keys = keys-cells w chunk_key_bytes head n.keys n.children rest refl wide fits.one_more in
    let again : map (chunk_key_of rank) (map chunk_key_bytes n.keys) ≡ n.keys =
    map-undone chunk_key_bytes (chunk_key_of rank) n.keys
    (λ i d lt. key-undone rank (get_or n.keys i d) (fits.ranks i d lt) (ranges i d lt)) in
    let ks : map (chunk_key_of rank) (key_cells rank (used_of b + 1) b) ≡ n.keys =
    ap (λ i. map (chunk_key_of rank) (key_cells rank i b)) more ∙ ap (map (chunk_key_of rank)) laid ∙ again in
    let cs : u64s_at b (24 + w) (w + 8) (used_of b) ≡ n.children =
    ap (λ i. u64s_at b (24 + w) (w + 8) i) used ∙ children-read w chunk_key_bytes head n.keys n.children rest refl wide children fits.one_more in
    let whole : All (IsWholeElement rank) (map chunk_key_bytes n.keys) =
    All-map (IsWholeElement rank) chunk_key_bytes n.keys (λ i d lt. key-whole rank (get_or n.keys i d) (fits.ranks i d lt)) in
    let all : All (IsWholeElement rank) (key_cells rank (used_of b + 1) b) =
    subst (All (IsWholeElement rank)) (sym (ap (λ i. key_cells rank i b) more ∙ laid)) whole in
    record {
      block = record { len = chunk-len k rank n fits (record { bytes = 0; mask = 0; offset = [] }); signature = refl; kind = refl; room = rw used fits.room };
      elements = first-keys rank (used_of b) b all;
      value = same_node n _ _ _ _ _ refl (from_le_bytes-to_le_bytes_8 n.left left) (from_le_bytes-to_le_bytes_8 n.right right) ks cs;
    }

-- a node that is spelled fits
pub chunk-fits : (k rank : ℕ) (n : ChunkNode) (b : List ℕ) → SpellsChunkNode k rank n b → FitsChunkNode k rank n
chunk-fits k rank n b p =
    let w = chunk_key_len rank in
    let cs = key_cells rank (used_of b + 1) b in
    let keys : length n.keys ≡ used_of b + 1 =
    ap (λ (m : ChunkNode). length m.keys) p.value ∙ length-map cs (chunk_key_of rank) ∙ length-key_cells rank (used_of b + 1) b in
    let children : length n.children ≡ used_of b =
    ap (λ (m : ChunkNode). length m.children) p.value ∙ length-u64s_at b (24 + w) (w + 8) (used_of b) in
    let ranks : All (HasRank rank) (map (chunk_key_of rank) cs) = All-map (HasRank rank) (chunk_key_of rank) cs (λ i d lt. length-u64s_at (get_or cs i d) 8 8 rank) in
    record {
      room = omega (arith, p.block.room);
      one_more = omega arith;
      ranks = subst (All (HasRank rank)) (sym (ap (λ (m : ChunkNode). m.keys) p.value)) ranks;
    }
