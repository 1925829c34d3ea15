-- A dataset has one list of chunks.
use Rattle.std.proofs.Common.{◌≡◌, ℕ, zero, suc, Bool, true, false, List, [], ◌∷◌, length, sym, ◌∙◌, ap, subst}
use Rattle.outside.specs.Array.{Array, bytes_of}
use Rattle.header_codec.specs.declared.types.Layout.{Layout}
use Rattle.header_codec.specs.declared.types.Layout.TheVariants as layout
use Rattle.node_codec.specs.ChunkNodes.{chunk_node_len, chunk_node_of}
use Rattle.node_codec.specs.declared.chunk_node.ChunkNode.{ChunkNode}
use Rattle.node_codec.specs.declared.chunk_node.ChunkKey.{ChunkKey}
use Rattle.outside.specs.Blocks.{Block}
use Rattle.file_model.specs.Index.{Bottom, Node, NoMore, Next, each}
use Rattle.file_model.specs.Objects.{DataInfo}
use Rattle.file_model.specs.Chunks.{Chunk, ChunkIndex, ChunkIndexes, Under, address_of, chunks_under, index_blocks}
use Rattle.file_model.specs.Chunks.{HasKey, AreKeyed, IsIndex, AreIndexes, StandsAt, IsRooted}
use Rattle.file_model.specs.Chunks.{is_read, IsIndexed, IsStoredBy}

-- one list of chunks and one of blocks
abbrev pub Same : List Chunk → List Chunk → List Block → List Block → Type 0
Same cs ds bs es = (cs ≡ ds) × (bs ≡ es)

abbrev pub IsOne : Under → Type 0
IsOne Child = (key : ChunkKey) (at : ℕ) (cs ds : List Chunk) (bs es : List Block)
    → Child key at cs bs → Child key at ds es → Same cs ds bs es

-- ---- the value

one_more : (x y : ChunkIndex) (xs ys : ChunkIndexes) → each address_of (Next x xs) ≡ each address_of (Next y ys)
    → (address_of x ≡ address_of y) × (each address_of xs ≡ each address_of ys)
one_more x y xs ys h = (cc, cc)

-- the index of one height at an address, behind one key
mutual
  index_same : (b : Array) (k rank : ℕ) (sizes : List ℕ) (height : ℕ) (key : ChunkKey) (x y : ChunkIndex)
      → IsIndex b k rank sizes height x → IsIndex b k rank sizes height y → HasKey key x → HasKey key y
      → address_of x ≡ address_of y → x ≡ y
  index_same b k rank sizes zero key (Bottom c) (Bottom d) h g own other at =
      let keys : c.key ≡ d.key = own ∙ sym other in
      λ j. Bottom (record { key = keys j; at = at j })
  index_same b k rank sizes zero key (Bottom c) (Node m ys) h g own other at = absurd g
  index_same b k rank sizes zero key (Node n xs) y h g own other at = absurd h
  index_same b k rank sizes (suc level) key (Bottom c) y h g own other at = absurd h
  index_same b k rank sizes (suc level) key (Node n xs) (Bottom d) h g own other at = absurd g
  index_same b k rank sizes (suc level) key (Node n xs) (Node m ys) h g own other at =
      let node : n.node ≡ m.node =
      h.0.spelled.value ∙ ap (λ (a : ℕ). chunk_node_of rank (bytes_of b a (chunk_node_len k rank))) at
      ∙ sym g.0.spelled.value in
      let children : each address_of xs ≡ each address_of ys =
      sym h.0.children_are ∙ ap (λ (x : ChunkNode). x.children) node ∙ g.0.children_are in
      let rest = indexes_same b k rank sizes level true n.node.keys xs ys h.1 g.1 h.2
      (subst (λ (x : ChunkNode). AreKeyed true x.keys ys) (sym node) g.2) children in
      λ j. Node (record { at = at j; node = node j }) (rest j)

  indexes_same : (b : Array) (k rank : ℕ) (sizes : List ℕ) (height : ℕ) (first : Bool) (keys : List ChunkKey)
      (xs ys : ChunkIndexes) → AreIndexes b k rank sizes height xs → AreIndexes b k rank sizes height ys
      → AreKeyed first keys xs → AreKeyed first keys ys → each address_of xs ≡ each address_of ys → xs ≡ ys
  indexes_same b k rank sizes height first keys NoMore NoMore h g own other at = λ j. NoMore
  indexes_same b k rank sizes height first keys NoMore (Next y ys) h g own other at = cc
  indexes_same b k rank sizes height first keys (Next x xs) NoMore h g own other at = cc
  indexes_same b k rank sizes height first [] (Next x xs) (Next y ys) h g own other at = absurd own
  indexes_same b k rank sizes height first (l ∷ []) (Next x xs) (Next y ys) h g own other at = absurd own
  indexes_same b k rank sizes height first (l ∷ m ∷ ks) (Next x xs) (Next y ys) h g own other at =
      let both = one_more x y xs ys at in
      let here = index_same b k rank sizes height l x y h.0 g.0 own.0 other.0 both.0 in
      let rest = indexes_same b k rank sizes height false (m ∷ ks) xs ys h.1 g.1 own.3 other.3 both.1 in
      λ j. Next (here j) (rest j)

-- a node has no key of its own
behind_any : (b : Array) (k rank : ℕ) (sizes : List ℕ) (level : ℕ) (key : ChunkKey) (x : ChunkIndex)
    → IsIndex b k rank sizes (suc level) x → HasKey key x
behind_any b k rank sizes level key (Bottom c) h = absurd h
behind_any b k rank sizes level key (Node n xs) h = tt

-- ---- what it has

pub stands_same : (b : Array) (k rank : ℕ) (sizes : List ℕ) (height : ℕ) → IsOne (StandsAt b k rank sizes height)
stands_same b k rank sizes height key at cs ds bs es h g =
    let same = index_same b k rank sizes height key h.index g.index h.stands g.stands h.behind g.behind
    (h.address ∙ sym g.address) in
    (h.chunks ∙ ap chunks_under same ∙ sym g.chunks, h.blocks ∙ ap (index_blocks k rank sizes) same ∙ sym g.blocks)

pub level_of : (b : Array) (k rank : ℕ) (sizes : List ℕ) (level : ℕ) (x : ChunkIndex)
    → IsIndex b k rank sizes (suc level) x
    → level ≡ (chunk_node_of rank (bytes_of b (address_of x) (chunk_node_len k rank))).level
level_of b k rank sizes level (Bottom c) h = absurd h
level_of b k rank sizes level (Node n xs) h = sym h.0.level_is ∙ ap (λ (n : ChunkNode). n.level) h.0.spelled.value

-- the level that the root tells
pub root_level : (b : Array) (k rank : ℕ) (sizes : List ℕ) (tree : ℕ) (cs : List Chunk) (bs : List Block)
    (h : IsRooted b k rank sizes tree cs bs)
    → h.level ≡ (chunk_node_of rank (bytes_of b tree (chunk_node_len k rank))).level
root_level b k rank sizes tree cs bs h =
    level_of b k rank sizes h.level h.index h.stands
    ∙ ap (λ (a : ℕ). (chunk_node_of rank (bytes_of b a (chunk_node_len k rank))).level) h.root

-- what is rooted stands at the root's address, behind any key
pub rooted_stands : (b : Array) (k rank : ℕ) (sizes : List ℕ) (tree : ℕ) (cs : List Chunk) (bs : List Block)
    (key : ChunkKey) (h : IsRooted b k rank sizes tree cs bs) → StandsAt b k rank sizes (suc h.level) key tree cs bs
rooted_stands b k rank sizes tree cs bs key h = record {
  index = h.index;
  stands = h.stands;
  address = h.root;
  behind = behind_any b k rank sizes h.level key h.index h.stands;
  chunks = h.chunks;
  blocks = h.blocks;
}

-- a key for where any serves
pub no_key : ChunkKey
no_key = record { bytes = 0; mask = 0; offset = [] }

rooted_same : (b : Array) (k rank : ℕ) (sizes : List ℕ) (tree : ℕ) (cs ds : List Chunk) (bs es : List Block)
    → IsRooted b k rank sizes tree cs bs → IsRooted b k rank sizes tree ds es → Same cs ds bs es
rooted_same b k rank sizes tree cs ds bs es h g =
    let level : h.level ≡ g.level =
    root_level b k rank sizes tree cs bs h ∙ sym (root_level b k rank sizes tree ds es g) in
    stands_same b k rank sizes (suc g.level) no_key tree cs ds bs es
    (subst (λ (n : ℕ). StandsAt b k rank sizes (suc n) no_key tree cs bs) level
    (rooted_stands b k rank sizes tree cs bs no_key h))
    (rooted_stands b k rank sizes tree ds es no_key g)

pub storage_same : (b : Array) (k : ℕ) (i : DataInfo) (l : Layout) (cs ds : List Chunk) (bs es : List Block)
    → IsStoredBy b k i l cs bs → IsStoredBy b k i l ds es → Same cs ds bs es
storage_same b k i (layout.Contiguous at len) cs ds bs es h g = (h.0 ∙ sym g.0, h.1 ∙ sym g.1)
storage_same b k i (layout.Chunked tree sizes) cs ds bs es h g = go (is_read i tree) h g
  where
    go : (read : Bool) → IsIndexed read b k (length i.shape.dims) sizes tree cs bs
        → IsIndexed read b k (length i.shape.dims) sizes tree ds es → Same cs ds bs es
    go false h g = (h.0 ∙ sym g.0, h.1 ∙ sym g.1)
    go true h g = rooted_same b k (length i.shape.dims) sizes tree cs ds bs es h g
