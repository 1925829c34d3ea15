-- What is stored of a dataset isn't refused where it is held.
use Rattle.std.proofs.Common.{◌≡◌, ℕ, zero, suc, ◌*◌, ◌==◌, Bool, true, false, List, [], ◌∷◌, ◌++◌, length, refl, sym, ◌∙◌, subst, arith, inl, inr}
use Rattle.std.proofs.lemmas.List.{append_assoc}
use Rattle.std.proofs.lemmas.Bool.Decides.{nat_tests}
use Rattle.h5_base.specs.Fields.{undefined}
use Rattle.outside.specs.Array.{Array}
use Rattle.outside.specs.Blocks.{Block, Bounds, placed}
use Rattle.h5_base.specs.declared.kinds.BlockKind.TheVariants as kind
use Rattle.dtype.specs.Products.{product}
use Rattle.dtype.specs.Types.{size_of}
use Rattle.header_codec.specs.declared.types.Layout.{Layout}
use Rattle.header_codec.specs.declared.types.Layout.TheVariants as layout
use Rattle.node_codec.specs.declared.chunk_node.ChunkNode.{ChunkNode}
use Rattle.node_codec.specs.declared.chunk_node.ChunkKey.{ChunkKey}
use Rattle.file_model.specs.Index.{Bottom, Node, NoMore, Next, each}
use Rattle.file_model.specs.Objects.{DataInfo}
use Rattle.file_model.specs.Chunks.{Chunk, StoredChunk, ChunkTreeNode, ChunkIndex, ChunkIndexes, Under, AreAscending}
use Rattle.file_model.specs.Chunks.{address_of, chunks_under, chunks_within, index_blocks, blocks_within, chunk_block}
use Rattle.file_model.specs.Chunks.{node_block, IsFrom, IsBelow, HasKey, AreKeyed, IsStored, IsIndex, AreIndexes}
use Rattle.file_model.specs.Chunks.{StandsAt, IsRooted, IsIndexed, IsStoredBy}
use Rattle.h5_base.specs.declared.refusal.Refusal.{Refusal}
use Rattle.file_model.specs.RefusedChunks.{RefusedChunks, IsChunkRefused, ChunkBlock, WrongBytes, WrongOffset}
use Rattle.file_model.specs.RefusedChunks.{AreOffsetsRefused, BelowKey, AboveKey, OffsetsDisordered, AreChunksRefused}
use Rattle.file_model.specs.RefusedChunks.{IsChunkNodeRefused, NodeBlock, NoNode, InChildren, IsChunkIndexRefused}
use Rattle.file_model.specs.RefusedChunks.{IsTreeRefused, chunk_level, IsStorageRefused, RawBlock, InIndex}
use Rattle.file_model.proofs.UniqueChunks.{stands_same, root_level, rooted_stands, no_key}
use Rattle.file_model.proofs.NoFault.{Room, free_of, not_refused, room_after, placed_not_refused}

abbrev pub NotUnder : Bounds → Under → RefusedChunks → Type 0
NotUnder e Child Refused = (met later : List Block) (key : ChunkKey) (at : ℕ) (cs : List Chunk) (bs : List Block)
    (r : Refusal) → Child key at cs bs → AreAscending cs → Room e met (bs ++ later) → Refused met key at r → ⊥

-- ---- a chunk

stored_not : (e : Bounds) (rank : ℕ) (sizes : List ℕ) (node : ℕ) (c : StoredChunk) (met later : List Block)
    (r : Refusal) → IsStored rank sizes c → Room e met (chunk_block sizes c.at ∷ later)
    → IsChunkRefused e rank sizes node met c.key c.at r → ⊥
stored_not e rank sizes node c met later r h room (ChunkBlock k) =
    not_refused e met (chunk_block sizes c.at) kind.Raw r (free_of e met (chunk_block sizes c.at) later room) k
stored_not e rank sizes node c met later r h room (WrongBytes taken wrong line) = wrong h.bytes
stored_not e rank sizes node c met later r h room (WrongOffset taken bytes wrong line) = wrong h.multiples

-- ---- nodes

ascending_front : (cs ds : List Chunk) → AreAscending (cs ++ ds) → AreAscending cs
ascending_front [] ds h = tt
ascending_front (c ∷ []) ds h = (tt, tt)
ascending_front (c ∷ d ∷ cs) ds h = (h.0, ascending_front (d ∷ cs) ds h.1)

pub ascending_back : (cs ds : List Chunk) → AreAscending (cs ++ ds) → AreAscending ds
ascending_back [] ds h = h
ascending_back (c ∷ cs) ds h = ascending_back cs ds h.1

pub offsets_not : (node : ℕ) (first : Bool) (k l rest : List ℕ) (done here : List Chunk) (r : Refusal) → IsFrom first k here → IsBelow rest l here → AreAscending (done ++ here)
    → AreOffsetsRefused node first k l rest done here r → ⊥
offsets_not node first k l rest done here r from below ordered (BelowKey wrong line) = wrong from
offsets_not node first k l rest done here r from below ordered (AboveKey k_from wrong line) = wrong below
offsets_not node first k l rest done here r from below ordered (OffsetsDisordered k_from k_below wrong line) = wrong ordered

module _ (b : Array) (e : Bounds) (k rank : ℕ) (sizes : List ℕ) (level : ℕ) where
  abbrev Child : Under
  Child = StandsAt b k rank sizes level

  children_not : (node : ℕ) (Refused : RefusedChunks) → NotUnder e Child Refused → (first : Bool)
      (keys : List ChunkKey) (xs : ChunkIndexes) (done : List Chunk) (met later : List Block) (r : Refusal)
      → AreIndexes b k rank sizes level xs → AreKeyed first keys xs → AreAscending (done ++ chunks_within xs)
      → Room e met (blocks_within k rank sizes xs ++ later)
      → AreChunksRefused e node Child Refused first keys (each address_of xs) done met r → ⊥
  children_not node Refused not first keys NoMore done met later r h keyed ordered room refused = refused
  children_not node Refused not first [] (Next x xs) done met later r h keyed ordered room refused = refused
  children_not node Refused not first (l ∷ []) (Next x xs) done met later r h keyed ordered room refused = refused
  children_not node Refused not first (l ∷ m ∷ ks) (Next x xs) done met later r h keyed ordered room refused =
      go refused (children_not node Refused not false (m ∷ ks) xs (done ++ here) (met ++ own) later r h.1 keyed.3 all
      (room_after e met own (more ++ later) room'))
    where
      here : List Chunk
      here = chunks_under x

      own : List Block
      own = index_blocks k rank sizes x

      more : List Block
      more = blocks_within k rank sizes xs

      child : Child l (address_of x) here own
      child = record {
        index = x;
        stands = h.0;
        address = refl;
        behind = keyed.0;
        chunks = refl;
        blocks = refl;
      }

      all : AreAscending ((done ++ here) ++ chunks_within xs)
      all = subst AreAscending (sym (append_assoc done here (chunks_within xs))) ordered

      so_far : AreAscending (done ++ here)
      so_far = ascending_front (done ++ here) (chunks_within xs) all

      room' : Room e met (own ++ (more ++ later))
      room' = subst (Room e met) (append_assoc own more later) room

      go : AreChunksRefused e node Child Refused first (l ∷ m ∷ ks) (address_of x ∷ each address_of xs) done met r
          → (AreChunksRefused e node Child Refused false (m ∷ ks) (each address_of xs) (done ++ here) (met ++ own) r
          → ⊥) → ⊥
      go (inl y) next =
          not met (more ++ later) l (address_of x) here own r child (ascending_back done here so_far) room' y
      go (inr (here', own', child', taken, inl (mine, y))) next =
          let same = stands_same b k rank sizes level l (address_of x) here here' own own' child child' in
          offsets_not node first l.offset m.offset (each address_of xs) done here r keyed.1 keyed.2 so_far
          (subst (λ (cs : List Chunk). AreOffsetsRefused node first l.offset m.offset (each address_of xs) done cs r)
          (sym same.0) y)
      go (inr (here', own', child', taken, inr (placed, y))) next =
          let same = stands_same b k rank sizes level l (address_of x) here here' own own' child child' in
          let rest = λ (cs : List Chunk) (bs : List Block).
          AreChunksRefused e node Child Refused false (m ∷ ks) (each address_of xs) (done ++ cs) (met ++ bs) r in
          next (subst (λ (cs : List Chunk). rest cs own) (sym same.0)
          (subst (λ (bs : List Block). rest here' bs) (sym same.1) y))

  node_not : (Refused : ℕ → RefusedChunks) → ((node : ℕ) → NotUnder e Child (Refused node)) → (n : ChunkTreeNode)
      (xs : ChunkIndexes) (met later : List Block) (r : Refusal)
      → IsIndex b k rank sizes (suc level) (Node n xs) → AreAscending (chunks_within xs)
      → Room e met (node_block k rank n.at ∷ (blocks_within k rank sizes xs ++ later))
      → IsChunkNodeRefused b e k rank level Child Refused met n.at r → ⊥
  node_not Refused not n xs met later r h ordered room refused = go refused
    where
      own : Block
      own = node_block k rank n.at

      below : List Block
      below = blocks_within k rank sizes xs

      go : IsChunkNodeRefused b e k rank level Child Refused met n.at r → ⊥
      go (NodeBlock y) = not_refused e met own kind.Tree r (free_of e met own (below ++ later) room) y
      go (NoNode taken none line) = none n.node h.0.spelled h.0.level_is
      go (InChildren m taken spelled is y) =
          let node : m ≡ n.node = spelled.value ∙ sym h.0.spelled.value in
          let rest = λ (keys : List ChunkKey) (children : List ℕ).
          AreChunksRefused e n.at Child (Refused n.at) true keys children [] (met ++ own ∷ []) r in
          let y' : rest n.node.keys n.node.children = subst (λ (z : ChunkNode). rest z.keys z.children) node y in
          children_not n.at (Refused n.at) (not n.at) true n.node.keys xs [] (met ++ own ∷ []) later r h.1 h.2 ordered
          (room_after e met (own ∷ []) (below ++ later) room) (subst (rest n.node.keys) h.0.children_are y')

  under_not : (Refused : ℕ → RefusedChunks) → ((node : ℕ) → NotUnder e Child (Refused node)) → (x : ChunkIndex)
      (met later : List Block) (r : Refusal) → IsIndex b k rank sizes (suc level) x → AreAscending (chunks_under x)
      → Room e met (index_blocks k rank sizes x ++ later)
      → IsChunkNodeRefused b e k rank level Child Refused met (address_of x) r → ⊥
  under_not Refused not (Bottom c) met later r h ordered room refused = h
  under_not Refused not (Node n xs) met later r h ordered room refused =
      node_not Refused not n xs met later r h ordered room refused

leaf_not : (b : Array) (e : Bounds) (k rank : ℕ) (sizes : List ℕ) (node : ℕ) (x : ChunkIndex) (met later : List Block)
    (key : ChunkKey) (r : Refusal) → IsIndex b k rank sizes zero x → HasKey key x
    → Room e met (index_blocks k rank sizes x ++ later) → IsChunkRefused e rank sizes node met key (address_of x) r → ⊥
leaf_not b e k rank sizes node (Bottom c) met later key r h behind room refused =
    stored_not e rank sizes node c met later r h room
    (subst (λ (l : ChunkKey). IsChunkRefused e rank sizes node met l c.at r) (sym behind) refused)
leaf_not b e k rank sizes node (Node n xs) met later key r h behind room refused = h

pub index_not : (b : Array) (e : Bounds) (k rank : ℕ) (sizes : List ℕ) (height node : ℕ)
    → NotUnder e (StandsAt b k rank sizes height) (IsChunkIndexRefused b e k rank sizes height node)
index_not b e k rank sizes zero node met later key at cs bs r h ordered room refused =
    leaf_not b e k rank sizes node h.index met later key r h.stands h.behind
    (subst (λ (l : List Block). Room e met (l ++ later)) h.blocks room)
    (subst (λ (a : ℕ). IsChunkRefused e rank sizes node met key a r) (sym h.address) refused)
index_not b e k rank sizes (suc level) node met later key at cs bs r h ordered room refused =
    let below = IsChunkIndexRefused b e k rank sizes level in
    under_not b e k rank sizes level below (index_not b e k rank sizes level) h.index met later r h.stands
    (subst AreAscending h.chunks ordered) (subst (λ (l : List Block). Room e met (l ++ later)) h.blocks room)
    (subst (λ (a : ℕ). IsChunkNodeRefused b e k rank level (StandsAt b k rank sizes level) below met a r)
    (sym h.address) refused)

-- ---- storage

-- the layouts of two kinds differ
pub contiguous_is : (at len bt m : ℕ) → layout.Contiguous at len ≡ layout.Contiguous bt m → at ≡ bt
contiguous_is at len bt m h = cc

pub tree_is : (at bt : ℕ) (xs ys : List ℕ) → layout.Chunked at xs ≡ layout.Chunked bt ys → at ≡ bt
tree_is at bt xs ys h = cc

pub sizes_are : (at bt : ℕ) (xs ys : List ℕ) → layout.Chunked at xs ≡ layout.Chunked bt ys → xs ≡ ys
sizes_are at bt xs ys h = cc

pub storage_not : (b : Array) (e : Bounds) (k : ℕ) (i : DataInfo) (met later : List Block) (cs : List Chunk) (bs : List Block) (r : Refusal) → IsStoredBy b k i i.layout cs bs → Room e met (bs ++ later)
    → IsStorageRefused b e k i met r → ⊥
storage_not b e k i met later cs bs r h room (RawBlock at len is there x) =
    let stored : IsStoredBy b k i (layout.Contiguous at len) cs bs = subst (λ (l : Layout). IsStoredBy b k i l cs bs) is h in
    let test : (at == undefined) ≡ false = grind (arith, nat_tests, there) in
    let blocks : bs ≡ placed at (product i.shape.dims * size_of i.elem) = stored.1 ∙ (rw test refl) in
    placed_not_refused e met at (product i.shape.dims * size_of i.elem) later kind.Raw r (subst (λ (l : List Block). Room e met (l ++ later)) blocks room) x
storage_not b e k i met later cs bs r h room (InIndex tree sizes is read x) =
    let rank = length i.shape.dims in
    let stored : IsStoredBy b k i (layout.Chunked tree sizes) cs bs = subst (λ (l : Layout). IsStoredBy b k i l cs bs) is h in
    let rooted : IsRooted b k rank sizes tree cs bs = subst (λ (t : Bool). IsIndexed t b k rank sizes tree cs bs) read stored in
    let level : rooted.level ≡ chunk_level b k rank tree = root_level b k rank sizes tree cs bs rooted in
    let x' = subst (λ (n : ℕ). IsTreeRefused b e k rank sizes n met tree r) (sym level) x in
    index_not b e k rank sizes (suc rooted.level) 0 met later no_key tree cs bs r
    (rooted_stands b k rank sizes tree cs bs no_key rooted) rooted.ascending room x'
