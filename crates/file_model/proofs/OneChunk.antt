-- The block of a dataset's elements, and its chunk index, are refused for one reason.
use Rattle.std.proofs.Common.{◌≡◌, ℕ, zero, suc, ◌*◌, Bool, true, false, List, [], ◌∷◌, ◌++◌, length, sym, ◌∙◌}
use Rattle.std.proofs.Common.{subst, inl, inr}
use Rattle.std.proofs.lemmas.List.{append-nil}
use Rattle.outside.specs.Array.{Array}
use Rattle.outside.specs.Blocks.{Block, Bounds, AreTaken, IsPlacedRefused}
use Rattle.h5_base.specs.declared.kinds.BlockKind.TheVariants as kind
use Rattle.h5_base.specs.declared.refusal.Refusal.{Refusal}
use Rattle.h5_base.specs.declared.refusal.Refusal.TheVariants.{Malformed}
use Rattle.dtype.specs.Products.{product}
use Rattle.dtype.specs.Types.{size_of}
use Rattle.header_codec.specs.declared.types.Layout.TheVariants as layout
use Rattle.node_codec.specs.declared.chunk_node.ChunkNode.{ChunkNode}
use Rattle.node_codec.specs.declared.chunk_node.ChunkKey.{ChunkKey}
use Rattle.file_model.specs.Objects.{DataInfo}
use Rattle.file_model.specs.Chunks.{Chunk, Under, AreAscending, chunk_block, node_block, StandsAt}
use Rattle.file_model.specs.RefusedChunks.{RefusedChunks, IsChunkRefused, ChunkBlock, WrongBytes, WrongOffset}
use Rattle.file_model.specs.RefusedChunks.{AreOffsetsRefused, BelowKey, AboveKey, OffsetsDisordered, IsInPlace}
use Rattle.file_model.specs.RefusedChunks.{AreChunksRefused, NodeBlock, NoNode, InChildren}
use Rattle.file_model.specs.RefusedChunks.{IsChunkIndexRefused, IsTreeRefused, chunk_level, IsStorageRefused}
use Rattle.file_model.specs.RefusedChunks.{RawBlock, InIndex}
use Rattle.file_model.proofs.UniqueChunks.{Same, stands_same}
use Rattle.file_model.proofs.NoChunks.{ascending_back, offsets_not, index_not, contiguous_is, tree_is, sizes_are}
use Rattle.file_model.proofs.OneBlock.{block_one, placed_one, taken_not}

-- ---- a chunk

pub chunk_one : (e : Bounds) (rank : ℕ) (sizes : List ℕ) (node : ℕ) (met : List Block) (key : ChunkKey) (at : ℕ)
    (r q : Refusal) → IsChunkRefused e rank sizes node met key at r → IsChunkRefused e rank sizes node met key at q
    → r ≡ q
chunk_one e rank sizes node met key at r q h g = go h g
  where
    own : Block
    own = chunk_block sizes at

    Chunked : Refusal → Type 0
    Chunked x = IsChunkRefused e rank sizes node met key at x

    go : Chunked r → Chunked q → r ≡ q
    go (ChunkBlock x) (ChunkBlock y) = block_one e met own kind.Raw r q x y
    go (ChunkBlock x) (WrongBytes taken wrong line) = absurd (taken_not e met own [] kind.Raw r taken x)
    go (ChunkBlock x) (WrongOffset taken bytes wrong line) = absurd (taken_not e met own [] kind.Raw r taken x)
    go (WrongBytes taken wrong line) (ChunkBlock y) = absurd (taken_not e met own [] kind.Raw q taken y)
    go (WrongBytes taken wrong line) (WrongBytes taken' wrong' line') = line ∙ sym line'
    go (WrongBytes taken wrong line) (WrongOffset taken' bytes wrong' line') = line ∙ sym line'
    go (WrongOffset taken bytes wrong line) (ChunkBlock y) = absurd (taken_not e met own [] kind.Raw q taken y)
    go (WrongOffset taken bytes wrong line) (WrongBytes taken' wrong' line') = line ∙ sym line'
    go (WrongOffset taken bytes wrong line) (WrongOffset taken' bytes' wrong' line') = line ∙ sym line'

-- ---- nodes

-- the offsets under a child are refused as the node's
offsets_as : (node : ℕ) (first : Bool) (k l rest : List ℕ) (done here : List Chunk) (r : Refusal)
    → AreOffsetsRefused node first k l rest done here r → r ≡ Malformed node kind.Tree
offsets_as node first k l rest done here r (BelowKey wrong line) = line
offsets_as node first k l rest done here r (AboveKey from wrong line) = line
offsets_as node first k l rest done here r (OffsetsDisordered from below wrong line) = line

place_not : (node : ℕ) (first : Bool) (k l rest : List ℕ) (done here : List Chunk) (r : Refusal)
    → IsInPlace first k l rest done here → AreOffsetsRefused node first k l rest done here r → ⊥
place_not node first k l rest done here r h refused =
    offsets_not node first k l rest done here r h.from h.below h.ordered refused

-- an index that stands there, in ascending order, and whose blocks are taken, isn't refused
stands_not : (b : Array) (e : Bounds) (k rank : ℕ) (sizes : List ℕ) (height node : ℕ) (key : ChunkKey) (at : ℕ)
    (met own : List Block) (cs : List Chunk) (r : Refusal) → StandsAt b k rank sizes height key at cs own
    → AreAscending cs → AreTaken e met own → IsChunkIndexRefused b e k rank sizes height node met key at r → ⊥
stands_not b e k rank sizes height node key at met own cs r h ascending taken refused =
    index_not b e k rank sizes height node met [] key at cs own r h ascending
    (subst (AreTaken e met) (sym (append-nil own)) taken) refused

module _ (b : Array) (e : Bounds) (k rank : ℕ) (sizes : List ℕ) (level : ℕ) where
  abbrev pub Child : Under
  Child = StandsAt b k rank sizes level

  abbrev pub Refused : ℕ → RefusedChunks
  Refused = IsChunkIndexRefused b e k rank sizes level

  -- the index under a node is refused for one reason
  abbrev pub IsOne : Type 0
  IsOne = (node : ℕ) (met : List Block) (key : ChunkKey) (at : ℕ) (r q : Refusal) → Refused node met key at r
      → Refused node met key at q → r ≡ q

  abbrev pub Rest : ℕ → Bool → List ChunkKey → List ℕ → List Chunk → List Block → Refusal → Type 0
  Rest node first keys children done met r = AreChunksRefused e node Child (Refused node) first keys children done met r

  pub children_one : IsOne → (node : ℕ) (first : Bool) (keys : List ChunkKey) (children : List ℕ) (done : List Chunk)
      (met : List Block) (r q : Refusal) → Rest node first keys children done met r
      → Rest node first keys children done met q → r ≡ q
  children_one one node first keys [] done met r q h g = absurd h
  children_one one node first [] (a ∷ rest) done met r q h g = absurd h
  children_one one node first (l ∷ []) (a ∷ rest) done met r q h g = absurd h
  children_one one node first (l ∷ m ∷ keys) (a ∷ rest) done met r q h g =
      go (λ cs bs. children_one one node false (m ∷ keys) rest (done ++ cs) (met ++ bs) r q) h g
    where
      All : Refusal → Type 0
      All x = Rest node first (l ∷ m ∷ keys) (a ∷ rest) done met x

      Offsets : List Chunk → Refusal → Type 0
      Offsets cs x = AreOffsetsRefused node first l.offset m.offset rest done cs x

      Placed : List Chunk → Type 0
      Placed cs = IsInPlace first l.offset m.offset rest done cs

      Later : List Chunk → List Block → Refusal → Type 0
      Later cs bs x = Rest node false (m ∷ keys) rest (done ++ cs) (met ++ bs) x

      own_not : (cs : List Chunk) (bs : List Block) (x : Refusal) → Child l a cs bs → AreAscending cs
          → AreTaken e met bs → Refused node met l a x → ⊥
      own_not cs bs x child ascending taken refused =
          stands_not b e k rank sizes level node l a met bs cs x child ascending taken refused

      same : (cs ds : List Chunk) (bs es : List Block) → Child l a cs bs → Child l a ds es → Same cs ds bs es
      same cs ds bs es x y = stands_same b k rank sizes level l a cs ds bs es x y

      offsets_is : (cs : List Chunk) (x : Refusal) → Offsets cs x → x ≡ Malformed node kind.Tree
      offsets_is cs x h = offsets_as node first l.offset m.offset rest done cs x h

      misplaced : (cs ds : List Chunk) (x : Refusal) → cs ≡ ds → Placed cs → Offsets ds x → ⊥
      misplaced cs ds x is h refused = place_not node first l.offset m.offset rest done ds x (subst Placed is h) refused

      go : ((cs : List Chunk) (bs : List Block) → Later cs bs r → Later cs bs q → r ≡ q) → All r → All q → r ≡ q
      go next (inl x) (inl y) = one node met l a r q x y
      go next (inl x) (inr (ds, es, child, taken, inl (ascending, y))) =
          absurd (own_not ds es r child ascending taken x)
      go next (inl x) (inr (ds, es, child, taken, inr (placed, y))) =
          absurd (own_not ds es r child (ascending_back done ds placed.ordered) taken x)
      go next (inr (cs, bs, child, taken, inl (ascending, x))) (inl y) =
          absurd (own_not cs bs q child ascending taken y)
      go next (inr (cs, bs, child, taken, inr (placed, x))) (inl y) =
          absurd (own_not cs bs q child (ascending_back done cs placed.ordered) taken y)
      go next (inr (cs, bs, child, taken, inl (ascending, x))) (inr (ds, es, child', taken', inl (ascending', y))) =
          offsets_is cs r x ∙ sym (offsets_is ds q y)
      go next (inr (cs, bs, child, taken, inl (ascending, x))) (inr (ds, es, child', taken', inr (placed, y))) =
          absurd (misplaced ds cs r (sym (same cs ds bs es child child').0) placed x)
      go next (inr (cs, bs, child, taken, inr (placed, x))) (inr (ds, es, child', taken', inl (ascending, y))) =
          absurd (misplaced cs ds q (same cs ds bs es child child').0 placed y)
      go next (inr (cs, bs, child, taken, inr (placed, x))) (inr (ds, es, child', taken', inr (placed', y))) =
          let both = same cs ds bs es child child' in
          let y' = subst (λ (z : List Chunk). Later z bs q) (sym both.0)
          (subst (λ (z : List Block). Later ds z q) (sym both.1) y) in
          next cs bs x y'

  pub node_one : IsOne → (met : List Block) (at : ℕ) (r q : Refusal) → IsTreeRefused b e k rank sizes level met at r
      → IsTreeRefused b e k rank sizes level met at q → r ≡ q
  node_one one met at r q h g = go h g
    where
      own : Block
      own = node_block k rank at

      Node : Refusal → Type 0
      Node x = IsTreeRefused b e k rank sizes level met at x

      Below : ChunkNode → Refusal → Type 0
      Below n x = Rest at true n.keys n.children [] (met ++ own ∷ []) x

      go : Node r → Node q → r ≡ q
      go (NodeBlock x) (NodeBlock y) = block_one e met own kind.Tree r q x y
      go (NodeBlock x) (NoNode taken none line) = absurd (taken_not e met own [] kind.Tree r taken x)
      go (NodeBlock x) (InChildren n taken spelled is y) = absurd (taken_not e met own [] kind.Tree r taken x)
      go (NoNode taken none line) (NodeBlock y) = absurd (taken_not e met own [] kind.Tree q taken y)
      go (NoNode taken none line) (NoNode taken' none' line') = line ∙ sym line'
      go (NoNode taken none line) (InChildren n taken' spelled is y) = absurd (none n spelled is)
      go (InChildren n taken spelled is x) (NodeBlock y) = absurd (taken_not e met own [] kind.Tree q taken y)
      go (InChildren n taken spelled is x) (NoNode taken' none line) = absurd (none n spelled is)
      go (InChildren n taken spelled is x) (InChildren m taken' spelled' is' y) =
          let same : m ≡ n = spelled'.value ∙ sym spelled.value in
          children_one one at true n.keys n.children [] (met ++ own ∷ []) r q x
          (subst (λ (z : ChunkNode). Below z q) same y)

pub index_one : (b : Array) (e : Bounds) (k rank : ℕ) (sizes : List ℕ) (height node : ℕ) (met : List Block)
    (key : ChunkKey) (at : ℕ) (r q : Refusal) → IsChunkIndexRefused b e k rank sizes height node met key at r
    → IsChunkIndexRefused b e k rank sizes height node met key at q → r ≡ q
index_one b e k rank sizes zero node met key at r q h g = chunk_one e rank sizes node met key at r q h g
index_one b e k rank sizes (suc level) node met key at r q h g =
    node_one b e k rank sizes level (index_one b e k rank sizes level) met at r q h g

-- an index of the level that its root tells
pub tree_one : (b : Array) (e : Bounds) (k rank : ℕ) (sizes : List ℕ) (level : ℕ) (met : List Block) (at : ℕ)
    (r q : Refusal) → IsTreeRefused b e k rank sizes level met at r → IsTreeRefused b e k rank sizes level met at q
    → r ≡ q
tree_one b e k rank sizes level met at r q h g =
    node_one b e k rank sizes level (index_one b e k rank sizes level) met at r q h g

-- ---- storage

pub storage_one : (b : Array) (e : Bounds) (k : ℕ) (i : DataInfo) (met : List Block) (r q : Refusal)
    → IsStorageRefused b e k i met r → IsStorageRefused b e k i met q → r ≡ q
storage_one b e k i met r q h g = go h g
  where
    size : ℕ
    size = product i.shape.dims * size_of i.elem

    rank : ℕ
    rank = length i.shape.dims

    Raw : ℕ → Refusal → Type 0
    Raw at x = IsPlacedRefused e met at size kind.Raw x

    Tree : ℕ → List ℕ → Refusal → Type 0
    Tree tree sizes x = IsTreeRefused b e k rank sizes (chunk_level b k rank tree) met tree x

    other : (at len tree : ℕ) (sizes : List ℕ) → layout.Contiguous at len ≡ layout.Chunked tree sizes → ⊥
    other at len tree sizes h = cc

    go : IsStorageRefused b e k i met r → IsStorageRefused b e k i met q → r ≡ q
    go (RawBlock at len is there x) (RawBlock bt len' is' there' y) =
        let same : bt ≡ at = contiguous_is bt len' at len (sym is' ∙ is) in
        placed_one e met at size kind.Raw r q x (subst (λ (z : ℕ). Raw z q) same y)
    go (RawBlock at len is there x) (InIndex tree sizes is' read y) = absurd (other at len tree sizes (sym is ∙ is'))
    go (InIndex tree sizes is read x) (RawBlock at len is' there y) = absurd (other at len tree sizes (sym is' ∙ is))
    go (InIndex tree sizes is read x) (InIndex uree tizes is' read' y) =
        let root : uree ≡ tree = tree_is uree tree tizes sizes (sym is' ∙ is) in
        let ranks : tizes ≡ sizes = sizes_are uree tree tizes sizes (sym is' ∙ is) in
        tree_one b e k rank sizes (chunk_level b k rank tree) met tree r q x
        (subst (λ (z : List ℕ). Tree tree z q) ranks (subst (λ (z : ℕ). Tree z tizes q) root y))
