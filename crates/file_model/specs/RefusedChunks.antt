-- Why the block of a dataset's elements, or its chunk index, is refused, after the blocks that were met before.
-- Cited by what opens a file.
use Rattle.std.specs.Prelude.{◌≡◌, ◌≢◌, ◌⊎◌, ℕ, zero, suc, ◌*◌, Bool, true, false, IsTrue, List, [], ◌∷◌, ◌++◌}
use Rattle.std.specs.Prelude.{length}
use Rattle.h5_base.specs.Fields.{undefined}
use Rattle.outside.specs.Array.{Array, bytes_of}
use Rattle.outside.specs.Blocks.{Block, Bounds}
use Rattle.h5_base.specs.declared.kinds.BlockKind.TheVariants as kind
use Rattle.dtype.specs.Products.{product}
use Rattle.dtype.specs.Types.{size_of}
use Rattle.header_codec.specs.declared.types.Layout.TheVariants as layout
use Rattle.node_codec.specs.ChunkNodes.{SpellsChunkNode, chunk_node_len, chunk_node_of}
use Rattle.node_codec.specs.declared.chunk_node.ChunkNode.{ChunkNode}
use Rattle.node_codec.specs.declared.chunk_node.ChunkKey.{ChunkKey}
use Rattle.file_model.specs.Objects.{DataInfo}
use Rattle.h5_base.specs.declared.refusal.Refusal.{Refusal}
use Rattle.h5_base.specs.declared.refusal.Refusal.TheVariants.{Malformed}
use Rattle.outside.specs.Blocks.{IsBlockRefused, IsPlacedRefused, AreTaken}
use Rattle.file_model.specs.Chunks.{Chunk, Under, AreMultiples, chunk_sizes, IsFrom, IsBelow, AreAscending, StandsAt}
use Rattle.file_model.specs.Chunks.{chunk_block, node_block, is_read}

abbrev pub RefusedChunks : Type 1
RefusedChunks = List Block → ChunkKey → ℕ → Refusal → Type 0

-- A chunk is refused for its block, else for its number of bytes, else for its offset.
pub data IsChunkRefused (e : Bounds) (rank : ℕ) (sizes : List ℕ) (node : ℕ) (met : List Block) (key : ChunkKey)
    (at : ℕ) (r : Refusal) : Type 0 where
  ChunkBlock : IsBlockRefused e met (chunk_block sizes at) kind.Raw r
      → IsChunkRefused e rank sizes node met key at r
  WrongBytes : AreTaken e met (chunk_block sizes at ∷ []) → key.bytes ≢ product sizes
      → r ≡ Malformed node kind.Tree → IsChunkRefused e rank sizes node met key at r
  WrongOffset : AreTaken e met (chunk_block sizes at ∷ []) → key.bytes ≡ product sizes
      → ¬ AreMultiples (chunk_sizes rank sizes) key.offset → r ≡ Malformed node kind.Tree
      → IsChunkRefused e rank sizes node met key at r

-- The offsets under a child are refused for the key before them, else for the key behind them, else for the offsets
-- before them.
pub data AreOffsetsRefused (node : ℕ) (first : Bool) (k l : List ℕ) (rest : List ℕ) (done here : List Chunk)
    (r : Refusal) : Type 0 where
  BelowKey : ¬ IsFrom first k here → r ≡ Malformed node kind.Tree → AreOffsetsRefused node first k l rest done here r
  AboveKey : IsFrom first k here → ¬ IsBelow rest l here → r ≡ Malformed node kind.Tree
      → AreOffsetsRefused node first k l rest done here r
  OffsetsDisordered : IsFrom first k here → IsBelow rest l here → ¬ AreAscending (done ++ here)
      → r ≡ Malformed node kind.Tree → AreOffsetsRefused node first k l rest done here r

-- The offsets under a child stand between the keys on both sides of it, and behind the offsets before them.
pub record IsInPlace (first : Bool) (low high : List ℕ) (later : List ℕ) (done here : List Chunk) : Type 0 where
  pub from : IsFrom first low here
  pub below : IsBelow later high here
  pub ordered : AreAscending (done ++ here)

-- A child is refused; or, once all under it was read in ascending order and its blocks were taken, the offsets under
-- it; or, where they are in place, a later child.
abbrev pub AreChunksRefused : Bounds → (node : ℕ) → Under → RefusedChunks → Bool → List ChunkKey → List ℕ
    → (done : List Chunk) → List Block → Refusal → Type 0
AreChunksRefused e node Child RefusedChild first keys [] done met r = ⊥
AreChunksRefused e node Child RefusedChild first [] (a ∷ rest) done met r = ⊥
AreChunksRefused e node Child RefusedChild first (k ∷ []) (a ∷ rest) done met r = ⊥
AreChunksRefused e node Child RefusedChild first (k ∷ l ∷ ks) (a ∷ rest) done met r =
    RefusedChild met k a r
    ⊎ ((here : List Chunk) × (own : List Block) × Child k a here own × AreTaken e met own
    × ((AreAscending here × AreOffsetsRefused node first k.offset l.offset rest done here r)
    ⊎ (IsInPlace first k.offset l.offset rest done here
    × AreChunksRefused e node Child RefusedChild false (l ∷ ks) rest (done ++ here) (met ++ own) r)))

-- A node of this level is refused for its block, else for its bytes, which spell no such node, else for what stands
-- under it.
pub data IsChunkNodeRefused (b : Array) (e : Bounds) (k rank level : ℕ) (Child : Under) (RefusedChild : ℕ
    → RefusedChunks) (met : List Block) (at : ℕ) (r : Refusal) : Type 0 where
  NodeBlock : IsBlockRefused e met (node_block k rank at) kind.Tree r
      → IsChunkNodeRefused b e k rank level Child RefusedChild met at r
  NoNode : AreTaken e met (node_block k rank at ∷ [])
      → ((n : ChunkNode) → SpellsChunkNode k rank n (bytes_of b at (chunk_node_len k rank)) → n.level ≡ level → ⊥)
      → r ≡ Malformed at kind.Tree
      → IsChunkNodeRefused b e k rank level Child RefusedChild met at r
  InChildren : (n : ChunkNode) → AreTaken e met (node_block k rank at ∷ [])
      → SpellsChunkNode k rank n (bytes_of b at (chunk_node_len k rank)) → n.level ≡ level
      → AreChunksRefused e at Child (RefusedChild at) true n.keys n.children []
      (met ++ node_block k rank at ∷ []) r
      → IsChunkNodeRefused b e k rank level Child RefusedChild met at r

-- a chunk index of this height, under the node at an address, is refused
abbrev pub IsChunkIndexRefused : Array → Bounds → ℕ → ℕ → List ℕ → (height node : ℕ) → RefusedChunks
IsChunkIndexRefused b e k rank sizes zero node = IsChunkRefused e rank sizes node
IsChunkIndexRefused b e k rank sizes (suc level) node = λ met key.
    IsChunkNodeRefused b e k rank level (StandsAt b k rank sizes level) (IsChunkIndexRefused b e k rank sizes level) met

-- an index whose root has this level is refused
abbrev pub IsTreeRefused : Array → Bounds → ℕ → ℕ → List ℕ → (level : ℕ) → List Block → ℕ → Refusal → Type 0
IsTreeRefused b e k rank sizes level = IsChunkNodeRefused b e k rank level (StandsAt b k rank sizes level)
    (IsChunkIndexRefused b e k rank sizes level)

-- the level that the root node tells
abbrev pub chunk_level : Array → ℕ → ℕ → ℕ → ℕ
chunk_level b k rank tree = (chunk_node_of rank (bytes_of b tree (chunk_node_len k rank))).level

-- the one block of a dataset, or its chunk index, is refused
pub data IsStorageRefused (b : Array) (e : Bounds) (k : ℕ) (i : DataInfo) (met : List Block)
    (r : Refusal) : Type 0 where
  RawBlock : (at len : ℕ) → i.layout ≡ layout.Contiguous at len → at ≢ undefined
      → IsPlacedRefused e met at (product i.shape.dims * size_of i.elem) kind.Raw r
      → IsStorageRefused b e k i met r
  InIndex : (tree : ℕ) (sizes : List ℕ) → i.layout ≡ layout.Chunked tree sizes → IsTrue (is_read i tree)
      → IsTreeRefused b e k (length i.shape.dims) sizes (chunk_level b k (length i.shape.dims) tree) met tree r
      → IsStorageRefused b e k i met r
