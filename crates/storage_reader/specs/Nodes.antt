-- What stands in a chunk index of a form: its nodes, what stands under each by its level, and why one is refused.
-- Cited by the functions that read a chunk index.
use Rattle.std.specs.Prelude.{◌≡◌, ℕ, suc, ◌+◌, ◌<◌, Bool, true, false, List, [], ◌∷◌, ◌++◌, length, get_or}
use Rattle.outside.specs.Array.{Array, bytes_of}
use Rattle.outside.specs.Blocks.{Block, Bounds}
use Rattle.h5_base.specs.declared.refusal.Refusal.{Refusal}
use Rattle.node_codec.specs.ChunkNodes.{SpellsChunkNode, chunk_node_len}
use Rattle.node_codec.specs.declared.chunk_node.ChunkKey.{ChunkKey}
use Rattle.node_codec.specs.declared.chunk_node.ChunkNode.{ChunkNode}
use Rattle.file_model.specs.Chunks as chunks
use Rattle.file_model.specs.Chunks.{Chunk, Under, IsFrom, IsBelow, StandsAt, IsIndexed}
use Rattle.file_model.specs.RefusedChunks.{AreChunksRefused, RefusedChunks, IsChunkIndexRefused, IsTreeRefused}
use Rattle.file_model.specs.RefusedChunks.{chunk_level}
use Rattle.storage_reader.specs.declared.form.Form.{Form}

-- ---- a node

abbrev pub node_block : Form → ℕ → Block
node_block f at = chunks.node_block f.k f.rank at

-- the bytes at an address spell this node
abbrev pub IsNodeAt : Array → Form → ℕ → ChunkNode → Type 0
IsNodeAt b f at n = SpellsChunkNode f.k f.rank n (bytes_of b at (chunk_node_len f.k f.rank))

-- ---- an index

-- the chunks and the blocks of an index whose root has this level, behind any key
abbrev pub IsIndexAt : Array → Form → (level at : ℕ) → List Chunk → List Block → Type 0
IsIndexAt b f level at cs bs = (key : ChunkKey) → StandsAt b f.k f.rank f.sizes (suc level) key at cs bs

-- why an index whose root has this level is refused
abbrev pub IsIndexRefused : Array → Form → (level at : ℕ) → Bounds → List Block → Refusal → Type 0
IsIndexRefused b f level at e met = IsTreeRefused b e f.k f.rank f.sizes level met at

-- the chunks and the blocks of an index of any level
abbrev pub IsWholeIndex : Array → Form → (at : ℕ) → List Block → Type 0
IsWholeIndex b f at bs = (cs : List Chunk) × IsIndexed true b f.k f.rank f.sizes at cs bs

-- why an index of the level that its root tells is refused
abbrev pub IsWholeRefused : Array → Form → (at : ℕ) → Bounds → List Block → Refusal → Type 0
IsWholeRefused b f at = IsIndexRefused b f (chunk_level b f.k f.rank at) at

-- ---- under a node

-- Children and the keys on both sides of each: the chunks in order, and the blocks.
abbrev pub AreChildren : Under → (first : Bool) → List ChunkKey → List ℕ → List Chunk → List Block → Type 0
AreChildren Child first keys [] cs bs = (cs ≡ []) × (bs ≡ [])
AreChildren Child first [] (a ∷ rest) cs bs = ⊥
AreChildren Child first (k ∷ []) (a ∷ rest) cs bs = ⊥
AreChildren Child first (k ∷ l ∷ ks) (a ∷ rest) cs bs =
    (here later : List Chunk) × (own more : List Block) × Child k a here own
    × AreChildren Child false (l ∷ ks) rest later more
    × IsFrom first k.offset here × IsBelow rest l.offset here × (cs ≡ here ++ later) × (bs ≡ own ++ more)

-- a child of a node of this level: under level 0 a chunk, else a node of the level below
abbrev pub child_at : Array → Form → (level : ℕ) → Under
child_at b f level = StandsAt b f.k f.rank f.sizes level

-- why a child of the node at an address is refused
abbrev pub refused_child : Array → Form → (level node : ℕ) → Bounds → RefusedChunks
refused_child b f level node e = IsChunkIndexRefused b e f.k f.rank f.sizes level node

-- the chunks and the blocks under a node
abbrev pub AreUnder : Array → Form → ChunkNode → List Chunk → List Block → Type 0
AreUnder b f n = AreChildren (child_at b f n.level) true n.keys n.children

-- why what stands under the node at an address is refused
abbrev pub IsUnderRefused : Array → Form → (at : ℕ) → ChunkNode → Bounds → List Block → Refusal → Type 0
IsUnderRefused b f at n e met = AreChunksRefused e at (child_at b f n.level) (refused_child b f n.level at e) true
    n.keys n.children [] met

-- child i of a node stands there, between these two keys
pub record IsChildOf (n : ChunkNode) (i : ℕ) (low high : ChunkKey) (at : ℕ) : Type 0 where
  pub inside : i < length n.children
  pub more : length n.keys ≡ length n.children + 1
  pub low_is : low ≡ get_or n.keys i low
  pub high_is : high ≡ get_or n.keys (i + 1) high
  pub at_is : at ≡ get_or n.children i 0
