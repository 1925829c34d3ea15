-- The chunks of a dataset, from left to right under its B-tree, and where its elements lie, by the HDF5 File Format
-- Specification 3.0, III.A.1 (B-tree nodes) and IV.A.2.i (layout).
-- Cited by what a file's bytes hold.
use Rattle.std.specs.Prelude.{◌≡◌, ℕ, zero, suc, ◌+◌, ◌*◌, ◌%◌, ◌==◌, Bool, true, false, not, ◌&&◌, List, [], ◌∷◌}
use Rattle.std.specs.Prelude.{length, take, Option, Some, None, IsTrue, if◌then◌else◌}
use Rattle.std.specs.Ordering.{is_lt, nat_cmp}
use Rattle.std.specs.Cmp.Lexicographic.{slice_cmp}
use Rattle.std.specs.Str.{bytes_eq}
use Rattle.h5_base.specs.Fields.{undefined}
use Rattle.outside.specs.Array.{Array, bytes_of}
use Rattle.dtype.specs.Products.{product}
use Rattle.dtype.specs.Types.{size_of}
use Rattle.header_codec.specs.declared.types.Layout.{Layout}
use Rattle.header_codec.specs.declared.types.Layout.TheVariants as layout
use Rattle.node_codec.specs.ChunkNodes.{SpellsChunkNode, chunk_node_len}
use Rattle.node_codec.specs.declared.chunk_node.ChunkNode.{ChunkNode}
use Rattle.node_codec.specs.declared.chunk_node.ChunkKey.{ChunkKey}
use Rattle.object_model.specs.Boxes.{place, minus, floor_to}
use Rattle.object_model.specs.Data.{elements_by}
use Rattle.outside.specs.Blocks.{Block, placed}
use Rattle.file_model.specs.Index.{Index, Indexes, Bottom, Node, NoMore, Next, gather, gather_in, each}
use Rattle.file_model.specs.Objects.{DataInfo}

-- a chunk: the index of its first element, and its address
pub record Chunk : Type 0 where
  pub offset : List ℕ
  pub at : ℕ

-- one list of numbers comes before another: by the first number in which they differ
abbrev pub comes_before : List ℕ → List ℕ → Bool
comes_before xs ys = is_lt (slice_cmp nat_cmp xs ys)

-- strictly ascending offsets
abbrev pub ComesFirst : Chunk → List Chunk → Type 0
ComesFirst c [] = Unit {0}
ComesFirst c (d ∷ ds) = IsTrue (comes_before c.offset d.offset)

abbrev pub AreAscending : List Chunk → Type 0
AreAscending [] = Unit {0}
AreAscending (c ∷ cs) = ComesFirst c cs × AreAscending cs

-- each number is a multiple of the chunk's size
abbrev pub AreMultiples : List ℕ → List ℕ → Type 0
AreMultiples [] [] = Unit {0}
AreMultiples [] (n ∷ ns) = ⊥
AreMultiples (s ∷ ss) [] = ⊥
AreMultiples (s ∷ ss) (n ∷ ns) = (n % s ≡ 0) × AreMultiples ss ns

-- the key is above each offset
abbrev pub IsAbove : List ℕ → List Chunk → Type 0
IsAbove key [] = Unit {0}
IsAbove key (c ∷ cs) = IsTrue (comes_before c.offset key) × IsAbove key cs

-- the key is at most each offset
abbrev pub IsAtMost : List ℕ → List Chunk → Type 0
IsAtMost key [] = Unit {0}
IsAtMost key (c ∷ cs) = (comes_before c.offset key ≡ false) × IsAtMost key cs

-- ---- the index as a value

-- a chunk that is stored: its key, and its address
pub record StoredChunk : Type 0 where
  pub key : ChunkKey
  pub at : ℕ

-- a node of the B-tree: its address, and what its block tells
pub record ChunkTreeNode : Type 0 where
  pub at : ℕ
  pub node : ChunkNode

-- The index of a dataset's chunks: the nodes of its B-tree, with the chunks under level 0.
abbrev pub ChunkIndex : Type 0
ChunkIndex = Index ChunkTreeNode StoredChunk

abbrev pub ChunkIndexes : Type 0
ChunkIndexes = Indexes ChunkTreeNode StoredChunk

abbrev pub address_of : ChunkIndex → ℕ
address_of (Bottom c) = c.at
address_of (Node n xs) = n.at

abbrev pub chunk_told : StoredChunk → Chunk
chunk_told c = record { offset = c.key.offset; at = c.at }

-- its chunks, from left to right
abbrev pub chunks_under : ChunkIndex → List Chunk
chunks_under = gather (λ n. []) (λ c. chunk_told c ∷ [])

abbrev pub chunks_within : ChunkIndexes → List Chunk
chunks_within = gather_in (λ n. []) (λ c. chunk_told c ∷ [])

abbrev pub node_block : (k rank at : ℕ) → Block
node_block k rank at = record { start = at; len = chunk_node_len k rank }

abbrev pub chunk_block : List ℕ → ℕ → Block
chunk_block sizes at = record { start = at; len = product sizes }

-- its blocks, each node before what is below it
abbrev pub index_blocks : (k rank : ℕ) → List ℕ → ChunkIndex → List Block
index_blocks k rank sizes = gather (λ n. node_block k rank n.at ∷ []) (λ c. chunk_block sizes c.at ∷ [])

abbrev pub blocks_within : (k rank : ℕ) → List ℕ → ChunkIndexes → List Block
blocks_within k rank sizes = gather_in (λ n. node_block k rank n.at ∷ []) (λ c. chunk_block sizes c.at ∷ [])

-- ---- how it lies in the file

-- the key before a child is at most each offset under it; the first key of a node is free
abbrev pub IsFrom : (first : Bool) → List ℕ → List Chunk → Type 0
IsFrom true key cs = Unit {0}
IsFrom false key cs = IsAtMost key cs

-- the key behind a child is above each offset under it; behind the last child it is free
abbrev pub IsBelow : (later : List ℕ) → List ℕ → List Chunk → Type 0
IsBelow [] key cs = Unit {0}
IsBelow (a ∷ later) key cs = IsAbove key cs

-- the sizes of a chunk in elements, and its bytes
abbrev pub chunk_sizes : ℕ → List ℕ → List ℕ
chunk_sizes rank sizes = take rank sizes

-- A chunk that is stored is whole: its key tells where it begins and how many bytes it has.
pub record IsStored (rank : ℕ) (sizes : List ℕ) (c : StoredChunk) : Type 0 where
  pub bytes : c.key.bytes ≡ product sizes
  pub multiples : AreMultiples (chunk_sizes rank sizes) c.key.offset

-- The block of a node spells it, with this level and these children.
pub record IsNode (b : Array) (k rank level : ℕ) (n : ChunkTreeNode) (children : List ℕ) : Type 0 where
  pub spelled : SpellsChunkNode k rank n.node (bytes_of b n.at (chunk_node_len k rank))
  pub level_is : n.node.level ≡ level
  pub children_are : n.node.children ≡ children

-- the key before a chunk is its own
abbrev pub HasKey : ChunkKey → ChunkIndex → Type 0
HasKey k (Bottom c) = c.key ≡ k
HasKey k (Node n xs) = Unit {0}

-- Each child has the key before it; each key between two children is above each offset before it, and at most each one
-- behind it.
abbrev pub AreKeyed : (first : Bool) → List ChunkKey → ChunkIndexes → Type 0
AreKeyed first keys NoMore = Unit {0}
AreKeyed first [] (Next x xs) = ⊥
AreKeyed first (k ∷ []) (Next x xs) = ⊥
AreKeyed first (k ∷ l ∷ ks) (Next x xs) = HasKey k x × IsFrom first k.offset (chunks_under x)
    × IsBelow (each address_of xs) l.offset (chunks_under x) × AreKeyed false (l ∷ ks) xs

-- The index lies in the file: its height is 0 for a chunk, and one more than the level for a node of the B-tree.
abbrev mutual
  pub IsIndex : Array → (k rank : ℕ) → List ℕ → (height : ℕ) → ChunkIndex → Type 0
  IsIndex b k rank sizes zero (Bottom c) = IsStored rank sizes c
  IsIndex b k rank sizes zero (Node n xs) = ⊥
  IsIndex b k rank sizes (suc level) (Bottom c) = ⊥
  IsIndex b k rank sizes (suc level) (Node n xs) = IsNode b k rank level n (each address_of xs)
      × AreIndexes b k rank sizes level xs × AreKeyed true n.node.keys xs

  pub AreIndexes : Array → (k rank : ℕ) → List ℕ → (height : ℕ) → ChunkIndexes → Type 0
  AreIndexes b k rank sizes height NoMore = Unit {0}
  AreIndexes b k rank sizes height (Next x xs) = IsIndex b k rank sizes height x × AreIndexes b k rank sizes height xs

-- What stands at an address behind a key: its chunks from left to right, and its blocks.
abbrev pub Under : Type 1
Under = ChunkKey → ℕ → List Chunk → List Block → Type 0

-- an index of this height stands at the address, behind this key, with these chunks and blocks
pub record StandsAt (b : Array) (k rank : ℕ) (sizes : List ℕ) (height : ℕ) (key : ChunkKey) (at : ℕ) (cs : List Chunk)
    (bs : List Block) : Type 0 where
  pub index : ChunkIndex
  pub stands : IsIndex b k rank sizes height index
  pub address : address_of index ≡ at
  pub behind : HasKey key index
  pub chunks : cs ≡ chunks_under index
  pub blocks : bs ≡ index_blocks k rank sizes index

-- ---- what is stored of a dataset

-- an index is read where it has an address and isn't a filtered dataset's
abbrev pub is_read : DataInfo → ℕ → Bool
is_read i tree = not (tree == undefined) && not i.filtered

-- The chunks under an index that is read, in strictly ascending order, and its blocks.
pub record IsRooted (b : Array) (k rank : ℕ) (sizes : List ℕ) (tree : ℕ) (cs : List Chunk) (bs : List Block) : Type 0
  where
    pub level : ℕ
    pub index : ChunkIndex
    pub root : address_of index ≡ tree
    pub stands : IsIndex b k rank sizes (suc level) index
    pub chunks : cs ≡ chunks_under index
    pub ascending : AreAscending cs
    pub blocks : bs ≡ index_blocks k rank sizes index

-- of an index that isn't read there is nothing
abbrev pub IsIndexed : Bool → Array → ℕ → ℕ → List ℕ → ℕ → List Chunk → List Block → Type 0
IsIndexed false b k rank sizes tree cs bs = (cs ≡ []) × (bs ≡ [])
IsIndexed true b k rank sizes tree cs bs = IsRooted b k rank sizes tree cs bs

-- The chunks of a dataset, and the blocks of its elements: one block, or an index and its chunks. An undefined address
-- has none, and neither has an index that isn't read.
abbrev pub IsStoredBy : Array → ℕ → DataInfo → Layout → List Chunk → List Block → Type 0
IsStoredBy b k i (layout.Contiguous at len) cs bs =
    (cs ≡ []) × (bs ≡ (if at == undefined then [] else placed at (product i.shape.dims * size_of i.elem)))
IsStoredBy b k i (layout.Chunked tree sizes) cs bs = IsIndexed (is_read i tree) b k
    (length i.shape.dims) sizes tree cs bs

-- the address of the chunk that begins at an offset
abbrev pub chunk_at : List Chunk → List ℕ → Option ℕ
chunk_at [] offset = None
chunk_at (c ∷ cs) offset = if bytes_eq c.offset offset then Some c.at else chunk_at cs offset

abbrev pub beyond : Option ℕ → ℕ → Option ℕ
beyond None n = None
beyond (Some at) n = Some (at + n)

-- Where the element at an index is stored, if it is: at its row-major place in the one block, or in the chunk whose
-- offset is its index rounded down to a multiple of the chunk's sizes.
abbrev pub stored_at : DataInfo → Layout → List Chunk → List ℕ → Option ℕ
stored_at i (layout.Contiguous at len) cs index =
    if at == undefined then None else Some (at + size_of i.elem * place i.shape.dims index)
stored_at i (layout.Chunked tree sizes) cs index =
    let own = chunk_sizes (length i.shape.dims) sizes in
    beyond (chunk_at cs (floor_to own index)) (size_of i.elem * place own (minus index (floor_to own index)))

abbrev pub bytes_or : Array → Option ℕ → ℕ → List ℕ → List ℕ
bytes_or b None size fill = fill
bytes_or b (Some at) size fill = bytes_of b at size

-- the elements of a dataset; a filtered one's aren't read
abbrev pub elements_of : Array → DataInfo → List Chunk → List (List ℕ)
elements_of b i cs =
    if i.filtered then [] else elements_by i.shape.dims
    (λ index. bytes_or b (stored_at i i.layout cs index) (size_of i.elem) i.fill)

-- the sizes of its chunks, where it has some
abbrev pub chunk_of : DataInfo → Layout → Option (List ℕ)
chunk_of i (layout.Contiguous at len) = None
chunk_of i (layout.Chunked tree sizes) = Some (chunk_sizes (length i.shape.dims) sizes)
