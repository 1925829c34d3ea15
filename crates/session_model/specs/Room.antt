-- Room: which blocks a line takes. It depends on the bytes of the file besides its tree: on the heap and the index of
-- a group, and on the index of a dataset's chunks. HDF5 File Format Specification 3.0, III.A.1, III.B, III.D and IV.A.
-- Cited by what says how a line is answered.
use Rattle.std.specs.Prelude.{◌≡◌, ◌≢◌, ◌↔◌, ℕ, ◌+◌, ◌*◌, ◌<◌, ◌≤◌, ◌==◌, ◌&&◌, not, Bool, true, false, IsTrue}
use Rattle.std.specs.Prelude.{List, [], ◌∷◌, ◌++◌, length, replicate, All, AllPairs, Option, Some, None, Ok}
use Rattle.std.specs.Prelude.{if◌then◌else◌}
use Rattle.std.specs.List.{Contains}
use Rattle.h5_base.specs.Fields.{undefined}
use Rattle.h5_base.specs.declared.extent.MemClass.TheVariants as class
use Rattle.h5_base.specs.declared.kinds.BlockKind.TheVariants as kind
use Rattle.outside.specs.Array.{Array}
use Rattle.outside.specs.Blocks.{Block}
use Rattle.block_space.specs.declared.plan.Take.{Take}
use Rattle.dtype.specs.Products.{product}
use Rattle.dtype.specs.Types.{size_of}
use Rattle.dtype.specs.Values.{encoding}
use Rattle.dtype.specs.declared.types.ElemType.{ElemType}
use Rattle.dtype.specs.declared.types.Value.{Value}
use Rattle.header_codec.specs.Written.{header_bytes}
use Rattle.header_codec.specs.declared.types.Fill.{Fill}
use Rattle.header_codec.specs.declared.types.Fill.TheVariants as fill
use Rattle.header_codec.specs.declared.types.Layout.{Layout}
use Rattle.header_codec.specs.declared.types.Layout.TheVariants as layout
use Rattle.header_codec.specs.declared.types.NewHeader.{NewHeader}
use Rattle.header_codec.specs.declared.types.NewHeader.TheVariants as header
use Rattle.node_codec.specs.ChunkNodes.{chunk_node_len}
use Rattle.object_model.specs.declared.command.Command.{Command}
use Rattle.object_model.specs.declared.command.Command.TheVariants as command
use Rattle.object_model.specs.Boxes.{in_box, floor_to}
use Rattle.object_model.specs.Tree.{Group, Leaf, Name, walk, dir_of, last_of}
use Rattle.file_model.specs.Index.{gather}
use Rattle.file_model.specs.Groups.{Ks, HasLinks}
use Rattle.file_model.specs.Chunks.{ChunkIndex, ChunkTreeNode, IsRooted, comes_before, chunk_at, chunk_sizes}
use Rattle.file_model.specs.Holds.{GroupAt, DataAt, DataLeaf, Full, FullLinks, founds}
use Rattle.group_room.specs.Room.{group_takes, header_take, Takes as TakesLink}

-- ---- a new object

abbrev pub raw_take : ℕ → Take
raw_take len = record { class = class.Raw; len = len; kind = kind.Raw }

abbrev pub new_fill : ElemType → Option Value → Fill
new_fill elem None = fill.Zeros
new_fill elem (Some v) = fill.Value (encoding elem v)

abbrev pub new_layout : ElemType → List ℕ → Option (List ℕ) → Layout
new_layout elem dims None = layout.Contiguous undefined (product dims * size_of elem)
new_layout elem dims (Some chunk) = layout.Chunked undefined (chunk ++ size_of elem ∷ [])

-- the header that a new dataset is written with: no element has a place yet
abbrev pub new_header : ElemType → List ℕ → Option (List ℕ) → Option (List ℕ) → Option Value → NewHeader
new_header elem dims chunk max fill =
    header.Dataset (record { dims = dims; max = max }) elem (new_fill elem fill) (new_layout elem dims chunk)

abbrev pub new_data_takes : ElemType → List ℕ → Option (List ℕ) → Option (List ℕ) → Option Value → List Take
new_data_takes elem dims chunk max fill =
    header_take (length (header_bytes (new_header elem dims chunk max fill))) ∷ []

-- What a path's last name takes in the group that its other names lead to.
pub record TakesName (b : Array) (ks : Ks) (t : Full) (p : List Name) (ts : List Take) : Type 0 where
  pub group : GroupAt
  pub links : FullLinks
  pub parent : walk t (dir_of p) ≡ Ok (Group group links)
  pub blocks : List Block
  pub has : HasLinks b ks group.tree_at group.heap_at (founds links) blocks
  pub takes : TakesLink b ks group.tree_at group.heap_at (founds links) blocks has (last_of p) ts

-- An object's own blocks, and what its name takes.
pub record TakesObject (b : Array) (ks : Ks) (t : Full) (p : List Name) (own ts : List Take) : Type 0 where
  pub name : List Take
  pub takes_name : TakesName b ks t p name
  pub are : ts ≡ own ++ name

-- ---- a write

-- the box meets the chunk that begins at this offset, and the index lacks it
pub record IsMissing (d : DataAt) (sizes start count offset : List ℕ) : Type 0 where
  pub index : List ℕ
  pub inside : IsTrue (in_box start count index)
  pub met : floor_to sizes index ≡ offset
  pub lacks : chunk_at d.chunks offset ≡ None

-- the chunks that the box meets and the index lacks, in strictly ascending order
pub record AreMissing (d : DataAt) (sizes start count : List ℕ) (offsets : List (List ℕ)) : Type 0 where
  pub ordered : AllPairs (λ x y. IsTrue (comes_before x y)) offsets
  pub each : (offset : List ℕ) → Contains offsets offset ↔ IsMissing d sizes start count offset

-- the nodes of a chunk index
abbrev pub chunk_nodes : ChunkIndex → List ChunkTreeNode
chunk_nodes = gather (λ n. n ∷ []) (λ c. [])

-- a node has room for so many children more, and has a child where it is above level 0
pub record HasChunkRoom (k m : ℕ) (n : ChunkTreeNode) : Type 0 where
  pub room : length n.node.children + m ≤ 2 * k
  pub some : 0 < n.node.level → 0 < length n.node.children

-- So many nodes are new in a first index, of m chunks: exactly one where it has room for all.
pub record BeginsIndex (k m nodes : ℕ) : Type 0 where
  pub most : nodes ≤ m * 3
  pub one : 1 ≤ m → m ≤ 2 * k → nodes ≡ 1

-- And in one that is there and gets m chunks more: none where each node has room for all.
pub record WidensIndex (k m level : ℕ) (index : ChunkIndex) (nodes : ℕ) : Type 0 where
  pub most : nodes ≤ m * (level + 3)
  pub none : All (HasChunkRoom k m) (chunk_nodes index) → nodes ≡ 0

-- So many nodes are new in the index of a dataset that gets m chunks more.
pub data IndexGrows (b : Array) (k : ℕ) (d : DataAt) (tree : ℕ) (sizes : List ℕ) (m nodes : ℕ) : Type 0 where
  FirstChunks : tree ≡ undefined → BeginsIndex k m nodes → IndexGrows b k d tree sizes m nodes
  MoreChunks : (blocks : List Block) (h : IsRooted b k (length d.info.shape.dims) sizes tree d.chunks blocks)
      → tree ≢ undefined → WidensIndex k m h.level h.index nodes → IndexGrows b k d tree sizes m nodes

abbrev pub chunk_node_take : (k rank : ℕ) → Take
chunk_node_take k rank = record { class = class.Tree; len = chunk_node_len k rank; kind = kind.Tree }

-- Each missing chunk whole, and nodes of the index. The number of nodes is the only free choice.
pub record TakesChunks (b : Array) (k : ℕ) (d : DataAt) (tree : ℕ) (sizes start count : List ℕ)
    (ts : List Take) : Type 0 where
  pub offsets : List (List ℕ)
  pub missing : AreMissing d (chunk_sizes (length d.info.shape.dims) sizes) start count offsets
  pub nodes : ℕ
  pub grows : IndexGrows b k d tree sizes (length offsets) nodes
  pub are : ts ≡ replicate (length offsets) (raw_take (product sizes))
      ++ replicate nodes (chunk_node_take k (length d.info.shape.dims))

-- the bytes of all elements of a dataset
abbrev pub data_len : DataAt → ℕ
data_len d = product d.info.shape.dims * size_of d.info.elem

-- a contiguous dataset is written for the first time: it has no address, and the box has an element
abbrev pub is_first_write : ℕ → List ℕ → Bool
is_first_write at count = at == undefined && not (product count == 0)

-- What a write to a box takes: the whole dataset where it is first written, or chunks.
abbrev pub TakesStorage : Array → ℕ → DataAt → Layout → (start count : List ℕ) → List Take → Type 0
TakesStorage b k d (layout.Contiguous at len) start count ts =
    ts ≡ (if is_first_write at count then (raw_take (data_len d) ∷ []) else [])
TakesStorage b k d (layout.Chunked tree sizes) start count ts = TakesChunks b k d tree sizes start count ts

-- ---- a line

-- the dataset that a path leads to
abbrev pub LeadsTo : Full → List Name → DataAt → Type 0
LeadsTo t p d = walk t p ≡ Ok (Leaf (DataLeaf d))

-- the commands that may take blocks
abbrev pub is_taking : Command → Bool
is_taking (command.Mkgroup p) = true
is_taking (command.Mkdata p elem dims chunk max fill) = true
is_taking (command.Write p start count values) = true
is_taking (command.Read p start count) = false
is_taking (command.Ls p) = false
is_taking (command.Stat p) = false
is_taking (command.Extend p dims) = false
is_taking (command.Rm p) = false
is_taking command.Flush = false
is_taking (command.Commit comment) = false

-- What a line that the tree doesn't refuse takes: a list of blocks by class, each to be rounded up to a multiple of 8.
abbrev pub Takes : Array → Ks → Full → Command → List Take → Type 0
Takes b ks t (command.Mkgroup p) ts = TakesObject b ks t p (group_takes ks) ts
Takes b ks t (command.Mkdata p elem dims chunk max fill) ts =
    TakesObject b ks t p (new_data_takes elem dims chunk max fill) ts
Takes b ks t (command.Write p start count values) ts =
    (d : DataAt) × LeadsTo t p d × TakesStorage b ks.chunk d d.info.layout start count ts
Takes b ks t c ts = ts ≡ []
