-- The limits that a line would pass by what it asks for, whatever blocks it takes.
-- Cited by what says when a line is answered `limit`.
use Rattle.std.specs.Prelude.{◌⊎◌, ℕ, ◌+◌, ◌*◌, ◌^◌, ◌<◌, IsTrue, List, length, Option, Some, None}
use Rattle.block_space.specs.Plans.{rounded}
use Rattle.dtype.specs.Products.{product}
use Rattle.dtype.specs.Types.{size_of}
use Rattle.dtype.specs.declared.types.ElemType.{ElemType}
use Rattle.dtype.specs.declared.types.Value.{Value}
use Rattle.header_codec.specs.declared.types.Layout.{Layout}
use Rattle.header_codec.specs.declared.types.Layout.TheVariants as layout
use Rattle.object_model.specs.declared.command.Command.{Command}
use Rattle.object_model.specs.declared.command.Command.TheVariants as command
use Rattle.object_model.specs.Tree.{Name}
use Rattle.file_model.specs.Holds.{DataAt, Full}
use Rattle.file_model.specs.Limits.{most_depth, most_objects, objects_of}
use Rattle.session_model.specs.Room.{LeadsTo, data_len, is_first_write}

-- the dimensions of a dataset that is made
abbrev pub most_rank : ℕ
most_rank = 32

-- a dataset made or extended, whole, in bytes
abbrev pub most_data : ℕ
most_data = 2 ^ 40

-- a contiguous dataset made or first written, in bytes
abbrev pub most_contiguous : ℕ
most_contiguous = 2 ^ 30

-- a chunk of a dataset that is made, in bytes
abbrev pub most_chunk : ℕ
most_chunk = 2 ^ 24

-- the data of a fill value's message: the greatest multiple of 8 that its size field can tell
abbrev pub most_fill : ℕ
most_fill = 65528

-- the box of one read or write, in elements and in bytes
abbrev pub most_elements : ℕ
most_elements = 65536

abbrev pub most_box : ℕ
most_box = 1048576

-- one object more, at the end of a path: the root has depth 0
pub data IsObjectOver (t : Full) (p : List Name) : Type 0 where
  TooDeep : most_depth < length p → IsObjectOver t p
  TooMany : most_objects < objects_of t + 1 → IsObjectOver t p

-- the chunk that is asked for, if one is, or else the one block
abbrev pub IsChunkOver : ElemType → (dims : List ℕ) → Option (List ℕ) → Type 0
IsChunkOver elem dims None = most_contiguous < product dims * size_of elem
IsChunkOver elem dims (Some chunk) = most_chunk < product chunk * size_of elem

-- the message of the fill value that is asked for: 8 bytes and the value, filled up
abbrev pub IsFillOver : ElemType → Option Value → Type 0
IsFillOver elem None = ⊥
IsFillOver elem (Some v) = most_fill < rounded (8 + size_of elem)

-- a dataset that is made
pub data IsDataOver (elem : ElemType) (dims : List ℕ) (chunk : Option (List ℕ)) (fill : Option Value) : Type 0 where
  Rank : most_rank < length dims → IsDataOver elem dims chunk fill
  Whole : most_data < product dims * size_of elem → IsDataOver elem dims chunk fill
  Chunk : IsChunkOver elem dims chunk → IsDataOver elem dims chunk fill
  Fill : IsFillOver elem fill → IsDataOver elem dims chunk fill

-- a box that is read or written
pub data IsBoxOver (d : DataAt) (count : List ℕ) : Type 0 where
  Elements : most_elements < product count → IsBoxOver d count
  Bytes : most_box < product count * size_of d.info.elem → IsBoxOver d count

-- a dataset that is contiguous and is first written
abbrev pub IsFirstOver : DataAt → Layout → (count : List ℕ) → Type 0
IsFirstOver d (layout.Contiguous at len) count = IsTrue (is_first_write at count) × (most_contiguous < data_len d)
IsFirstOver d (layout.Chunked tree sizes) count = ⊥

-- The line asks for more than a limit admits.
abbrev pub IsTooLarge : Full → Command → Type 0
IsTooLarge t (command.Mkgroup p) = IsObjectOver t p
IsTooLarge t (command.Mkdata p elem dims chunk max fill) = IsObjectOver t p ⊎ IsDataOver elem dims chunk fill
IsTooLarge t (command.Write p start count values) =
    (d : DataAt) × LeadsTo t p d × (IsBoxOver d count ⊎ IsFirstOver d d.info.layout count)
IsTooLarge t (command.Read p start count) = (d : DataAt) × LeadsTo t p d × IsBoxOver d count
IsTooLarge t (command.Extend p dims) = (d : DataAt) × LeadsTo t p d × (most_data < product dims * size_of d.info.elem)
IsTooLarge t c = ⊥
