-- The header of a new group or dataset: which values have one, which bytes are written, and what it means that bytes
-- spell it, by the HDF5 File Format Specification 3.0, IV.A. Cited by `write_header`, and by what makes objects.
use Rattle.std.specs.Prelude.{◌≡◌, ℕ, ◌+◌, ◌-◌, ◌%◌, ◌^◌, ◌≤◌, ◌<◌, List, [], ◌∷◌, ◌++◌, length, replicate, flat_map}
use Rattle.std.specs.Int.{w16, w32, w64, to_le_bytes}
use Rattle.h5_base.specs.Fields.{bytes_at, u64_at}
use Rattle.dtype.specs.declared.types.Shape.{Shape}
use Rattle.dtype.specs.declared.types.ElemType.{ElemType}
use Rattle.dtype.specs.Shapes.{IsShape, SpellsShape, shape_bytes}
use Rattle.dtype.specs.Types.{IsElemType, SpellsType, type_bytes}
use Rattle.header_codec.specs.declared.types.Fill.{Fill}
use Rattle.header_codec.specs.declared.types.Fill.TheVariants.{Zeros, Value}
use Rattle.header_codec.specs.declared.types.Layout.{Layout}
use Rattle.header_codec.specs.declared.types.Layout.TheVariants.{Contiguous, Chunked}
use Rattle.header_codec.specs.declared.types.NewHeader.{NewHeader}
use Rattle.header_codec.specs.declared.types.NewHeader.TheVariants.{Group, Dataset}
use Rattle.header_codec.specs.Headers.{SpellsPrefix, SpellsMessage}
use Rattle.header_codec.specs.Fills.{SpellsFill}
use Rattle.header_codec.specs.Layouts.{SpellsLayout, IsChunk}

-- ---- which values have a header

-- no value, or one of some bytes that fit a message
abbrev pub IsFillValue : Fill → Type 0
IsFillValue Zeros = Unit {0}
IsFillValue (Value v) = (1 ≤ length v) × (length v ≤ 65520)

abbrev pub IsLayout : Layout → Type 0
IsLayout (Contiguous at len) = Unit {0}
IsLayout (Chunked tree sizes) = IsChunk sizes

pub record IsDataset (space : Shape) (elem : ElemType) (fill : Fill) (layout : Layout) : Type 0 where
  pub space_is : IsShape space
  pub elem_is : IsElemType elem
  pub fill_is : IsFillValue fill
  pub layout_is : IsLayout layout

abbrev pub HasHeader : NewHeader → Type 0
HasHeader (Group tree heap) = Unit {0}
HasHeader (Dataset space elem fill layout) = IsDataset space elem fill layout

-- ---- what bytes mean

-- a message, by its type and its data
pub record NewMessage : Type 0 where
  pub kind : ℕ
  pub body : List ℕ

-- These messages, their flags 0, stand one behind the other from there to the end of the bytes.
abbrev pub StandToEnd : List ℕ → ℕ → List NewMessage → Type 0
StandToEnd b at [] = at ≡ length b
StandToEnd b at (p ∷ ps) =
    SpellsMessage (record { kind = p.kind; flags = 0; at = at + 8; len = length p.body }) b at
    × (bytes_at b (at + 8) (length p.body) ≡ p.body) × StandToEnd b (at + 8 + length p.body) ps

-- a symbol table message: B-tree address 8, heap address 8 (IV.A.2.r)
pub record SpellsTable (tree heap : ℕ) (b : List ℕ) : Type 0 where
  pub whole : 16 ≤ length b
  pub tree_at : tree ≡ u64_at b 0
  pub heap_at : heap ≡ u64_at b 8

-- Just the messages of this group or dataset, in the order of their types.
abbrev pub Tell : NewHeader → List NewMessage → Type 0
Tell (Group tree heap) (t ∷ []) = (t.kind ≡ 0x11) × SpellsTable tree heap t.body
Tell (Dataset space elem fill layout) (s ∷ e ∷ f ∷ l ∷ []) =
    (s.kind ≡ 1) × SpellsShape space s.body × (e.kind ≡ 3) × SpellsType elem e.body × (f.kind ≡ 5)
    × SpellsFill fill f.body × (l.kind ≡ 8) × SpellsLayout layout l.body
Tell _ _ = ⊥

-- The bytes are the whole header of an object that one link names, its messages these.
pub record SpellsHeader (h : NewHeader) (parts : List NewMessage) (b : List ℕ) : Type 0 where
  pub prefix : SpellsPrefix (record { messages = length parts; links = 1; size = length b - 16 }) b
  pub messages : StandToEnd b 16 parts
  pub told : Tell h parts

-- ---- which bytes are written

-- how many zeros fill so many bytes up to a multiple of 8
abbrev pub padding : ℕ → ℕ
padding n = (8 - n % 8) % 8

abbrev pub filled : List ℕ → List ℕ
filled body = body ++ replicate (padding (length body)) 0

abbrev pub part : ℕ → List ℕ → NewMessage
part type body = record { kind = type; body = filled body }

-- a message whose type and size fit their fields
pub record IsFit (p : NewMessage) : Type 0 where
  pub kind : p.kind < 2 ^ 16
  pub size : length p.body < 2 ^ 16
  pub multiple : length p.body % 8 ≡ 0

-- what is reserved is 0
abbrev pub message_bytes : NewMessage → List ℕ
message_bytes p = to_le_bytes w16 p.kind ++ to_le_bytes w16 (length p.body) ++ replicate 4 0 ++ p.body

abbrev pub prefix_bytes : (count size : ℕ) → List ℕ
prefix_bytes count size = (1 ∷ 0 ∷ []) ++ to_le_bytes w16 count ++ to_le_bytes w32 1 ++ to_le_bytes w32 size ++
    replicate 4 0

abbrev pub messages_bytes : List NewMessage → List ℕ
messages_bytes parts = flat_map message_bytes parts

abbrev pub table_bytes : (tree heap : ℕ) → List ℕ
table_bytes tree heap = to_le_bytes w64 tree ++ to_le_bytes w64 heap

abbrev pub value_bytes : Fill → List ℕ
value_bytes Zeros = []
value_bytes (Value v) = v

-- storage is taken late for a contiguous dataset, and chunk by chunk for a chunked one
abbrev pub alloc_time : Layout → ℕ
alloc_time (Contiguous at len) = 2
alloc_time (Chunked tree sizes) = 3

-- a value that is defined, of no bytes where it is zeros; write time 2
abbrev pub fill_bytes : (time : ℕ) → (value : List ℕ) → List ℕ
fill_bytes time value = (2 ∷ time ∷ 2 ∷ 1 ∷ []) ++ to_le_bytes w32 (length value) ++ value

abbrev pub layout_bytes : Layout → List ℕ
layout_bytes (Contiguous at len) = (3 ∷ 1 ∷ []) ++ to_le_bytes w64 at ++ to_le_bytes w64 len
layout_bytes (Chunked tree sizes) = (3 ∷ 2 ∷ length sizes ∷ []) ++ to_le_bytes w64 tree ++ flat_map
    (to_le_bytes w32) sizes

-- the messages that are written
abbrev pub parts_of : NewHeader → List NewMessage
parts_of (Group tree heap) = part 0x11 (table_bytes tree heap) ∷ []
parts_of (Dataset space elem fill layout) =
    part 1 (shape_bytes space) ∷ part 3 (type_bytes elem) ∷ part 5
    (fill_bytes (alloc_time layout) (value_bytes fill)) ∷ part 8 (layout_bytes layout) ∷ []

abbrev pub header_bytes : NewHeader → List ℕ
header_bytes h = prefix_bytes (length (parts_of h)) (length (messages_bytes (parts_of h))) ++ messages_bytes
    (parts_of h)
