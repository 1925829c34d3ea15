-- What an object is, by the messages of its header: a group, a dataset or another object (HDF5 File Format
-- Specification 3.0, IV.A.2.b, d, e, f, h, i, l and r). Cited by what a file's bytes hold.
use Rattle.std.specs.Prelude.{◌≡◌, ℕ, ◌/◌, ◌%◌, ◌==◌, Bool, false, List, [], ◌∷◌, length, replicate, Option, Some, None}
use Rattle.std.specs.Prelude.{is_some, unwrap_or, if◌then◌else◌}
use Rattle.h5_base.specs.Fields.{u64_at}
use Rattle.dtype.specs.Products.{FitsFile}
use Rattle.dtype.specs.Shapes.{SpellsShape}
use Rattle.dtype.specs.Types.{SpellsType, size_of}
use Rattle.dtype.specs.declared.types.ElemType.{ElemType}
use Rattle.dtype.specs.declared.types.Shape.{Shape}
use Rattle.header_codec.specs.Fills.{SpellsFill, IsOfSize}
use Rattle.header_codec.specs.Layouts.{SpellsLayout, IsOfShape}
use Rattle.header_codec.specs.declared.types.Fill.{Fill}
use Rattle.header_codec.specs.declared.types.Fill.TheVariants as fill
use Rattle.header_codec.specs.declared.types.Layout.{Layout}
use Rattle.file_model.specs.Headers.{Met}

-- of several messages of one type the first met counts
abbrev pub first_of : ℕ → List Met → Option Met
first_of kind [] = None
first_of kind (m ∷ ms) = if m.kind == kind then Some m else first_of kind ms

abbrev pub has : ℕ → List Met → Bool
has kind ms = is_some (first_of kind ms)

-- bit 1 of the flags: the message stands elsewhere, and is shared
abbrev pub is_shared : Met → Bool
is_shared m = m.flags / 2 % 2 == 1

-- the first message of a type, not shared
pub record IsFirst (kind : ℕ) (ms : List Met) (m : Met) : Type 0 where
  pub first : first_of kind ms ≡ Some m
  pub here : is_shared m ≡ false

-- a symbol table message makes a group, with its B-tree and its heap
pub record IsGroupHeader (ms : List Met) (tree heap : ℕ) : Type 0 where
  pub table : Met
  pub first : first_of 0x11 ms ≡ Some table
  pub tree_at : tree ≡ u64_at table.body 0
  pub heap_at : heap ≡ u64_at table.body 8

-- what the messages of a dataset tell
pub record DataInfo : Type 0 where
  pub shape : Shape
  pub elem : ElemType
  pub fill : List ℕ
  pub layout : Layout
  pub filtered : Bool

-- the element that was never written
abbrev pub fill_bytes : ℕ → Fill → List ℕ
fill_bytes size fill.Zeros = replicate size 0
fill_bytes size (fill.Value bytes) = bytes

-- by the fill value message, and zeros where there is neither this nor the old one
abbrev pub HasFill : List Met → ℕ → Option Met → List ℕ → Type 0
HasFill ms size None bytes = (has 0x4 ms ≡ false) × (bytes ≡ replicate size 0)
HasFill ms size (Some m) bytes = (is_shared m ≡ false)
    × ((f : Fill) × SpellsFill f m.body × IsOfSize size f × (bytes ≡ fill_bytes size f))

-- Dataspace, datatype and layout that are supported and fit one another, a fill value of the element's size, no
-- external files. A filter pipeline makes it a filtered dataset.
pub record IsDataHeader (ms : List Met) (i : DataInfo) : Type 0 where
  pub no_table : has 0x11 ms ≡ false
  pub no_files : has 0x7 ms ≡ false
  pub space : (m : Met) × IsFirst 0x1 ms m × SpellsShape i.shape m.body
  pub type : (m : Met) × IsFirst 0x3 ms m × SpellsType i.elem m.body
  pub layout : (m : Met) × IsFirst 0x8 ms m × SpellsLayout i.layout m.body
  pub fill : HasFill ms (size_of i.elem) (first_of 0x5 ms) i.fill
  pub fits : FitsFile i.shape.dims (size_of i.elem)
  pub stored : IsOfShape (length i.shape.dims) (size_of i.elem) i.layout
  pub filtered : i.filtered ≡ has 0xB ms

-- neither a group nor a dataset
pub record IsOtherHeader (ms : List Met) : Type 0 where
  pub no_table : has 0x11 ms ≡ false
  pub no_data : (i : DataInfo) → IsDataHeader ms i → ⊥

-- maximum sizes where none are given are the sizes
abbrev pub max_of : Shape → List ℕ
max_of s = unwrap_or s.max s.dims
