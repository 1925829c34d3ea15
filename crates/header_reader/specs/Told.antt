-- What the first messages of a header tell of a dataset, by the HDF5 File Format Specification 3.0, IV.A.2.b, d, e, f,
-- h and i. Cited by what reads them.
use Rattle.std.specs.Prelude.{◌≡◌, ℕ, Bool, false, List, Option, Some, None, length}
use Rattle.dtype.specs.Products.{FitsFile}
use Rattle.dtype.specs.Shapes.{IsShape, SpellsShape}
use Rattle.dtype.specs.Types.{IsElemType, SpellsType, size_of}
use Rattle.dtype.specs.declared.types.ElemType.{ElemType}
use Rattle.dtype.specs.declared.types.Shape.{Shape}
use Rattle.header_codec.specs.Fills.{SpellsFill, IsOfSize}
use Rattle.header_codec.specs.Layouts.{SpellsLayout, IsOfShape}
use Rattle.header_codec.specs.Written.{IsLayout}
use Rattle.header_codec.specs.declared.types.Fill.{Fill}
use Rattle.header_codec.specs.declared.types.Fill.TheVariants as fill
use Rattle.header_codec.specs.declared.types.Layout.{Layout}
use Rattle.file_model.specs.Headers.{Met}
use Rattle.file_model.specs.Objects.{is_shared}
use Rattle.header_reader.specs.Firsts.{Firsts}
use Rattle.tree_nodes.specs.declared.node.Node.{Node}
use Rattle.tree_nodes.specs.declared.node.Node.TheVariants as node

-- The message is there, isn't shared, and its data spell this.
abbrev pub Tells : {A : Type 0} → (A → List ℕ → Type 0) → Option Met → A → Type 0
Tells Spells None a = ⊥
Tells Spells (Some m) a = (is_shared m ≡ false) × Spells a m.body

-- the fill value of elements of so many bytes: zeros where there is no message of it, and none of the old kind
abbrev pub TellsFill : (old_fill : Bool) → ℕ → Option Met → Fill → Type 0
TellsFill old_fill size None f = (old_fill ≡ false) × (f ≡ fill.Zeros)
TellsFill old_fill size (Some m) f = (is_shared m ≡ false) × SpellsFill f m.body × IsOfSize size f

-- These parts fit one another.
pub record Fit (shape : Shape) (elem : ElemType) (layout : Layout) : Type 0 where
  pub fits : FitsFile shape.dims (size_of elem)
  pub stored : IsOfShape (length shape.dims) (size_of elem) layout

-- The parts of a dataset that can be read: they fit one another, and a header can tell each of them.
pub record IsSoundData (shape : Shape) (elem : ElemType) (fill : Fill) (layout : Layout) : Type 0 where
  pub fit : Fit shape elem layout
  pub shape_is : IsShape shape
  pub elem_is : IsElemType elem
  pub fill_is : IsOfSize (size_of elem) fill
  pub layout_is : IsLayout layout

-- the parts of a node that is a dataset
abbrev pub IsSoundNode : Node → Type 0
IsSoundNode (node.Group header tree heap) = Unit {0}
IsSoundNode (node.Dataset header shape elem fill layout filtered) = IsSoundData shape elem fill layout
IsSoundNode (node.Soft text) = Unit {0}
IsSoundNode (node.Other header) = Unit {0}

-- These are the parts of a dataset.
pub record AreParts (kept : Firsts) (shape : Shape) (elem : ElemType) (fill : Fill) (layout : Layout) : Type 0 where
  pub no_files : kept.files ≡ false
  pub space : Tells SpellsShape kept.space shape
  pub type : Tells SpellsType kept.elem elem
  pub stored : Tells SpellsLayout kept.layout layout
  pub filled : TellsFill kept.old_fill (size_of elem) kept.fill fill
  pub fit : Fit shape elem layout

-- a dataset whose header stands at this address, with these parts
abbrev pub TellsData : Firsts → ℕ → Node → Type 0
TellsData kept at (node.Group header tree heap) = ⊥
TellsData kept at (node.Dataset header shape elem fill layout filtered) = (header ≡ at)
    × AreParts kept shape elem fill layout × (filtered ≡ kept.filters)
TellsData kept at (node.Soft text) = ⊥
TellsData kept at (node.Other header) = ⊥
