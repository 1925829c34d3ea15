-- When what is kept are the first messages of a header, and which object a header's messages make, by the HDF5 File
-- Format Specification 3.0, IV.A.2.
-- Cited by `Messages`, and by what reads object headers.
use Rattle.std.specs.Prelude.{◌≡◌, ℕ, List}
use Rattle.dtype.specs.Types.{size_of}
use Rattle.file_model.specs.Headers.{Met}
use Rattle.file_model.specs.Objects.{first_of, has, fill_bytes, DataInfo, IsGroupHeader, IsDataHeader, IsOtherHeader}
use Rattle.header_reader.specs.Firsts.{Firsts}
use Rattle.tree_nodes.specs.declared.node.Node.{Node}
use Rattle.tree_nodes.specs.declared.node.Node.TheVariants.{Group, Dataset, Soft, Other}

-- What is kept is the first of these messages of each type.
pub record Gathers (kept : Firsts) (ms : List Met) : Type 0 where
  pub space : kept.space ≡ first_of 0x1 ms
  pub elem : kept.elem ≡ first_of 0x3 ms
  pub fill : kept.fill ≡ first_of 0x5 ms
  pub layout : kept.layout ≡ first_of 0x8 ms
  pub table : kept.table ≡ first_of 0x11 ms
  pub old_fill : kept.old_fill ≡ has 0x4 ms
  pub files : kept.files ≡ has 0x7 ms
  pub filters : kept.filters ≡ has 0xB ms

-- The messages make this object at an address; a soft link is none.
abbrev pub MakesNode : List Met → ℕ → Node → Type 0
MakesNode ms at (Group header tree heap) = (header ≡ at) × IsGroupHeader ms tree heap
MakesNode ms at (Dataset header shape elem fill layout filtered) =
    (header ≡ at) × (i : DataInfo) × IsDataHeader ms i × (i.shape ≡ shape) × (i.elem ≡ elem) × (i.layout ≡ layout)
    × (i.filtered ≡ filtered)
    × (fill_bytes (size_of elem) fill ≡ i.fill)
MakesNode ms at (Soft text) = ⊥
MakesNode ms at (Other header) = (header ≡ at) × IsOtherHeader ms
