-- Which dataset the elements are of.
-- Cited by what takes what is stored of a dataset into the catalogue.
use Rattle.std.specs.Prelude.{◌≡◌}
use Rattle.file_model.specs.Objects.{DataInfo}
use Rattle.storage_reader.specs.declared.storage.Elements.{Elements}

-- these are the parts of the dataset
pub record AreOf (i : DataInfo) (e : Elements) : Type 0 where
  pub shape : i.shape ≡ e.shape.now
  pub elem : i.elem ≡ e.elem
  pub layout : i.layout ≡ e.layout.now
  pub filtered : i.filtered ≡ e.filtered
