-- What is kept of the messages of an object header, by the HDF5 File Format Specification 3.0, IV.A.2: of several
-- messages of one type the first met counts.
-- Cited by `Messages`, and by what says which object they make.
use Rattle.std.specs.Prelude.{Bool, Option}
use Rattle.file_model.specs.Headers.{Met}

-- The first message of each type whose data are read, and whether one was met of each type that makes a difference by
-- being there: an old fill value, external files, a filter pipeline.
pub record Firsts : Type 0 where
  pub space : Option Met
  pub elem : Option Met
  pub fill : Option Met
  pub layout : Option Met
  pub table : Option Met
  pub old_fill : Bool
  pub files : Bool
  pub filters : Bool
