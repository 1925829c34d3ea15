-- Which form the chunks of a dataset have.
-- Cited by the functions that read a chunk index.
use Rattle.std.specs.Prelude.{◌≡◌, ◌+◌, length}
use Rattle.dtype.specs.Products.{product}
use Rattle.header_codec.specs.Layouts.{IsChunk}
use Rattle.storage_reader.specs.declared.form.Form.{Form}

-- the sizes are a chunk's, and rank and bytes are theirs
pub record IsForm (f : Form) : Type 0 where
  pub chunk : IsChunk f.sizes
  pub rank_is : length f.sizes ≡ f.rank + 1
  pub bytes_is : f.bytes ≡ product f.sizes
