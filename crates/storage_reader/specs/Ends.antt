-- The first and the last offset of a list of chunks.
-- Cited by the functions that read a chunk index.
use Rattle.std.specs.Prelude.{◌≡◌, ℕ, List, [], ◌∷◌, ◌++◌, Option, Some, None}
use Rattle.outside.specs.Blocks.{Block}
use Rattle.file_model.specs.Chunks.{Chunk, AreAscending}
use Rattle.storage_reader.specs.declared.ends.Ends.{Ends}

-- the chunks begin with one of this offset, and end with one of that
pub record AreEnds (first last : List ℕ) (cs : List Chunk) : Type 0 where
  pub head : Chunk
  pub tail : List Chunk
  pub begins : cs ≡ head ∷ tail
  pub first_is : head.offset ≡ first
  pub front : List Chunk
  pub final : Chunk
  pub finishes : cs ≡ front ++ final ∷ []
  pub last_is : final.offset ≡ last

-- there are no ends where there is no chunk
abbrev pub HaveEnds : Option Ends → List Chunk → Type 0
HaveEnds None cs = cs ≡ []
HaveEnds (Some e) cs = AreEnds e.first e.last cs

-- the chunks ascend, from the first to the last of these ends
pub record AreSpanned (ends : Option Ends) (cs : List Chunk) : Type 0 where
  pub ordered : AreAscending cs
  pub ends_are : HaveEnds ends cs

-- a part with these blocks has chunks that ascend from the first to the last of these ends
pub record Spans (Part : List Chunk → List Block → Type 0) (ends : Option Ends) (bs : List Block) : Type 0 where
  pub chunks : List Chunk
  pub part : Part chunks bs
  pub spanned : AreSpanned ends chunks
