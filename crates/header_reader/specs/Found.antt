-- What is found where an object's header is, and the blocks that hold it, by the HDF5 File Format Specification 3.0,
-- IV.A. Cited by `read_header`, and by what reads the objects of a file.
use Rattle.std.specs.Prelude.{◌≡◌, ℕ, ◌≤◌, List, [], ◌∷◌}
use Rattle.header_codec.specs.declared.types.Prefix.{Prefix}
use Rattle.outside.specs.Array.{Array, bytes_of}
use Rattle.outside.specs.Blocks.{Block}
use Rattle.file_model.specs.Headers.{Part, IsHeader, messages_of, header_blocks, later_header}
use Rattle.file_model.specs.Limits.{header_bytes, most_header}
use Rattle.header_reader.specs.Gathered.{MakesNode}
use Rattle.header_reader.specs.Told.{IsSoundNode}
use Rattle.header_reader.specs.declared.reading.Header.{Header}
use Rattle.header_reader.specs.declared.reading.Header.TheVariants.{Later, Known}

-- a header of a later version, of which 4 bytes are read; or one of version 1 with its continuations, of few enough
-- bytes
abbrev pub IsFound : Array → ℕ → Header → List Block → Type 0
IsFound b at Later bs = (bytes_of b at 4 ≡ later_header) × (bs ≡ record { start = at; len = 4 } ∷ [])
IsFound b at (Known node) bs =
    (prefix : Prefix) × (parts : List Part) × IsHeader b at prefix parts × MakesNode (messages_of parts) at node
    × (bs ≡ header_blocks at prefix parts)
    × (header_bytes at prefix parts ≤ most_header)

-- The parts of a dataset fit one another.
abbrev pub IsSoundHeader : Header → Type 0
IsSoundHeader Later = Unit {0}
IsSoundHeader (Known node) = IsSoundNode node
