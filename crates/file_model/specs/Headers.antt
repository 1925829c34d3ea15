-- The messages of an object header of version 1, in the order met, by the HDF5 File Format Specification 3.0, IV.A.1.a,
-- IV.A.2 and IV.A.2.q (continuations).
-- Cited by what says which object a header is.
use Rattle.std.specs.Prelude.{◌≡◌, ℕ, ◌+◌, ◌≤◌, ◌<◌, ◌==◌, ◌⊎◌, List, [], ◌∷◌, ◌++◌, length, map, All}
use Rattle.std.specs.Prelude.{if◌then◌else◌}
use Rattle.std.specs.List.{flat_map}
use Rattle.outside.specs.Array.{Array, bytes_of}
use Rattle.h5_base.specs.Fields.{bytes_at, u64_at}
use Rattle.header_codec.specs.Headers.{SpellsPrefix, SpellsMessage}
use Rattle.header_codec.specs.declared.types.Prefix.{Prefix}
use Rattle.outside.specs.Blocks.{Block, placed}

-- a message that was met: its type, its flags, its data, and the address at which these stand
pub record Met : Type 0 where
  pub kind : ℕ
  pub flags : ℕ
  pub at : ℕ
  pub body : List ℕ

-- The messages stand one behind the other, from a place on, in the bytes of a block that begins at an address.
abbrev pub Stand : (start : ℕ) → List ℕ → (place : ℕ) → List Met → Type 0
Stand start bytes place [] = Unit {0}
Stand start bytes place (m ∷ ms) =
    SpellsMessage (record { kind = m.kind; flags = m.flags; at = place + 8; len = length m.body }) bytes place
    × (m.at ≡ start + place + 8) × (m.body ≡ bytes_at bytes (place + 8) (length m.body))
    × Stand start bytes (place + 8 + length m.body) ms

-- where they end
abbrev pub after : ℕ → List Met → ℕ
after place [] = place
after place (m ∷ ms) = after (place + 8 + length m.body) ms

-- A symbol table message and a continuation have their two numbers.
abbrev pub IsWhole : Met → Type 0
IsWhole m = (m.kind ≡ 0x10) ⊎ (m.kind ≡ 0x11) → 16 ≤ length m.body

abbrev pub AreWhole : List Met → Type 0
AreWhole [] = Unit {0}
AreWhole (m ∷ ms) = IsWhole m × AreWhole ms

-- the block of further messages that a continuation names
abbrev pub continued : Met → List Block
continued m = if m.kind == 0x10 then placed (u64_at m.body 0) (u64_at m.body 8) else []

-- a block of messages, with those that are read there
pub record Part : Type 0 where
  pub block : Block
  pub messages : List Met

-- the messages in the order met
abbrev pub messages_of : List Part → List Met
messages_of = flat_map (λ p. p.messages)

abbrev pub blocks_of_parts : List Part → List Block
blocks_of_parts = map (λ p. p.block)

-- the bytes of a part
abbrev pub part_bytes : Array → Part → List ℕ
part_bytes b p = bytes_of b p.block.start p.block.len

-- The messages of a part stand in its block, each whole.
pub record IsMet (b : Array) (p : Part) : Type 0 where
  pub stand : Stand p.block.start (part_bytes b p) 0 p.messages
  pub whole : AreWhole p.messages

-- too few bytes for one more message follow
abbrev pub IsAtEnd : Array → Part → Type 0
IsAtEnd b p = length (part_bytes b p) < after 0 p.messages + 8

-- The block of each part is the next one of those that the header's first block and the messages of the parts before it
-- name.
abbrev pub AreNamed : Block → List Part → Type 0
AreNamed first parts = (before later : List Part) (p : Part) → parts ≡ before ++ p ∷ later → (more : List Block)
    × (first ∷ flat_map continued (messages_of before) ≡ blocks_of_parts before ++ p.block ∷ more)

-- These parts of a header were met, whose first block of messages this is, and the blocks `left` are named and not
-- read.
pub record AreMet (b : Array) (first : Block) (parts : List Part) (left : List Block) : Type 0 where
  pub named : AreNamed first parts
  pub rest : first ∷ flat_map continued (messages_of parts) ≡ blocks_of_parts parts ++ left
  pub met : All (IsMet b) parts

-- As many messages were met as are counted: each part but the last was read to its end, and the last has a message.
pub record AreCounted (b : Array) (count : ℕ) (parts : List Part) : Type 0 where
  pub number : length (messages_of parts) ≡ count
  pub ended : (before later : List Part) (p q : Part) → parts ≡ before ++ p ∷ q ∷ later → IsAtEnd b p
  pub some : (before : List Part) (p : Part) → parts ≡ before ++ p ∷ [] → 0 < length p.messages

-- the messages that follow the prefix
abbrev pub first_block : ℕ → Prefix → Block
first_block at prefix = record { start = at + 16; len = prefix.size }

-- The header of an object at an address: its prefix, and its messages, as many as the prefix counts.
pub record IsHeader (b : Array) (at : ℕ) (prefix : Prefix) (parts : List Part) : Type 0 where
  pub spelled : SpellsPrefix prefix (bytes_of b at 16)
  pub unread : List Block
  pub met : AreMet b (first_block at prefix) parts unread
  pub counted : AreCounted b prefix.messages parts

-- its blocks: the header with its first messages, and those that its continuations name
abbrev pub header_blocks : ℕ → Prefix → List Part → List Block
header_blocks at prefix parts = record { start = at; len = 16 + prefix.size } ∷ flat_map continued (messages_of parts)

-- `OHDR`: a header of version 2, which isn't read
abbrev pub later_header : List ℕ
later_header = 0x4F ∷ 0x48 ∷ 0x44 ∷ 0x52 ∷ []
