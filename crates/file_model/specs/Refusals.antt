-- Why an object's header is refused: by bytes that are reached once all before them was read, beside the blocks that
-- were met before. Cited by what opens a file.
use Rattle.std.specs.Prelude.{◌≡◌, ◌≢◌, ℕ, ◌+◌, ◌^◌, ◌<◌, ◌≤◌, List, [], ◌∷◌, ◌++◌, length, All}
use Rattle.std.specs.List.{sum_by}
use Rattle.outside.specs.Array.{Array, bytes_of}
use Rattle.outside.specs.Blocks.{Block, Bounds, IsBlockRefused, IsPlacedRefused, AreTaken}
use Rattle.h5_base.specs.declared.refusal.Refusal.{Refusal}
use Rattle.h5_base.specs.declared.refusal.Refusal.TheVariants.{Malformed, Unsupported}
use Rattle.h5_base.specs.declared.kinds.BlockKind.TheVariants as kind
use Rattle.h5_base.specs.declared.kinds.What.TheVariants as what
use Rattle.h5_base.specs.Fields.{u64_at}
use Rattle.header_codec.specs.Headers.{SpellsPrefix}
use Rattle.header_codec.specs.declared.types.Prefix.{Prefix}
use Rattle.file_model.specs.Headers.{Met, after, Part, IsMet, IsAtEnd, AreMet, first_block, messages_of}
use Rattle.file_model.specs.Headers.{header_blocks, later_header}
use Rattle.file_model.specs.Limits.{most_header}

-- ---- an object's header

-- all bytes of a header with its continuations, as far as they were met
abbrev pub met_bytes : List Block → ℕ
met_bytes = sum_by (λ x. x.len)

-- the blocks of a header as far as its messages were met
abbrev pub so_far : ℕ → Prefix → List Part → Block → List Met → List Block
so_far at prefix parts block ms = header_blocks at prefix (parts ++ record { block = block; messages = ms } ∷ [])

-- The blocks of a header as far as they were met are taken, and within the limit.
pub record AreHeaderBlocks (e : Bounds) (met own : List Block) : Type 0 where
  pub taken : AreTaken e met own
  pub short : met_bytes own ≤ most_header

-- Some messages of a block were read, after all of the blocks before it, and more are wanted.
pub record IsReading (b : Array) (e : Bounds) (met : List Block) (at : ℕ) (prefix : Prefix) (parts : List Part)
    (block : Block) (ms : List Met) : Type 0 where
  pub left : List Block
  pub before : AreMet b (first_block at prefix) parts (block ∷ left)
  pub ended : All (IsAtEnd b) parts
  pub here : IsMet b (record { block = block; messages = ms })
  pub more : length (messages_of parts ++ ms) < prefix.messages
  pub blocks : AreHeaderBlocks e met (so_far at prefix parts block ms)

-- the next message: it stands behind these, and has its two numbers where its type wants them
abbrev pub IsNext : Array → Block → List Met → Met → Type 0
IsNext b block ms m = IsMet b (record { block = block; messages = ms ++ m ∷ [] })

-- Where all blocks of a header were read, fewer messages were met than its prefix counts.
pub record IsCutShort (b : Array) (e : Bounds) (met : List Block) (at : ℕ) (prefix : Prefix)
    (parts : List Part) : Type 0 where
  pub all : AreMet b (first_block at prefix) parts []
  pub ended : All (IsAtEnd b) parts
  pub fewer : length (messages_of parts) < prefix.messages
  pub blocks : AreHeaderBlocks e met (header_blocks at prefix parts)

-- A message, or the block that a continuation names, is refused, the limit on all bytes of the header before the block
-- itself; or the blocks end before so many messages were met as the prefix counts.
pub data IsMessageRefused (b : Array) (e : Bounds) (met : List Block) (at : ℕ) (prefix : Prefix)
    (r : Refusal) : Type 0 where
  EndedEarly : (parts : List Part) → IsCutShort b e met at prefix parts → r ≡ Malformed at kind.Header
      → IsMessageRefused b e met at prefix r
  BadMessage : (parts : List Part) (block : Block) (ms : List Met) → IsReading b e met at prefix parts block ms
      → after 0 ms + 8 ≤ block.len
      → ((m : Met) → IsNext b block ms m → ⊥) → r ≡ Malformed (block.start + after 0 ms) kind.Message
      → IsMessageRefused b e met at prefix r
  LargeHeader : (parts : List Part) (block : Block) (ms : List Met) (m : Met)
      → IsReading b e met at prefix parts block ms → IsNext b block ms m
      → most_header < met_bytes (so_far at prefix parts block (ms ++ m ∷ [])) → r ≡ Unsupported what.Header
      → IsMessageRefused b e met at prefix r
  BadContinuation : (parts : List Part) (block : Block) (ms : List Met) (m : Met)
      → IsReading b e met at prefix parts block ms → IsNext b block ms m → m.kind ≡ 0x10
      → met_bytes (so_far at prefix parts block (ms ++ m ∷ [])) ≤ most_header
      → IsPlacedRefused e (met ++ so_far at prefix parts block ms) (u64_at m.body 0) (u64_at m.body 8) kind.Header r
      → IsMessageRefused b e met at prefix r

-- The header of an object is refused: by the 4 bytes of a later version; where there is no prefix, by the block of 16
-- bytes that it would have, or since they spell none; else by its size, by its block, or in its messages.
pub data IsHeaderRefused (b : Array) (e : Bounds) (met : List Block) (at : ℕ) (r : Refusal) : Type 0 where
  LaterHeader : bytes_of b at 4 ≡ later_header → IsBlockRefused e met (record { start = at; len = 4 }) kind.Header r
      → IsHeaderRefused b e met at r
  PrefixBlock : bytes_of b at 4 ≢ later_header
      → (at + 16 ≤ 2 ^ 64 → (p : Prefix) → SpellsPrefix p (bytes_of b at 16) → ⊥)
      → IsBlockRefused e met (record { start = at; len = 16 }) kind.Header r → IsHeaderRefused b e met at r
  NoPrefix : bytes_of b at 4 ≢ later_header → ((p : Prefix) → SpellsPrefix p (bytes_of b at 16) → ⊥)
      → AreTaken e met (record { start = at; len = 16 } ∷ [])
      → r ≡ Malformed at kind.Header → IsHeaderRefused b e met at r
  LargeFirst : (prefix : Prefix) → at + 16 ≤ 2 ^ 64 → SpellsPrefix prefix (bytes_of b at 16)
      → most_header < 16 + prefix.size
      → r ≡ Unsupported what.Header → IsHeaderRefused b e met at r
  HeaderBlock : (prefix : Prefix) → at + 16 ≤ 2 ^ 64 → SpellsPrefix prefix (bytes_of b at 16)
      → 16 + prefix.size ≤ most_header
      → IsBlockRefused e met (record { start = at; len = 16 + prefix.size }) kind.Header r
      → IsHeaderRefused b e met at r
  InMessages : (prefix : Prefix) → SpellsPrefix prefix (bytes_of b at 16) → 16 + prefix.size ≤ most_header
      → IsMessageRefused b e met at prefix r → IsHeaderRefused b e met at r
