-- How the messages of an object's header are met one after another, block by block, and why one of them is refused.
-- Cited by the functions that meet them.
use Rattle.std.specs.Prelude.{◌≡◌, ℕ, ◌+◌, ◌^◌, ◌<◌, ◌≤◌, ◌⊎◌, Bool, IsTrue, List, [], ◌∷◌, ◌++◌, length, map, All}
use Rattle.std.specs.List.{flat_map}
use Rattle.h5_base.specs.Fields.{u64_at}
use Rattle.h5_base.specs.declared.extent.Extent.{Extent}
use Rattle.h5_base.specs.declared.kinds.BlockKind.TheVariants as kind
use Rattle.h5_base.specs.declared.kinds.What.TheVariants as what
use Rattle.header_codec.specs.Headers.{SpellsPrefix}
use Rattle.header_codec.specs.declared.types.Prefix.{Prefix}
use Rattle.outside.specs.Array.{Array, bytes_of}
use Rattle.outside.specs.Blocks.{Block, Bounds}
use Rattle.file_model.specs.Headers.{Met, Stand, after, IsWhole, AreWhole, continued, Part, IsAtEnd, AreMet, AreCounted}
use Rattle.file_model.specs.Headers.{first_block, messages_of}
use Rattle.file_model.specs.Limits.{header_bytes, most_header}
use Rattle.h5_base.specs.declared.refusal.Refusal.{Refusal}
use Rattle.h5_base.specs.declared.refusal.Refusal.TheVariants.{Malformed, Unsupported}
use Rattle.outside.specs.Blocks.{AreTaken, IsPlacedRefused}
use Rattle.file_model.specs.Refusals.{met_bytes}
use Rattle.header_reader.specs.Firsts.{Firsts}
use Rattle.header_reader.specs.Gathered.{Gathers}
use Rattle.header_reader.specs.declared.walk.Walk.{Walk}

abbrev pub block_of : Extent → Block
block_of x = record { start = x.start; len = x.len }

-- the blocks that wait to be read
abbrev pub waiting_of : Walk → List Block
waiting_of walk = map block_of walk.waiting.items

-- From one state to another just these messages were met, and the blocks that they name wait.
pub record Meets (old new : Walk) (ms : List Met) : Type 0 where
  pub gathered : (before : List Met) → Gathers old.messages before → Gathers new.messages (before ++ ms)
  pub waiting : waiting_of new ≡ waiting_of old ++ flat_map continued ms
  pub wanted : new.wanted + length ms ≡ old.wanted
  pub total : new.total ≡ old.total + met_bytes (flat_map continued ms)
  pub short : new.total ≤ most_header

-- the block that a message of this type and with these data names
abbrev pub named_by : (kind : ℕ) → List ℕ → List Block
named_by kind body = continued (record { kind = kind; flags = 0; at = 0; body = body })

-- This message stands there, in a block that begins at an address, and has its two numbers where its type wants them.
pub record IsMessageAt (start : ℕ) (bytes : List ℕ) (place : ℕ) (m : Met) : Type 0 where
  pub stand : Stand start bytes place (m ∷ [])
  pub whole : IsWhole m

-- The messages of a block that begins at an address: as many as fit or are wanted.
pub record AreMessages (start : ℕ) (bytes : List ℕ) (wanted : ℕ) (ms : List Met) : Type 0 where
  pub stand : Stand start bytes 0 ms
  pub whole : AreWhole ms
  pub few : length ms ≤ wanted
  pub read : (length bytes < after 0 ms + 8) ⊎ (length ms ≡ wanted)

-- The block that a continuation names is refused, where blocks of so many bytes were met.
pub data IsNameRefused (e : Bounds) (met : List Block) (total start len : ℕ) (r : Refusal) : Type 0 where
  TooLarge : most_header < total + len → r ≡ Unsupported what.Header → IsNameRefused e met total start len r
  BadBlock : total + len ≤ most_header → IsPlacedRefused e met start len kind.Header r
      → IsNameRefused e met total start len r

-- The message at a place of a block is refused, or the block that it names, where blocks of so many bytes were met.
pub data IsStepRefused (e : Bounds) (met : List Block) (total start : ℕ) (bytes : List ℕ) (place : ℕ)
    (r : Refusal) : Type 0 where
  BadMessage : ((m : Met) → IsMessageAt start bytes place m → ⊥) → r ≡ Malformed (start + place) kind.Message
      → IsStepRefused e met total start bytes place r
  LargeHeader : (m : Met) → IsMessageAt start bytes place m → most_header < total + met_bytes (continued m)
      → r ≡ Unsupported what.Header
      → IsStepRefused e met total start bytes place r
  BadContinuation : (m : Met) → IsMessageAt start bytes place m → m.kind ≡ 0x10
      → total + met_bytes (continued m) ≤ most_header
      → IsPlacedRefused e met (u64_at m.body 0) (u64_at m.body 8) kind.Header r
      → IsStepRefused e met total start bytes place r

-- One of the wanted messages of a block is refused, behind others that were met, whose blocks were taken within the
-- limit.
pub record IsBlockStop (e : Bounds) (met : List Block) (total start : ℕ) (bytes : List ℕ) (wanted : ℕ)
    (r : Refusal) : Type 0 where
  pub ms : List Met
  pub stand : Stand start bytes 0 ms
  pub whole : AreWhole ms
  pub more : length ms < wanted
  pub room : after 0 ms + 8 ≤ length bytes
  pub taken : AreTaken e met (flat_map continued ms)
  pub short : total + met_bytes (flat_map continued ms) ≤ most_header
  pub step : IsStepRefused e (met ++ flat_map continued ms) (total + met_bytes (flat_map continued ms)) start bytes
      (after 0 ms) r

-- These parts of a header were met, each to its end while more messages are wanted, and as many as its prefix counts
-- where none is; where the bytes are told, they are those of the array.
pub record IsWalked (tells : Bool) (b : Array) (at : ℕ) (prefix : Prefix) (parts : List Part)
    (walk : Walk) : Type 0 where
  pub met : IsTrue tells → AreMet b (first_block at prefix) parts (waiting_of walk)
  pub ended : IsTrue tells → 0 < walk.wanted → All (IsAtEnd b) parts
  pub counted : IsTrue tells → walk.wanted ≡ 0 → AreCounted b prefix.messages parts
  pub number : length (messages_of parts) + walk.wanted ≡ prefix.messages
  pub gathered : Gathers walk.messages (messages_of parts)
  pub whole : AreWhole (messages_of parts)
  pub total : walk.total ≡ header_bytes at prefix parts
  pub short : walk.total ≤ most_header

-- The bytes at an address begin with this prefix.
pub record HasPrefix (b : Array) (at : ℕ) (prefix : Prefix) : Type 0 where
  pub fits : at + 16 ≤ 2 ^ 64
  pub spelled : SpellsPrefix prefix (bytes_of b at 16)

-- All messages of a header were met, and these are the first of them.
pub record IsGathered (b : Array) (at : ℕ) (prefix : Prefix) (messages : Firsts) (parts : List Part) : Type 0 where
  pub unread : List Block
  pub met : AreMet b (first_block at prefix) parts unread
  pub counted : AreCounted b prefix.messages parts
  pub gathered : Gathers messages (messages_of parts)
  pub whole : AreWhole (messages_of parts)
  pub short : header_bytes at prefix parts ≤ most_header
