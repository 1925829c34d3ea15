-- The prefix of an object header of version 1 and where its messages lie, by the HDF5 File Format Specification 3.0,
-- IV.A.1.a and IV.A.2. Cited by `read_prefix`, `read_message` and `write_header`, and by what says which objects a file
-- has.
use Rattle.std.specs.Prelude.{◌≡◌, ℕ, ◌+◌, ◌%◌, ◌≤◌, List, length, slice_index}
use Rattle.h5_base.specs.Fields.{u16_at, u32_at}
use Rattle.header_codec.specs.declared.types.Prefix.{Prefix}
use Rattle.header_codec.specs.declared.types.Message.{Message}

-- The byte behind the version is reserved, and four bytes behind the size are padding.
pub record IsPrefix (b : List ℕ) : Type 0 where
  pub whole : 16 ≤ length b
  pub version : slice_index b 0 ≡ 1

abbrev pub prefix_of : List ℕ → Prefix
prefix_of b = record { messages = u16_at b 2; links = u32_at b 4; size = u32_at b 8 }

-- The bytes begin with this prefix.
pub record SpellsPrefix (p : Prefix) (b : List ℕ) : Type 0 where
  pub prefix : IsPrefix b
  pub value : p ≡ prefix_of b

-- Type 2, size 2, flags 1, reserved 3, and then as many bytes of data as the size says, a multiple of 8.
pub record IsMessage (b : List ℕ) (at : ℕ) : Type 0 where
  pub head : at + 8 ≤ length b
  pub multiple : u16_at b (at + 2) % 8 ≡ 0
  pub whole : at + 8 + u16_at b (at + 2) ≤ length b

abbrev pub message_of : List ℕ → ℕ → Message
message_of b start = record {
  kind = u16_at b start;
  flags = slice_index b (start + 4);
  at = start + 8;
  len = u16_at b (start + 2);
}

-- This message begins there in the bytes.
pub record SpellsMessage (m : Message) (b : List ℕ) (start : ℕ) : Type 0 where
  pub message : IsMessage b start
  pub value : m ≡ message_of b start
