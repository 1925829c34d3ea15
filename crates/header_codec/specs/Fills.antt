-- Which bytes are a fill value, by the HDF5 File Format Specification 3.0, IV.A.2.f ("Fill Value Message", version 2).
-- Cited by `read_fill` and `write_header`, and by what says what a dataset's elements are.
use Rattle.std.specs.Prelude.{◌≡◌, ℕ, ◌+◌, ◌*◌, ◌≤◌, ◌==◌, if◌then◌else◌, List, length, slice_index}
use Rattle.h5_base.specs.Fields.{bytes_at, u32_at}
use Rattle.header_codec.specs.declared.types.Fill.{Fill}
use Rattle.header_codec.specs.declared.types.Fill.TheVariants.{Zeros, Value}

-- whether a value is defined: size and value follow only then
abbrev pub defined_of : List ℕ → ℕ
defined_of b = slice_index b 3

abbrev pub value_len : List ℕ → ℕ
value_len b = if defined_of b == 0 then 0 else u32_at b 4

-- Version 1, space allocation time 1 (1 early, 2 late, 3 incremental), write time 1, defined 1. The write time may be
-- anything.
pub record IsFill (b : List ℕ) : Type 0 where
  pub whole : 4 + 4 * defined_of b + value_len b ≤ length b
  pub version : slice_index b 0 ≡ 2
  pub earliest : 1 ≤ slice_index b 1
  pub latest : slice_index b 1 ≤ 3
  pub defined : defined_of b ≤ 1

-- no value, or one of no bytes, means bytes that are 0
abbrev pub fill_of : List ℕ → Fill
fill_of b = if value_len b == 0 then Zeros else Value (bytes_at b 8 (value_len b))

-- The bytes begin with this fill value.
pub record SpellsFill (f : Fill) (b : List ℕ) : Type 0 where
  pub fill : IsFill b
  pub value : f ≡ fill_of b

-- Elements of so many bytes can have it.
abbrev pub IsOfSize : ℕ → Fill → Type 0
IsOfSize size Zeros = Unit {0}
IsOfSize size (Value v) = length v ≡ size
