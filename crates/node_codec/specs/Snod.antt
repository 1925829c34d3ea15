-- The symbol table node, by the HDF5 File Format Specification 3.0, III.B and III.C.
-- Cited by `read_snod`, `write_snod` and whatever says what a group's blocks hold.
use Rattle.std.specs.Prelude.{◌≡◌, ℕ, ◌+◌, ◌*◌, ◌^◌, ◌<◌, ◌≤◌, List, [], ◌∷◌, ◌++◌, length, take, drop, map, flat_map}
use Rattle.std.specs.Prelude.{slice_index, All}
use Rattle.std.specs.Int.{w16, w32, w64, to_le_bytes}
use Rattle.h5_base.specs.Fields.{u16_at, u32_at, u64_at}
use Rattle.node_codec.specs.Cells.{cells, padded}
use Rattle.node_codec.specs.declared.snod.SnodEntry.{SnodEntry}

-- `SNOD`
abbrev pub snod_signature : List ℕ
snod_signature = 0x53 ∷ 0x4E ∷ 0x4F ∷ 0x44 ∷ []

-- room for 2k entries of 40 bytes
abbrev pub snod_len : ℕ → ℕ
snod_len k = 8 + 80 * k

-- what the 40 bytes of an entry tell: the two numbers of the scratch pad stand as they are, whatever is cached
abbrev pub entry_of : List ℕ → SnodEntry
entry_of c = record {
  name_at = u64_at c 0;
  header_at = u64_at c 8;
  cache = u32_at c 16;
  tree_at = u64_at c 24;
  heap_at = u64_at c 32;
}

-- so many entries, in their order
abbrev pub entries_of : List ℕ → ℕ → List SnodEntry
entries_of b n = map entry_of (cells 40 40 n (drop 8 b))

-- where a soft link's value stands in the heap: the number in the first four bytes of the scratch pad
abbrev pub soft_value_at : SnodEntry → ℕ
soft_value_at e = u32_at (to_le_bytes w64 e.tree_at) 0

-- nothing is cached, a group's addresses are, or the entry is a soft link
abbrev pub IsCache : SnodEntry → Type 0
IsCache e = e.cache ≤ 2

-- a whole node with room for 2k entries; the byte behind the version and the cells past the used ones are free
pub record IsSnod (k : ℕ) (b : List ℕ) : Type 0 where
  pub len : length b ≡ snod_len k
  pub signature : take 4 b ≡ snod_signature
  pub version : slice_index b 4 ≡ 1
  pub room : u16_at b 6 ≤ 2 * k

-- The block spells the entries.
pub record SpellsSnod (k : ℕ) (es : List SnodEntry) (b : List ℕ) : Type 0 where
  pub block : IsSnod k b
  pub value : es ≡ entries_of b (u16_at b 6)
  pub caches : All IsCache es

-- entries that a block with room for 2k of them can spell
pub record FitsSnod (k : ℕ) (es : List SnodEntry) : Type 0 where
  pub room : length es ≤ 2 * k
  pub caches : All IsCache es

-- an entry as it is written: reserved bytes are 0
abbrev pub entry_bytes : SnodEntry → List ℕ
entry_bytes e =
    to_le_bytes w64 e.name_at ++ to_le_bytes w64 e.header_at ++ to_le_bytes w32 e.cache ++
    (0 ∷ 0 ∷ 0 ∷ 0 ∷ []) ++ to_le_bytes w64 e.tree_at ++ to_le_bytes w64 e.heap_at

-- the block that is written: reserved bytes and unused cells are 0
unfoldable pub snod_bytes : ℕ → List SnodEntry → List ℕ
snod_bytes k es = padded (snod_len k) (snod_signature ++ (1 ∷ 0 ∷ []) ++ to_le_bytes w16
    (length es) ++ flat_map entry_bytes es)

-- the numbers fit their types
pub record EntryInRange (e : SnodEntry) : Type 0 where
  pub name_at : e.name_at < 2 ^ 64
  pub header_at : e.header_at < 2 ^ 64
  pub cache : e.cache < 2 ^ 32
  pub tree_at : e.tree_at < 2 ^ 64
  pub heap_at : e.heap_at < 2 ^ 64
