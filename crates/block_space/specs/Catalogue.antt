-- A map from the start of each block to its length: which blocks it holds, and which of them lie next to an address.
-- Cited by the catalogue of the blocks of a file.
use Rattle.std.specs.Prelude.{◌≡◌, ◌↔◌, ◌⊎◌, ℕ, ◌+◌, ◌<◌, ◌≤◌, List, map, length, Option, Some, None, IsSome}
use Rattle.std.specs.Prelude.{MatchOption}
use Rattle.std.specs.List.{Contains}
use Rattle.std.specs.Ordering.{nat_cmp}
use Rattle.std.specs.BTreeMap.{BTreeMap, get, btree_map_len}
use Rattle.outside.specs.Blocks.{Block, AllApart}
use Rattle.h5_base.specs.declared.extent.Extent.{Extent}
use Rattle.block_space.specs.declared.catalogue.Catalogue.{Catalogue}

-- the last entry whose key is below an address
abbrev pub IsLastBelow : BTreeMap ℕ ℕ → ℕ → Option (ℕ × ℕ) → Type 0
IsLastBelow m at found = MatchOption found
    ((q : ℕ) → q < at → get nat_cmp m q ≡ None)
    (λ e. (e.0 < at) × (get nat_cmp m e.0 ≡ Some e.1) × ((q : ℕ) → q < at → IsSome (get nat_cmp m q) → q ≤ e.0))

-- the first entry whose key is an address or behind it
abbrev pub IsFirstFrom : BTreeMap ℕ ℕ → ℕ → Option (ℕ × ℕ) → Type 0
IsFirstFrom m at found = MatchOption found
    ((q : ℕ) → at ≤ q → get nat_cmp m q ≡ None)
    (λ e. (at ≤ e.0) × (get nat_cmp m e.0 ≡ Some e.1) × ((q : ℕ) → at ≤ q → IsSome (get nat_cmp m q) → e.0 ≤ q))

-- the map holds just the blocks of the list, which have at least one byte each and are apart
pub record Lists (m : BTreeMap ℕ ℕ) (met : List Block) : Type 0 where
  pub entries : (start len : ℕ) → (get nat_cmp m start ≡ Some len) ↔ Contains met (record { start = start; len = len })
  pub count : btree_map_len m ≡ length met
  pub filled : (x : Block) → Contains met x → 0 < x.len
  pub apart : AllApart met

-- a range as a block
abbrev pub block_of : Extent → Block
block_of x = record { start = x.start; len = x.len }

-- the blocks of a list of ranges
abbrev pub blocks_of : List Extent → List Block
blocks_of = map (λ x. record { start = x.start; len = x.len })

-- The catalogue has just the blocks of the list: those in order, and those that were taken since, of which none begins
-- where one of the others does.
pub record IsListed (c : Catalogue) (met : List Block) : Type 0 where
  pub entries : (start len : ℕ)
      → ((get nat_cmp c.entries start ≡ Some len)
      ⊎ Contains (blocks_of c.taken.items) (record { start = start; len = len }))
      ↔ Contains met (record { start = start; len = len })
  pub fresh : (x : Block) → Contains (blocks_of c.taken.items) x → get nat_cmp c.entries x.start ≡ None
  pub own : AllApart (blocks_of c.taken.items)
  pub count : btree_map_len c.entries + length c.taken.items ≡ length met
  pub filled : (x : Block) → Contains met x → 0 < x.len
  pub apart : AllApart met

-- one of the blocks begins below an address and holds it
abbrev pub RunsOver : List Block → ℕ → Type 0
RunsOver met at = (x : Block) × Contains met x × (x.start < at) × (at < x.start + x.len)
