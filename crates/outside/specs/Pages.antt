-- Pages of one size, by the addresses of their first bytes: lists of them in strictly ascending order.
-- Cited by what a space with revisions tells, and by whatever copies, counts or records pages.
use Rattle.std.specs.Prelude.{◌⊎◌, ◌↔◌, ℕ, ◌+◌, ◌%◌, ◌<◌, ◌≡◌, List}
use Rattle.std.specs.List.{Contains}
use Rattle.std.specs.List.Sorted.{IsStrictlyIncreasing}
use Rattle.h5_base.specs.declared.extent.Extent.{Extent}

-- a page meets n bytes from an address on, at least one of them
pub record IsMet (page at n p : ℕ) : Type 0 where
  pub whole : p % page ≡ 0
  pub before : p < at + n
  pub behind : at < p + page
  pub some : 0 < n

-- one of the ranges meets the page
abbrev pub MeetsOne : ℕ → List Extent → ℕ → Type 0
MeetsOne page ranges p = (r : Extent) × Contains ranges r × IsMet page r.start r.len p

-- the list has just the pages that are told of, in ascending order
pub record ArePages (Told : ℕ → Type 0) (pages : List ℕ) : Type 0 where
  pub ordered : IsStrictlyIncreasing pages
  pub each : (p : ℕ) → Contains pages p ↔ Told p

-- those of a list, and those that a range of n bytes meets
abbrev pub OrMet : ℕ → List ℕ → ℕ → ℕ → ℕ → Type 0
OrMet page pages at n p = Contains pages p ⊎ IsMet page at n p

-- those of a list, and those that one of the ranges meets
abbrev pub OrMetByOne : ℕ → List ℕ → List Extent → ℕ → Type 0
OrMetByOne page pages ranges p = Contains pages p ⊎ MeetsOne page ranges p

-- those of either list
abbrev pub OfEither : List ℕ → List ℕ → ℕ → Type 0
OfEither xs ys p = Contains xs p ⊎ Contains ys p
