-- The pages that blocks meet are those of their addresses.
use Rattle.std.proofs.Common.{◌≡◌, inl, inr, ℕ, zero, suc, ◌+◌, ◌%◌, ◌<◌, ◌≤◌, List, sym, subst, arith}
use Rattle.std.specs.declared.option.Option.{Option}
use Rattle.std.specs.declared.option.Option.TheVariants.{Some, None}
use Rattle.std.proofs.Math.Nat.{mod-zero}
use Rattle.std.proofs.lemmas.Bool.{cases_lt}
use Rattle.h5_base.specs.declared.extent.Extent.{Extent}
use Rattle.outside.specs.Blocks.{Block}
use Rattle.outside.specs.Pages.{IsMet, MeetsOne, OrMetByOne}
use Rattle.outside.specs.Revisions.{Committed}
use Rattle.outside.specs.Space.{HasRoom}
use Rattle.block_space.specs.Catalogue.{block_of, blocks_of}
use Rattle.block_space.specs.Written.{MeetsBlock, OrMetByBlock, TellsAllWritten}
use Rattle.session_model.specs.State.{IsTouched}
use Rattle.edit_room.proofs.Addresses.{IsIn, block_there, in_ranges, range_there, ranges_in}

-- a page that is met has bytes
page_some : (page at n p : ℕ) → IsMet page at n p → 0 < page
page_some zero at n p met = absurd (omega (arith, mod-zero p, met.whole, met.behind))
page_some (suc page) at n p met = omega arith

-- a page is met by each block with an address in it
met_at : (page p a : ℕ) (y : Block) → p % page ≡ 0 → p ≤ a → a < p + page → y.start ≤ a → a < y.start + y.len
    → IsMet page y.start y.len p
met_at page p a y whole low high from to = record {
  whole = whole;
  before = omega (arith, low, to);
  behind = omega (arith, high, from);
  some = omega (arith, from, to);
}

-- blocks that have all addresses of others meet all of their pages
pub met_too : (page p : ℕ) (xs ys : List Block) → ((a : ℕ) → IsIn xs a → IsIn ys a) → MeetsBlock page xs p
    → MeetsBlock page ys p
met_too page p xs ys all (x, has, met) =
    let some = page_some page x.start x.len p met in
    elim (cases_lt p x.start) [
      | inl before ↦
          let y = all x.start (x, has, omega arith, omega (arith, met.some)) in
          (y.0, y.1, met_at page p x.start y.0 met.whole (omega (arith, before)) met.behind y.2 y.3)
      | inr behind ↦
          let y = all p (x, has, behind, met.before) in
          (y.0, y.1, met_at page p p y.0 met.whole (omega arith) (omega (arith, some)) y.2 y.3)
    ]

or_met_too : (page p : ℕ) (pages : List ℕ) (xs ys : List Block) → ((a : ℕ) → IsIn xs a → IsIn ys a)
    → OrMetByBlock page pages xs p → OrMetByBlock page pages ys p
or_met_too page p pages xs ys all (inl has) = inl has
or_met_too page p pages xs ys all (inr met) = inr (met_too page p xs ys all met)

-- what is written by blocks is written by others of the same addresses
pub tells_alike : (xs ys : List Block) (old new : Option Committed) → ((a : ℕ) → IsIn xs a → IsIn ys a)
    → ((a : ℕ) → IsIn ys a → IsIn xs a) → TellsAllWritten xs old new → TellsAllWritten ys old new
tells_alike xs ys None new there back tells = tells
tells_alike xs ys (Some old) None there back tells = absurd tells
tells_alike xs ys (Some old) (Some new) there back tells = record {
  pages = record {
    ordered = tells.pages.ordered;
    each = λ p. (
      λ has. or_met_too old.page p old.written xs ys there ((tells.pages.each p).0 has),
      λ met. (tells.pages.each p).1 (or_met_too old.page p old.written ys xs back met),
    );
  };
  others = tells.others;
}

-- ---- ranges

one_block_met : (page p : ℕ) (ranges : List Extent) → MeetsOne page ranges p → MeetsBlock page (blocks_of ranges) p
one_block_met page p ranges (r, has, met) = (block_of r, block_there ranges r has, met)

block_one_met : (page p : ℕ) (ranges : List Extent) → MeetsBlock page (blocks_of ranges) p → MeetsOne page ranges p
block_one_met page p ranges (b, has, met) =
    let r = range_there ranges b has in
    (r.0, r.1, subst (λ (c : Block). IsMet page c.start c.len p) (sym r.2) met)

range_met_too : (page p : ℕ) (pages : List ℕ) (xs ys : List Extent) → ((a : ℕ) → IsTouched xs a → IsTouched ys a)
    → OrMetByOne page pages xs p → OrMetByOne page pages ys p
range_met_too page p pages xs ys all (inl has) = inl has
range_met_too page p pages xs ys all (inr met) = inr (block_one_met page p ys
    (met_too page p (blocks_of xs) (blocks_of ys) (λ a i. in_ranges ys a (all a (ranges_in xs a i)))
    (one_block_met page p xs met)))

-- there is room for ranges where there is for others of the same addresses
pub room_alike : (m : Option Committed) (xs ys : List Extent) → ((a : ℕ) → IsTouched xs a → IsTouched ys a)
    → ((a : ℕ) → IsTouched ys a → IsTouched xs a) → HasRoom m xs → HasRoom m ys
room_alike None xs ys there back room = tt
room_alike (Some c) xs ys there back room = λ pages are. room pages (record {
  ordered = are.ordered;
  each = λ p. (
    λ has. range_met_too c.page p c.written ys xs back ((are.each p).0 has),
    λ met. (are.each p).1 (range_met_too c.page p c.written xs ys there met),
  );
})
