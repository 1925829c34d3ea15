-- What a done line leaves, and which pages it writes.
use Rattle.std.proofs.Common.{◌≡◌, ℕ, zero, suc, ◌+◌, ◌%◌, ◌<◌, ◌≤◌, List, [], ◌∷◌, Option, Some, refl, sym, ap}
use Rattle.std.proofs.Common.{subst, inl, inr, ⊎_elim, arith}
use Rattle.std.specs.List.{Contains}
use Rattle.std.proofs.lemmas.Bool.{cases_lt}
use Rattle.h5_base.specs.declared.extent.Extent.{Extent}
use Rattle.outside.specs.Blocks.{Block}
use Rattle.outside.specs.Pages.{IsMet}
use Rattle.outside.specs.Revisions.{Committed}
use Rattle.block_space.specs.Catalogue.{blocks_of}
use Rattle.block_space.specs.Written.{TellsAllWritten}
use Rattle.session_model.specs.State.{IsTouched}
use Rattle.session_model.specs.Laws.{BytesStay, PagesReached, PagesCover}

pub bytes_stay : BytesStay
bytes_stay k s new c p t does a far apart = does.stays a (λ hit. ⊎_elim far apart (p.touched.reached a hit))

-- a range of a list that is seen as blocks
range_of : (ranges : List Extent) (x : Block) → Contains (blocks_of ranges) x → (r : Extent) × Contains ranges r
    × (r.start ≡ x.start) × (r.len ≡ x.len)
range_of [] x (k, low, is) = absurd (omega (arith, low))
range_of (r ∷ rs) x (zero, low, is) =
    (r, (0, omega arith, refl), ap (λ (y : Block). y.start) is, ap (λ (y : Block). y.len) is)
range_of (r ∷ rs) x (suc k, low, is) =
    let (q, (i, within, at), start, len) = range_of rs x (k, omega (arith, low), is) in
    (q, (suc i, omega (arith, within), at), start, len)

-- an address of a page and of a range that meets it
common : (page q start len : ℕ) → 0 < page → 0 < len → IsMet page start len q
    → (a : ℕ) × (q ≤ a) × (a < q + page) × (start ≤ a) × (a < start + len)
common page q start len whole filled met = ⊎_elim
    (λ low. (q, omega arith, omega (arith, whole), omega (arith, low), met.before))
    (λ high. (start, high, met.behind, omega arith, omega (arith, filled)))
    (cases_lt start q)

abbrev some : Committed → Option Committed
some m = Some m

-- the pages told are those of both
told : (blocks : List Block) (m n : Committed) (old new : Option Committed) → old ≡ Some m → new ≡ Some n
    → TellsAllWritten blocks old new → TellsAllWritten blocks (some m) (some n)
told blocks m n old new is_old is_new h =
    subst (λ (o : Option Committed). TellsAllWritten blocks (some m) o) is_new
    (subst (λ (o : Option Committed). TellsAllWritten blocks o new) is_old h)

pub pages_reached : PagesReached
pages_reached k s new c p t m n does is_old is_new whole q has =
    let all = told (blocks_of p.ranges) m n s.committed new.committed is_old is_new does.pages in
    ⊎_elim inl
    (λ met.
    let at = range_of p.ranges met.0 met.1 in
    let meets = subst (λ l. IsMet m.page at.0.start l q) (sym at.3)
    (subst (λ st. IsMet m.page st met.0.len q) (sym at.2) met.2) in
    let both = common m.page q at.0.start at.0.len whole (p.touched.some at.0 at.1) meets in
    inr (both.0, both.1, both.2, p.touched.reached both.0 (at.0, at.1, both.3, both.4)))
    ((all.pages.each q).0 has)

-- a range of a list is one of its blocks
block_in : (ranges : List Extent) (r : Extent) → Contains ranges r
    → Contains (blocks_of ranges) (record { start = r.start; len = r.len })
block_in [] r (k, low, is) = absurd (omega (arith, low))
block_in (x ∷ xs) r (zero, low, is) =
    (0, omega arith, ap (λ (y : Extent). record { start = y.start; len = y.len }) is)
block_in (x ∷ xs) r (suc k, low, is) =
    let (i, within, at) = block_in xs r (k, omega (arith, low), is) in (suc i, omega (arith, within), at)

meets : (page q a start len : ℕ) → q % page ≡ 0 → q ≤ a → a < q + page → start ≤ a → a < start + len
    → IsMet page start len q
meets page q a start len whole low high from to = record {
  whole = whole;
  before = omega (arith, low, to);
  behind = omega (arith, high, from);
  some = omega (arith, from, to);
}

pub pages_cover : PagesCover
pages_cover k s new c p t m n does is_old is_new q a whole low high =
    let all = told (blocks_of p.ranges) m n s.committed new.committed is_old is_new does.pages in
    let hit : IsTouched p.ranges a → Contains n.written q =
    λ at. (all.pages.each q).1 (inr (
      record { start = at.0.start; len = at.0.len },
      block_in p.ranges at.0 at.1,
      meets m.page q a at.0.start at.0.len whole low high at.2 at.3,
    )) in
    (λ no. does.stays a (λ at. no (hit at)), λ x. hit (p.touched.taken a x))
