-- The room for revisions stays where what is written lies in the ranges that were prepared.
use Rattle.std.proofs.Common.{◌≡◌, inl, inr, ℕ, ◌<◌, List, sym, subst, refl, arith}
use Rattle.std.specs.declared.option.Option.{Option}
use Rattle.std.specs.declared.option.Option.TheVariants.{Some, None}
use Rattle.std.proofs.lemmas.Bool.{cases_lt}
use Rattle.std.proofs.lemmas.Nat.{pow_pos}
use Rattle.h5_base.specs.declared.extent.Extent.{Extent}
use Rattle.outside.specs.Pages.{ArePages, IsMet, MeetsOne, OrMetByOne}
use Rattle.outside.specs.Revisions.{Committed}
use Rattle.outside.specs.Space.{AreCovered, AreSound, HasRoom, TellsWritten, Writes}

-- a page that a covered range meets is met by a range that covers it
met_by_one : (page at n p : ℕ) (ranges : List Extent) → 0 < page → AreCovered ranges at n → IsMet page at n p
    → MeetsOne page ranges p
met_by_one page at n p ranges some covered met = elim (cases_lt p at) [
  | inl l ↦
      let r = covered at (omega arith) (omega (arith, met.some)) in (
        r.0,
        r.1,
        record {
          whole = met.whole;
          before = omega (arith, r.3, l);
          behind = omega (
            arith,
            r.2,
            met.behind,
          );
          some = omega (arith, r.2, r.3);
        },
      )
  | inr l ↦
      let r = covered p l met.before in (
        r.0,
        r.1,
        record {
          whole = met.whole;
          before = r.3;
          behind = omega (arith, r.2, some);
          some = omega (
            arith,
            r.2,
            r.3,
          );
        },
      )
]

module _ (at n : ℕ) (old new : Committed) (ranges : List Extent) (some : 0 < old.page) (covered : AreCovered ranges at
    n)
    (writes : Writes at n old new) where
  met_before : (p : ℕ) → OrMetByOne old.page new.written ranges p → OrMetByOne old.page old.written ranges p
  met_before p (inl has) = elim ((writes.pages.each p).0 has) [
    | inl was ↦ inl was
    | inr met ↦ inr (met_by_one old.page at n p ranges some covered met)
  ]
  met_before p (inr met) = inr met

  met_after : (p : ℕ) → OrMetByOne old.page old.written ranges p → OrMetByOne old.page new.written ranges p
  met_after p (inl was) = inl ((writes.pages.each p).1 (inl was))
  met_after p (inr met) = inr met

  same_pages : (pages : List ℕ) → ArePages (OrMetByOne old.page new.written ranges) pages
      → ArePages (OrMetByOne old.page old.written ranges) pages
  same_pages pages are = record {
    ordered = are.ordered;
    each = λ p. (λ has. met_before p ((are.each p).0 has), λ met. (are.each p).1 (met_after p met));
  }

  room_kept : HasRoom (Some old) ranges → HasRoom (Some new) ranges
  room_kept room = subst (λ (c : Committed). HasRoom (Some c) ranges) (sym writes.others)
      (λ pages are. room pages (same_pages pages are))

-- a page has bytes
page_some : (c : Committed) → AreSound c → 0 < c.page
page_some c sound = let power = sound.power in omega (arith, power.3, pow_pos power.0)

pub room_stays : (at n : ℕ) (old new : Option Committed) (ranges : List Extent)
    → ((c : Committed) → old ≡ Some c → AreSound c) → AreCovered ranges at n → TellsWritten at n old new
    → HasRoom old ranges → HasRoom new ranges
room_stays at n None new ranges sound covered writes room =
    subst (λ (o : Option Committed). HasRoom o ranges) (sym writes) tt
room_stays at n (Some old) None ranges sound covered writes room = absurd writes
room_stays at n (Some old) (Some new) ranges sound covered writes room =
    room_kept at n old new ranges (page_some old (sound old refl)) covered writes room
