-- What the blocks next to an address say of all blocks of a catalogue.
use Rattle.std.proofs.Common.{◌≡◌, ◌↔◌, ℕ, ◌+◌, ◌-◌, ◌<◌, ◌≤◌, ◌⊎◌, inl, inr, List, sym, ◌∙◌, ap, arith}
use Rattle.std.specs.declared.option.Option.TheVariants.{Some, None}
use Rattle.std.specs.Option.{IsSome, is_some}
use Rattle.std.specs.List.{Contains}
use Rattle.std.specs.Ordering.{nat_cmp}
use Rattle.std.specs.BTreeMap.{BTreeMap, get}
use Rattle.outside.specs.Blocks.{Block, IsApart, IsOverlap}
use Rattle.std.proofs.lemmas.Bool.{cases_lt}
use Rattle.block_space.specs.Catalogue.{Lists, IsLastBelow, IsFirstFrom, RunsOver}
use Rattle.block_space.proofs.Apart.{same_or_apart, apart_from_each}

module _ (m : BTreeMap ℕ ℕ) (met : List Block) (lists : Lists m met) where
  found : (x : Block) → Contains met x → get nat_cmp m x.start ≡ Some x.len
  found x h = (lists.entries x.start x.len).1 h

  has_key : (x : Block) → Contains met x → IsSome (get nat_cmp m x.start)
  has_key x h = ap is_some (found x h)

  held : (start len : ℕ) → get nat_cmp m start ≡ Some len → Contains met (record { start = start; len = len })
  held start len h = (lists.entries start len).0 h

  absent : (x : Block) → Contains met x → get nat_cmp m x.start ≡ None → ⊥
  absent x h none = let e = sym none ∙ found x h in cc

  -- beside the last block below an address, all others below it end before that one
  earlier : (start len at : ℕ) → IsLastBelow m at (Some (start, len)) → (x : Block) → Contains met x → x.start < at → (x ≡ record { start = start; len = len }) ⊎ (x.start + x.len ≤ start)
  earlier start len at last x h l =
      let y : Block = record { start = start; len = len } in
      let has : Contains met y = held start len last.1 in
      let le : x.start ≤ start = last.2 x.start l (has_key x h) in
      let filled : 0 < len = lists.filled y has in
      elim (same_or_apart met lists.apart x y h has) [
        | inl e ↦ inl e
        | inr apart ↦ elim apart [
          | inl before ↦ inr before
          | inr behind ↦ absurd (omega arith)
        ]
      ]

  pub over_some : (start len at : ℕ) → IsLastBelow m at (Some (start, len)) → (at - start < len) ↔ RunsOver met at
  over_some start len at last =
      let l : start < at = last.0 in (
        λ h. (record { start = start; len = len }, held start len last.1, l, omega arith),
        λ r. elim (earlier start len at last r.0 r.1 r.2) [
          | inl e ↦ omega (arith, ap (λ (x : Block). x.start) e, ap (λ (x : Block). x.len) e, r.3)
          | inr before ↦ absurd (omega (arith, r.3, l))
        ],
      )

  pub over_none : (at : ℕ) → IsLastBelow m at None → RunsOver met at → ⊥
  over_none at none r = absent r.0 r.1 (none r.0.start r.2)

  -- a block that begins below an address ends there or before, where none runs over it
  ends_before : (at : ℕ) → (RunsOver met at → ⊥) → (x : Block) → Contains met x → x.start < at → x.start + x.len ≤ at
  ends_before at none x h l = omega (arith, λ (past : at < x.start + x.len). none (x, h, l, past))

  pub overlap_start : (start len : ℕ) → 0 < len → RunsOver met start → IsOverlap met (record { start = start; len = len }) start
  overlap_start start len filled r = record {
    other = r.0;
    one = r.1;
    share = record { greater = omega (arith, r.2); in_first = omega arith; in_second = r.3 };
    least = λ y n h s. omega (arith, s.greater);
  }

  pub overlap_behind : (start len behind size : ℕ) → (RunsOver met start → ⊥) → IsFirstFrom m start (Some (behind, size)) → behind - start < len
      → IsOverlap met (record { start = start; len = len }) behind
  overlap_behind start len behind size none first near =
      let from : start ≤ behind = first.0 in
      let other : Block = record { start = behind; len = size } in
      let has : Contains met other = held behind size first.1 in
      record {
        other = other;
        one = has;
        share = record { greater = omega arith; in_first = omega arith; in_second = omega (arith, lists.filled other has) };
        least = λ y n h s. elim (cases_lt y.start start) [
          | inl l ↦ let ends : y.start + y.len ≤ start = ends_before start none y h l in absurd (omega (arith, s.greater, s.in_second))
          | inr l ↦ let le : behind ≤ y.start = first.2 y.start l (has_key y h) in omega (arith, s.greater)
        ];
      }

  pub apart_behind : (start len behind size : ℕ) → (RunsOver met start → ⊥) → IsFirstFrom m start (Some (behind, size)) → len ≤ behind - start → 0 < len
      → IsApart (record { start = start; len = len }) met
  apart_behind start len behind size none first far filled = apart_from_each (record { start = start; len = len }) met (λ y h. elim (cases_lt y.start start) [
    | inl l ↦ inr (ends_before start none y h l)
    | inr l ↦ let le : behind ≤ y.start = first.2 y.start l (has_key y h) in inl (omega arith)
  ])

  pub apart_at_end : (start len : ℕ) → (RunsOver met start → ⊥) → IsFirstFrom m start None → IsApart (record { start = start; len = len }) met
  apart_at_end start len none first = apart_from_each (record { start = start; len = len }) met (λ y h. elim (cases_lt y.start start) [
    | inl l ↦ inr (ends_before start none y h l)
    | inr l ↦ absurd (absent y h (first y.start l))
  ])
