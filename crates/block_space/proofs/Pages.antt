-- The pages that are written by one write after the other.
use Rattle.std.proofs.Common.{◌≡◌, inl, inr, ℕ, ◌+◌, ◌-◌, ◌≤◌, List, [], ◌∷◌, ◌++◌, refl, sym, ◌∙◌, ap, subst, arith}
use Rattle.std.specs.declared.option.Option.{Option}
use Rattle.std.specs.declared.option.Option.TheVariants.{Some, None}
use Rattle.std.specs.List.{Contains}
use Rattle.std.proofs.lemmas.List.Elements.{Contains-append_cases, Contains-append_left, Contains-append_right}
use Rattle.outside.specs.Blocks.{Block}
use Rattle.outside.specs.Pages.{IsMet, OrMet}
use Rattle.outside.specs.Revisions.{Committed}
use Rattle.outside.specs.Space.{AreSound, TellsWritten}
use Rattle.block_space.specs.Written.{MeetsBlock, OrMetByBlock, TellsAllWritten, WritesAll}
use Rattle.block_space.proofs.Apart.{contains_cons, contains_head, none_contained}

-- ---- no write

met_none : (page : ℕ) (pages : List ℕ) (p : ℕ) → OrMetByBlock page pages [] p → Contains pages p
met_none page pages p (inl has) = has
met_none page pages p (inr met) = absurd (none_contained met.0 met.1)

pub tells_none : (old : Option Committed) → ((c : Committed) → old ≡ Some c → AreSound c) → TellsAllWritten [] old old
tells_none None sound = refl
tells_none (Some c) sound = record {
  pages = record { ordered = (sound c refl).written; each = λ p. (inl, met_none c.page c.written p) };
  others = refl;
}

-- ---- one write

met_alone : (page at n p : ℕ) → MeetsBlock page (record { start = at; len = n } ∷ []) p → IsMet page at n p
met_alone page at n p met = elim (contains_cons (record { start = at; len = n }) [] met.0 met.1) [
  | inl is ↦ subst (λ (b : Block). IsMet page b.start b.len p) (sym is) met.2
  | inr none ↦ absurd (none_contained met.0 none)
]

alone_met : (page at n p : ℕ) → IsMet page at n p → MeetsBlock page (record { start = at; len = n } ∷ []) p
alone_met page at n p met = (record { start = at; len = n }, contains_head (record { start = at; len = n }) [], met)

or_alone : (page at n : ℕ) (pages : List ℕ) (p : ℕ) → OrMet page pages at n p
    → OrMetByBlock page pages (record { start = at; len = n } ∷ []) p
or_alone page at n pages p (inl has) = inl has
or_alone page at n pages p (inr met) = inr (alone_met page at n p met)

alone_or : (page at n : ℕ) (pages : List ℕ) (p : ℕ)
    → OrMetByBlock page pages (record { start = at; len = n } ∷ []) p → OrMet page pages at n p
alone_or page at n pages p (inl has) = inl has
alone_or page at n pages p (inr met) = inr (met_alone page at n p met)

pub tells_one : (at n : ℕ) (old new : Option Committed) → TellsWritten at n old new
    → TellsAllWritten (record { start = at; len = n } ∷ []) old new
tells_one at n None new tells = tells
tells_one at n (Some old) None tells = absurd tells
tells_one at n (Some old) (Some new) tells = record {
  pages = record {
    ordered = tells.pages.ordered;
    each = λ p. (
      λ has. or_alone old.page at n old.written p ((tells.pages.each p).0 has),
      λ met. (tells.pages.each p).1 (alone_or old.page at n old.written p met),
    );
  };
  others = tells.others;
}

-- ---- one behind the other

module _ (xs ys : List Block) (a b c : Committed) (first : WritesAll xs a b) (second : WritesAll ys b c) where
  same_page : b.page ≡ a.page
  same_page = ap (λ (d : Committed). d.page) first.others

  met_first : (p : ℕ) → OrMetByBlock a.page a.written xs p → OrMetByBlock a.page a.written (xs ++ ys) p
  met_first p (inl has) = inl has
  met_first p (inr met) = inr (met.0, Contains-append_left xs ys met.0 met.1, met.2)

  to_both : (p : ℕ) → OrMetByBlock b.page b.written ys p → OrMetByBlock a.page a.written (xs ++ ys) p
  to_both p (inl has) = met_first p ((first.pages.each p).0 has)
  to_both p (inr met) = inr (
    met.0,
    Contains-append_right xs ys met.0 met.1,
    subst (λ (page : ℕ). IsMet page met.0.start met.0.len p) same_page met.2,
  )

  from_both : (p : ℕ) → OrMetByBlock a.page a.written (xs ++ ys) p → OrMetByBlock b.page b.written ys p
  from_both p (inl has) = inl ((first.pages.each p).1 (inl has))
  from_both p (inr met) = elim (Contains-append_cases xs ys met.0 met.1) [
    | inl left ↦ inl ((first.pages.each p).1 (inr (met.0, left, met.2)))
    | inr right ↦ inr (
      met.0,
      right,
      subst (λ (page : ℕ). IsMet page met.0.start met.0.len p) (sym same_page) met.2,
    )
  ]

  writes_both : WritesAll (xs ++ ys) a c
  writes_both = record {
    pages = record {
      ordered = second.pages.ordered;
      each = λ p. (
        λ has. to_both p ((second.pages.each p).0 has),
        λ met. (second.pages.each p).1 (from_both p met),
      );
    };
    others = second.others ∙ ap (λ (d : Committed). record d { written = c.written }) first.others;
  }

pub tells_both : (xs ys : List Block) (a b c : Option Committed) → TellsAllWritten xs a b → TellsAllWritten ys b c
    → TellsAllWritten (xs ++ ys) a c
tells_both xs ys None b c first second =
    subst (λ (o : Option Committed). TellsAllWritten ys o c) first second
tells_both xs ys (Some a) None c first second = absurd first
tells_both xs ys (Some a) (Some b) None first second = absurd second
tells_both xs ys (Some a) (Some b) (Some c) first second = writes_both xs ys a b c first second

-- ---- within what was written before

within_met : (page p : ℕ) (pages : List ℕ) (x y : Block) → x.start ≤ y.start → y.start + y.len ≤ x.start + x.len
    → OrMetByBlock page pages (x ∷ y ∷ []) p → OrMetByBlock page pages (x ∷ []) p
within_met page p pages x y low high (inl has) = inl has
within_met page p pages x y low high (inr met) = elim (contains_cons x (y ∷ []) met.0 met.1) [
  | inl is ↦ inr (x, contains_head x [], subst (λ (b : Block). IsMet page b.start b.len p) (sym is) met.2)
  | inr later ↦
      let its : IsMet page y.start y.len p = met_alone page y.start y.len p (met.0, later, met.2) in
      inr (
        x,
        contains_head x [],
        record {
          whole = its.whole;
          before = omega (arith, its.before, high);
          behind = omega (arith, its.behind, low);
          some = omega (arith, its.some, low, high);
        },
      )
]

met_within : (page p : ℕ) (pages : List ℕ) (x y : Block) → OrMetByBlock page pages (x ∷ []) p
    → OrMetByBlock page pages (x ∷ y ∷ []) p
met_within page p pages x y (inl has) = inl has
met_within page p pages x y (inr met) =
    inr (met.0, Contains-append_left (x ∷ []) (y ∷ []) met.0 met.1, met.2)

-- a write within the last one adds no page
pub tells_within : (x y : Block) (a b : Option Committed) → x.start ≤ y.start → y.start + y.len ≤ x.start + x.len
    → TellsAllWritten (x ∷ y ∷ []) a b → TellsAllWritten (x ∷ []) a b
tells_within x y None b low high tells = tells
tells_within x y (Some a) None low high tells = absurd tells
tells_within x y (Some a) (Some b) low high tells = record {
  pages = record {
    ordered = tells.pages.ordered;
    each = λ p. (
      λ has. within_met a.page p a.written x y low high ((tells.pages.each p).0 has),
      λ met. (tells.pages.each p).1 (met_within a.page p a.written x y met),
    );
  };
  others = tells.others;
}

-- ---- a block that is taken

pub raised_tells : (at n : ℕ) (old new : Option Committed) → TellsWritten at (at + n - at) old new
    → TellsAllWritten (record { start = at; len = n } ∷ []) old new
raised_tells at n old new tells =
    let whole : at + n - at ≡ n = omega arith in
    tells_one at n old new (subst (λ (k : ℕ). TellsWritten at k old new) whole tells)

-- and its image
pub patched_tells : (at n from len : ℕ) (old mid new : Option Committed) → at ≤ from → from + len ≤ at + n
    → TellsWritten at (at + n - at) old mid → TellsWritten from len mid new
    → TellsAllWritten (record { start = at; len = n } ∷ []) old new
patched_tells at n from len old mid new low high raise patch =
    let x : Block = record { start = at; len = n } in
    let y : Block = record { start = from; len = len } in
    tells_within x y old new low high (tells_both (x ∷ []) (y ∷ []) old mid new (raised_tells at n old mid raise)
    (tells_one from len mid new patch))
