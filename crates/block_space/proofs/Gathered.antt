-- A catalogue whose blocks are all in order, and the step that brings one more of them in order.
use Rattle.std.proofs.Common.{◌≡◌, ℕ, ◌+◌, ◌-◌, ◌<◌, ◌⊎◌, inl, inr, List, [], ◌∷◌, ◌++◌, length, take, get_or}
use Rattle.std.proofs.Common.{false, sym, ◌∙◌, ap, subst, arith, if◌then◌else◌}
use Rattle.std.proofs.Common.{Result, Ok, Err, IfOk, OnOk, OnErr, true}
use Rattle.std.specs.declared.option.Option.{Option}
use Rattle.std.specs.declared.option.Option.TheVariants.{Some, None}
use Rattle.std.specs.Option.{is_some}
use Rattle.std.specs.Result.{is_err}
use Rattle.std.specs.List.{Contains}
use Rattle.std.specs.Ordering.{nat_cmp}
use Rattle.std.specs.BTreeMap.{get, Updates, IsUnchanged, btree_map_len}
use Rattle.std.proofs.lemmas.Bool.{cases_eq}
use Rattle.std.proofs.lemmas.List.{map_push, length_push, take_more, take_all}
use Rattle.std.proofs.lemmas.List.Elements.{Contains-push, Contains-push_cases, Contains-append_left}
use Rattle.h5_base.specs.declared.extent.Extent.{Extent}
use Rattle.outside.specs.Blocks.{Block, AreApart, IsApart, AllApart}
use Rattle.block_space.specs.declared.catalogue.Catalogue.{Catalogue}
use Rattle.outside.specs.Space.{SpaceView}
use Rattle.block_space.specs.Blocks.{AreListed}
use Rattle.block_space.specs.Catalogue.{Lists, IsListed, blocks_of}
use Rattle.block_space.proofs.Apart.{none_contained, turned, each_apart}
use Rattle.block_space.proofs.Joined.{other_key}

-- ---- all in order

pub to_lists : (c : Catalogue) (met : List Block) → c.taken.items ≡ [] → IsListed c met → Lists c.entries met
to_lists c met ordered listed = record {
  entries = λ start len. (
    λ e. (listed.entries start len).0 (inl e),
    λ h. elim ((listed.entries start len).1 h) [
      | inl e ↦ e
      | inr t ↦ absurd (none_contained (record { start = start; len = len }) (rw ordered at t))
    ],
  );
  count = omega (arith, listed.count, ap length ordered);
  filled = listed.filled;
  apart = listed.apart;
}

pub from_lists : (c : Catalogue) (met : List Block) → c.taken.items ≡ [] → Lists c.entries met → IsListed c met
from_lists c met ordered lists = record {
  entries = λ start len. (
    λ e. elim e [
      | inl e ↦ (lists.entries start len).0 e
      | inr t ↦ absurd (none_contained (record { start = start; len = len }) (rw ordered at t))
    ],
    λ h. inl ((lists.entries start len).1 h),
  );
  fresh = λ x h. absurd (none_contained x (rw ordered at h));
  own = rw ordered tt;
  count = omega (arith, lists.count, ap length ordered);
  filled = lists.filled;
  apart = lists.apart;
}

-- the blocks stay where the entries and those that were taken do
pub listed_same : (c d : Catalogue) (met : List Block) → IsUnchanged c.entries d.entries → d.taken.items ≡ c.taken.items
    → IsListed c met → IsListed d met
listed_same c d met same taken listed = record {
  entries = λ start len. rw (same, taken) (listed.entries start len);
  fresh = rw (same, taken) listed.fresh;
  own = rw taken listed.own;
  count = rw (same, taken) listed.count;
  filled = listed.filled;
  apart = listed.apart;
}

-- what was kept before is kept in order
pub gathered : (v : SpaceView) (c d : Catalogue) (met : List Block) → (IsListed c met → IsListed d met)
    → AreListed v c met → AreListed v d met
gathered v c d met next listed = record { lists = next listed.lists; few = listed.few; inside = listed.inside }

-- where other ranges are given, the blocks stay
pub listed_readied : (v w : SpaceView) (p : List Extent) (c d : Catalogue) (met : List Block)
    → w ≡ record v { prepared = p } → (IsListed c met → IsListed d met) → AreListed v c met → AreListed w d met
listed_readied v w p c d met same next listed =
    rw same (record { lists = next listed.lists; few = listed.few; inside = listed.inside })

-- ---- one more

-- what is left of a list, and its last item
pub ends_with : (ts us : List Extent) (n : ℕ) (x : Extent) → n ≡ length ts → 0 < n → us ≡ take (n - 1) ts
    → x ≡ get_or ts (n - 1) x → ts ≡ us ++ x ∷ []
ends_with ts us n x long some rest last =
    let cut : take (n - 1 + 1) ts ≡ take (n - 1) ts ++ get_or ts (n - 1) x ∷ [] =
    take_more ts (n - 1) x (omega arith) in
    let whole : take (n - 1 + 1) ts ≡ ts = take_all (n - 1 + 1) ts (omega arith) in
    cc

is_apart_left : (x y : Block) (xs : List Block) → IsApart x (xs ++ y ∷ []) → IsApart x xs × AreApart x y
is_apart_left x y [] apart = (tt, apart.0)
is_apart_left x y (z ∷ zs) apart = let rest = is_apart_left x y zs apart.1 in ((apart.0, rest.0), rest.1)

all_apart_left : (xs : List Block) (y : Block) → AllApart (xs ++ y ∷ []) → AllApart xs × IsApart y xs
all_apart_left [] y apart = (tt, tt)
all_apart_left (x ∷ xs) y apart =
    let first = is_apart_left x y xs apart.0 in
    let rest = all_apart_left xs y apart.1 in
    ((first.0, rest.0), (turned x y first.1, rest.1))

module _ (c d : Catalogue) (met : List Block) (x : Extent) (listed : IsListed c met)
    (last : c.taken.items ≡ d.taken.items ++ x ∷ [])
    (update : Updates nat_cmp c.entries d.entries x.start (Some x.len)) where
  abbrev it : Block
  it = record { start = x.start; len = x.len }

  all_taken : blocks_of c.taken.items ≡ blocks_of d.taken.items ++ it ∷ []
  all_taken = ap blocks_of last ∙ map_push (λ (y : Extent). record { start = y.start; len = y.len }) d.taken.items x

  earlier : (y : Block) → Contains (blocks_of d.taken.items) y → Contains (blocks_of c.taken.items) y
  earlier y h = rw all_taken (Contains-append_left (blocks_of d.taken.items) (it ∷ []) y h)

  here : Contains (blocks_of c.taken.items) it
  here = rw all_taken (Contains-push (blocks_of d.taken.items) it)

  met_one : (y : Block) → Contains (blocks_of c.taken.items) y → Contains met y
  met_one y h = (listed.entries y.start y.len).0 (inr h)

  apart : AllApart (blocks_of d.taken.items) × IsApart it (blocks_of d.taken.items)
  apart = all_apart_left (blocks_of d.taken.items) it (rw all_taken at listed.own)

  elsewhere : (y : Block) → Contains (blocks_of d.taken.items) y → x.start ≡ y.start → ⊥
  elsewhere y h same =
      let some : 0 < x.len = listed.filled it (met_one it here) in
      let others : 0 < y.len = listed.filled y (met_one y (earlier y h)) in
      elim (each_apart it (blocks_of d.taken.items) apart.1 y h) [ inl l ↦ omega arith | inr l ↦ omega arith ]

  kept : (s : ℕ) → (x.start ≡ s → ⊥) → get nat_cmp d.entries s ≡ get nat_cmp c.entries s
  kept s differ = update.2 s (other_key x.start s differ)

  listed_of : (s l : ℕ)
      → (get nat_cmp d.entries s ≡ Some l) ⊎ Contains (blocks_of d.taken.items) (record { start = s; len = l })
      → Contains met (record { start = s; len = l })
  listed_of s l (inr t) = met_one (record { start = s; len = l }) (earlier (record { start = s; len = l }) t)
  listed_of s l (inl e) = elim (cases_eq x.start s) [
    | inl is ↦
        let found : get nat_cmp d.entries s ≡ Some x.len =
        subst (λ (q : ℕ). get nat_cmp d.entries q ≡ Some x.len) is update.1 in
        let same : x.len ≡ l = cc in
        subst (λ (b : Block). Contains met b) (λ i. record { start = is i; len = same i }) (met_one it here)
    | inr differ ↦ (listed.entries s l).0 (inl (sym (kept s differ) ∙ e))
  ]

  entry_of : (s l : ℕ) → Contains met (record { start = s; len = l })
      → (get nat_cmp d.entries s ≡ Some l) ⊎ Contains (blocks_of d.taken.items) (record { start = s; len = l })
  entry_of s l h = elim ((listed.entries s l).1 h) [
    | inl e ↦ inl (kept s (λ is. let none : get nat_cmp c.entries x.start ≡ None = listed.fresh it here in
        let found : get nat_cmp c.entries x.start ≡ Some l =
        subst (λ (q : ℕ). get nat_cmp c.entries q ≡ Some l) (sym is) e in
        cc) ∙ e)
    | inr t ↦ elim (Contains-push_cases (blocks_of d.taken.items) it (record { start = s; len = l }) (rw all_taken at t)) [
      | inl old ↦ inr old
      | inr is ↦ inl (subst (λ (b : Block). get nat_cmp d.entries b.start ≡ Some b.len) is update.1)
    ]
  ]

  pub listed_next : (old : Option ℕ) → old ≡ get nat_cmp c.entries x.start
      → btree_map_len d.entries ≡ btree_map_len c.entries + (if is_some old then 0 else 1) → IsListed d met
  listed_next old is count =
      let none : is_some old ≡ false = ap is_some (is ∙ listed.fresh it here) in
      let grown : btree_map_len d.entries ≡ btree_map_len c.entries + 1 = rw none at count in
      record {
        entries = λ s l. (listed_of s l, entry_of s l);
        fresh = λ y h. kept y.start (elsewhere y h) ∙ listed.fresh y (earlier y h);
        own = apart.0;
        count = omega (arith, grown, listed.count, ap length last, length_push d.taken.items x);
        filled = listed.filled;
        apart = listed.apart;
      }

-- by the outcome of the insertion
pub listed_inserted : {E : Type 0} (c d : Catalogue) (met : List Block) (x : Extent) (r : Result (Option ℕ) E)
    → is_err r ≡ false → IsListed c met → c.taken.items ≡ d.taken.items ++ x ∷ []
    → OnOk r (Updates nat_cmp c.entries d.entries x.start (Some x.len))
    → IfOk r (λ old. old ≡ get nat_cmp c.entries x.start)
    → IfOk r (λ old. btree_map_len d.entries ≡ btree_map_len c.entries + (if is_some old then 0 else 1))
    → IsListed d met
listed_inserted c d met x (Ok old) done listed last update is count =
    listed_next c d met x listed last update old is count
listed_inserted c d met x (Err e) done listed last update is count = absurd cc

pub when_done : {T E : Type 0} (r : Result T E) (P : Type 0) → is_err r ≡ false → OnOk r P → P
when_done (Ok t) P done h = h
when_done (Err e) P done h = absurd cc

pub when_failed : {T E : Type 0} (r : Result T E) (P : Type 0) → is_err r ≡ true → OnErr r P → P
when_failed (Ok t) P failed h = absurd cc
when_failed (Err e) P failed h = h
