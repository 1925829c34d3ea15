-- A block at the end of a region is fresh beside the blocks of a catalogue, which then takes it.
use Rattle.std.proofs.Common.{◌≡◌, ◌⊎◌, ℕ, ◌+◌, ◌<◌, ◌≤◌, inl, inr, List, [], ◌∷◌, ◌++◌, length, sym, ◌∙◌, ap, subst}
use Rattle.std.proofs.Common.{refl, arith, length-append, Bool, true, if◌then◌else◌, ℤ}
use Rattle.std.specs.declared.option.Option.{Option}
use Rattle.std.specs.declared.option.Option.TheVariants.{Some, None}
use Rattle.std.specs.List.{Contains}
use Rattle.std.specs.Ordering.{nat_cmp}
use Rattle.std.specs.BTreeMap.{BTreeMap, get, btree_map_len}
use Rattle.std.proofs.lemmas.List.{map-append}
use Rattle.std.proofs.lemmas.List.Elements.{Contains-push, Contains-push_cases, Contains-append_left}
use Rattle.h5_base.specs.declared.extent.Extent.{Extent}
use Rattle.h5_base.specs.declared.extent.MemClass.{MemClass}
use Rattle.outside.specs.Blocks.{Block, Bounds, AreApart, IsApart, AllApart, IsInside, AllInside, most_blocks}
use Rattle.outside.specs.Space.{SpaceView, AreRegions, LiesIn, IsCommitted, bounds_of, raised}
use Rattle.outside.specs.declared.space.CommitAnswer.{CommitAnswer}
use Rattle.outside.specs.declared.space.CommitAnswer.TheVariants.{Done, NoOnion, Limit, Clock}
use Rattle.block_space.specs.declared.catalogue.Catalogue.{Catalogue}
use Rattle.block_space.specs.Catalogue.{IsListed, block_of, blocks_of}
use Rattle.block_space.specs.Blocks.{AreListed}
use Rattle.block_space.specs.Plans.{LiesInOne, rounded}
use Rattle.block_space.proofs.Apart.{contains_cons, apart_from_each, each_apart, all_apart_push, all_inside_push}
use Rattle.block_space.proofs.Ends.{ends_as_one, raised_itself, raised_up}

-- ---- a catalogue with one more block that was taken

pub blocks_push : (xs : List Extent) (x : Extent) → blocks_of (xs ++ x ∷ []) ≡ blocks_of xs ++ block_of x ∷ []
blocks_push xs x = map-append (λ (e : Extent). let b : Block = record { start = e.start; len = e.len } in b) xs (x ∷ [])

some_or_none : (o : Option ℕ) → (o ≡ None) ⊎ ((n : ℕ) × (o ≡ Some n))
some_or_none None = inl refl
some_or_none (Some n) = inr (n, refl)

module _ (c d : Catalogue) (met : List Block) (x : Extent) (listed : IsListed c met) (same : d.entries ≡ c.entries)
    (pushed : d.taken.items ≡ c.taken.items ++ x ∷ []) (filled : 0 < x.len) (apart : IsApart (block_of x) met) where
  blocks : blocks_of d.taken.items ≡ blocks_of c.taken.items ++ block_of x ∷ []
  blocks = ap blocks_of pushed ∙ blocks_push c.taken.items x

  -- no block begins where the new one does
  begins_alone : (y : Block) → Contains met y → y.start ≡ x.start → ⊥
  begins_alone y has is =
      let some = listed.filled y has in
      elim (each_apart (block_of x) met apart y has) [
        | inl before ↦ omega (arith, before, is, filled)
        | inr behind ↦ omega (arith, behind, is, some)
      ]

  no_entry : get nat_cmp c.entries x.start ≡ None
  no_entry = elim (some_or_none (get nat_cmp c.entries x.start)) [
    | inl none ↦ none
    | inr some ↦
        let y : Block = record { start = x.start; len = some.0 } in
        absurd (begins_alone y ((listed.entries x.start some.0).0 (inl some.1)) refl)
  ]

  -- a block that was taken is one of those before, or the new one
  taken_cases : (y : Block) → Contains (blocks_of d.taken.items) y → Contains (blocks_of c.taken.items) y ⊎ (block_of x ≡ y)
  taken_cases y taken = Contains-push_cases (blocks_of c.taken.items) (block_of x) y
      (subst (λ (ys : List Block). Contains ys y) blocks taken)

  held : (s l : ℕ)
      → (get nat_cmp d.entries s ≡ Some l) ⊎ Contains (blocks_of d.taken.items) (record { start = s; len = l })
      → Contains (met ++ block_of x ∷ []) (record { start = s; len = l })
  held s l (inl there) = Contains-append_left met (block_of x ∷ []) (record { start = s; len = l })
      ((listed.entries s l).0 (inl (ap (λ (m : BTreeMap ℕ ℕ). get nat_cmp m s) (sym same) ∙ there)))
  held s l (inr taken) =
      let y : Block = record { start = s; len = l } in
      elim (taken_cases y taken) [
        | inl before ↦ Contains-append_left met (block_of x ∷ []) y ((listed.entries s l).0 (inr before))
        | inr is ↦ subst (Contains (met ++ block_of x ∷ [])) is (Contains-push met (block_of x))
      ]

  there : (s l : ℕ) → Contains (met ++ block_of x ∷ []) (record { start = s; len = l })
      → (get nat_cmp d.entries s ≡ Some l) ⊎ Contains (blocks_of d.taken.items) (record { start = s; len = l })
  there s l has =
      let y : Block = record { start = s; len = l } in
      elim (Contains-push_cases met (block_of x) y has) [
        | inl before ↦ elim ((listed.entries s l).1 before) [
          | inl entry ↦ inl (ap (λ (m : BTreeMap ℕ ℕ). get nat_cmp m s) same ∙ entry)
          | inr taken ↦ inr (subst (λ (ys : List Block). Contains ys y) (sym blocks)
              (Contains-append_left (blocks_of c.taken.items) (block_of x ∷ []) y taken))
        ]
        | inr is ↦ inr (subst (λ (ys : List Block). Contains ys y) (sym blocks)
            (subst (Contains (blocks_of c.taken.items ++ block_of x ∷ [])) is (Contains-push (blocks_of c.taken.items)
            (block_of x))))
      ]

  fresh_too : (y : Block) → Contains (blocks_of d.taken.items) y → get nat_cmp d.entries y.start ≡ None
  fresh_too y taken = ap (λ (m : BTreeMap ℕ ℕ). get nat_cmp m y.start) same
      ∙ elim (taken_cases y taken) [
        | inl before ↦ listed.fresh y before
        | inr is ↦ subst (λ (z : Block). get nat_cmp c.entries z.start ≡ None) is no_entry
      ]

  pub listed_push : IsListed d (met ++ block_of x ∷ [])
  listed_push = record {
    entries = λ s l. (held s l, there s l);
    fresh = fresh_too;
    own = subst AllApart (sym blocks) (all_apart_push (blocks_of c.taken.items) (block_of x) listed.own
        (apart_from_each (block_of x) (blocks_of c.taken.items) (λ y taken.
        each_apart (block_of x) met apart y ((listed.entries y.start y.len).0 (inr taken)))));
    count = omega (
      arith,
      ap btree_map_len same,
      ap length pushed,
      length-append c.taken.items (x ∷ []),
      length-append met (block_of x ∷ []),
      listed.count,
    );
    filled = λ y has. elim (Contains-push_cases met (block_of x) y has) [
      | inl before ↦ listed.filled y before
      | inr is ↦ subst (λ (z : Block). 0 < z.len) is filled
    ];
    apart = all_apart_push met (block_of x) listed.apart apart;
  }

-- ---- where it lies

pub each_inside : (e : Bounds) (xs : List Block) → AllInside e xs → (x : Block) → Contains xs x → IsInside e x
each_inside e [] all x (k, l, is) = absurd (omega arith)
each_inside e (y ∷ ys) all x has = elim (contains_cons y ys x has) [
  | inl is ↦ subst (IsInside e) is all.0
  | inr later ↦ each_inside e ys all.1 x later
]

-- a range within one of the blocks lies in one region, below its end
pub lies_in_one : (v : SpaceView) (c : Catalogue) (met : List Block) (at n : ℕ) → AreListed v c met → LiesInOne met at n
    → (class : MemClass) × LiesIn v.regions v.ends class at n
lies_in_one v c met at n keeps one =
    let inside = each_inside (bounds_of v None) met (keeps.inside None) one.0 one.1 in
    (inside.0, record { low = omega (arith, inside.1, one.2); high = omega (arith, inside.2, one.3) })

all_inside_on : (e f : Bounds) (xs : List Block) → ((c : MemClass) → f.starts c ≤ e.starts c) → ((c : MemClass)
    → e.ends c ≤ f.ends c)
    → AllInside e xs → AllInside f xs
all_inside_on e f [] low high all = tt
all_inside_on e f (x ∷ xs) low high all =
    let here = all.0 in
    let below = low here.0 in
    let above = high here.0 in
    ((here.0, omega (arith, below, here.1), omega (arith, above, here.2)), all_inside_on e f xs low high all.1)

pub up_to_whole : (len : ℕ) → len ≤ rounded len
up_to_whole len = omega arith

-- a block from the end of a region on, below its limit, is apart from each that lies below an end
fresh_at_end : (v : SpaceView) (class : MemClass) (len : ℕ) (own : Option (List ℕ)) → AreRegions v.regions v.ends
    → v.ends class + rounded len ≤ (v.regions class).limit → (y : Block) → IsInside (bounds_of v own) y
    → AreApart (record { start = v.ends class; len = len }) y
fresh_at_end v class len own sound below y inside =
    let whole = up_to_whole len in
    let d = inside.0 in
    let low = sound.low class in
    let high = sound.high d in
    elim (sound.apart class d) [
      | inl both ↦ inr (omega (arith, both.1, inside.2))
      | inr apart ↦ elim apart [
        | inl before ↦ inl (omega (arith, before, inside.1, below, whole))
        | inr behind ↦ inr (omega (arith, behind, inside.2, high, low))
      ]
    ]

-- The catalogue takes a block at the end of a class, which is raised by it.
pub takes_at_end : (v w : SpaceView) (c d : Catalogue) (met : List Block) (class : MemClass) (x : Extent)
    → AreRegions v.regions v.ends
    → v.ends class + rounded x.len ≤ (v.regions class).limit → 0 < x.len → x.start ≡ v.ends class
    → w.regions ≡ v.regions
    → w.ends ≡ raised v.regions v.ends class (v.ends class + rounded x.len)
    → d.entries ≡ c.entries → d.taken.items ≡ c.taken.items ++ x ∷ [] → AreListed v c met → length met < most_blocks
    → AreListed w d (met ++ record { start = v.ends class; len = x.len } ∷ [])
takes_at_end v w c d met class x sound below filled is regions ends same pushed keeps few =
    let end = v.ends class + rounded x.len in
    let whole = up_to_whole x.len in
    let own_end = raised_itself v.regions v.ends class end in
    let up : (c : MemClass) → v.ends c ≤ raised v.regions v.ends class end c =
    raised_up v.regions v.ends class end (ends_as_one v.regions v.ends sound class) (omega arith) in
    let fresh : IsApart (block_of x) met = apart_from_each (block_of x) met (λ y has.
    subst (λ (s : ℕ). AreApart (record { start = s; len = x.len }) y) (sym is)
    (fresh_at_end v class x.len None sound below y (each_inside (bounds_of v None) met (keeps.inside None) y has))) in
    subst (λ (s : ℕ). AreListed w d (met ++ record { start = s; len = x.len } ∷ [])) is (record {
      lists = listed_push c d met x keeps.lists same pushed filled fresh;
      few = omega (arith, few, length-append met (block_of x ∷ []));
      inside = λ own. all_inside_push (bounds_of w own) met (block_of x)
          (all_inside_on (bounds_of v own) (bounds_of w own) met
          (λ e. rw regions (omega arith)) (λ e. rw ends (up e)) (keeps.inside own))
          (class, rw (regions, is) (sound.low class), rw ends (rw own_end (omega (arith, whole, is))));
    })

-- The blocks stay kept where the regions and the ends do.
pub kept_over : (v w : SpaceView) (c : Catalogue) (met : List Block) → w.regions ≡ v.regions → w.ends ≡ v.ends
    → AreListed v c met
    → AreListed w c met
kept_over v w c met regions ends keeps = record {
  lists = keeps.lists;
  few = keeps.few;
  inside = λ own. all_inside_on (bounds_of v own) (bounds_of w own) met
      (λ e. rw regions (omega arith)) (λ e. rw ends (omega arith)) (keeps.inside own);
}

-- The blocks stay kept where the regions do, and no end falls.
pub kept_up : (v w : SpaceView) (c : Catalogue) (met : List Block) → w.regions ≡ v.regions
    → ((d : MemClass) → v.ends d ≤ w.ends d) → AreListed v c met → AreListed w c met
kept_up v w c met regions up keeps = record {
  lists = keeps.lists;
  few = keeps.few;
  inside = λ own. all_inside_on (bounds_of v own) (bounds_of w own) met
      (λ e. rw regions (omega arith)) up (keeps.inside own);
}

-- a push with room for it
pub pushed_on : {X : Type 0} (old new : List X) (x : X) (ok : Bool) → ok ≡ true
    → new ≡ (if ok then old ++ x ∷ [] else old)
    → new ≡ old ++ x ∷ []
pushed_on old new x ok is items = items ∙ ap (λ (b : Bool). if b then old ++ x ∷ [] else old) is

-- ---- after a commit

pub committed_ends : (tells : Bool) (comment : List ℕ) (secs : ℤ) (old new : SpaceView) (a : CommitAnswer)
    → IsCommitted tells comment secs old new a → new.ends ≡ old.ends
committed_ends tells comment secs old new (Done rev pages) h = ap (λ (v : SpaceView). v.ends) h.1.others
committed_ends tells comment secs old new NoOnion h = ap (λ (v : SpaceView). v.ends) h.1
committed_ends tells comment secs old new Limit h = ap (λ (v : SpaceView). v.ends) h.1
committed_ends tells comment secs old new Clock h = ap (λ (v : SpaceView). v.ends) h.1
