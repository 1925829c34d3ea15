-- Texts of a heap whose used bytes stay: where the empty name stands, and how far what is left reaches.
use Rattle.std.proofs.Common.{◌≡◌, ◌⊎◌, ℕ, suc, ◌+◌, ◌<◌, ◌≤◌, min, max, List, [], ◌∷◌, length, take, get_or, refl, sym}
use Rattle.std.proofs.Common.{◌∙◌, ap, subst, arith, inl, inr, Some, None, Option, unwrap_or, eq-zero-or-pos}
use Rattle.std.specs.Prelude.{slice_index}
use Rattle.std.specs.List.{Contains, flat_map, remove}
use Rattle.std.proofs.lemmas.Bool.{cases_lt}
use Rattle.std.proofs.lemmas.List.{get_or-take, take-take}
use Rattle.std.proofs.lemmas.List.Elements.{Contains-append_cases, Contains-append_right}
use Rattle.node_codec.specs.declared.snod.SnodEntry.{SnodEntry}
use Rattle.object_model.specs.Tree.{AreOrdered}
use Rattle.file_model.specs.Groups.{AreLinks, Found, HasText, Header, entry_offsets}
use Rattle.file_model.proofs.UniqueGroups.{text_same}
use Rattle.entry_list.proofs.OrderLaws.{order_remove}
use Rattle.group_room.specs.Used.{EndBefore, IsUsedLen}
use Rattle.block_space.proofs.Apart.{contains_cons}
use Rattle.group_heap.specs.Greatest.{HaveTexts, IsGreatest}
use Rattle.group_layout.proofs.OffsetLemmas.{one_element}
use Rattle.group_facts.specs.Heap.{HasSomeText, names_of}
use Rattle.group_facts.proofs.HeapTexts.{links_stay, text_stays}

-- ---- the empty name

empty_at : (s : List ℕ) (at : ℕ) → at < length s → slice_index s at ≡ 0 → HasText s at []
empty_at s at inside is = record {
  inside = omega (arith, inside);
  stands = refl;
  ended = ap (λ (i : ℕ). get_or s i 0) (omega arith) ∙ is;
  no_nul = λ k d lt. absurd (omega (arith, lt));
}

-- the NUL behind a text ends an empty one
end_empty : (s : List ℕ) (at : ℕ) (text : List ℕ) → HasText s at text → HasText s (at + length text) []
end_empty s at text h = empty_at s (at + length text) h.inside h.ended

empty_there : (s : List ℕ) → HasText s 0 [] ⊎ ¬ HasText s 0 []
empty_there s = elim (cases_lt 0 (length s)) [
  | inl some ↦ elim (eq-zero-or-pos (slice_index s 0)) [
    | inl is ↦ inl (empty_at s 0 some is)
    | inr other ↦ inr (λ h. omega (arith, other, h.ended))
  ]
  | inr none ↦ inr (λ h. omega (arith, none, h.inside))
]

-- an offset of the empty name: 0, or behind a text
module _ (s : List ℕ) (base at : ℕ) (there : HasSomeText s at) (zero_base : HasText s 0 [] → base ≡ 0)
    (other : ¬ HasText s 0 [] → (text : List ℕ) → HasText s at text → base ≡ at + length text) where
  pub base_empty : HasText s base []
  base_empty = elim (empty_there s) [
    | inl first ↦ subst (λ (i : ℕ). HasText s i []) (sym (zero_base first)) first
    | inr lacks ↦ subst (λ (i : ℕ). HasText s i []) (sym (other lacks there.0 there.1)) (end_empty s at there.0 there.1)
  ]

  pub base_first : slice_index s 0 ≡ 0 → base ≡ 0
  base_first is = zero_base (empty_at s 0 (omega (arith, there.1.inside)) is)

-- a link fewer, above the empty name
pub ordered_left : (fs : List Found) (n : ℕ) → AreOrdered ([] ∷ names_of fs) → n < length fs
    → AreOrdered ([] ∷ names_of (remove fs n))
ordered_left fs n o lt = order_remove (record { name = []; target = Header 0 } ∷ fs) (suc n) o (omega (arith, lt))

-- ---- the last text in use

pub last_text : (s os : List ℕ) (texts : Option ℕ) (n : ℕ) → IsGreatest os texts
    → ((o : ℕ) → Contains os o → HasSomeText s o) → HasSomeText s n → HasSomeText s (unwrap_or texts n)
last_text s os None n greatest each own = own
last_text s os (Some at) n greatest each own = each at greatest.0

pub greatest_with : (base : ℕ) (os : List ℕ) (texts : Option ℕ) → IsGreatest os texts
    → IsGreatest (base ∷ os) (Some (max (unwrap_or texts base) base))
greatest_with base os None none =
    let same : base ≡ max base base = omega arith in (
      subst (Contains (base ∷ os)) same (0, omega arith, refl),
      λ o has. elim (contains_cons base os o has) [
        | inl e ↦ omega (arith, e)
        | inr later ↦ absurd (none o later)
      ],
    )
greatest_with base os (Some at) h = (
  elim (cases_lt at base) [
    | inl less ↦
        let same : base ≡ max at base = omega (arith, less) in
        subst (Contains (base ∷ os)) same (0, omega arith, refl)
    | inr more ↦
        let same : at ≡ max at base = omega (arith, more) in
        subst (Contains (base ∷ os)) same (Contains-append_right (base ∷ []) os at h.0)
  ],
  λ o has. elim (contains_cons base os o has) [
    | inl e ↦ omega (arith, e)
    | inr later ↦ omega (arith, h.1 o later)
  ],
)

-- an offset with others
abbrev pub IsWith : (base : ℕ) (os : List ℕ) → ℕ → Type 0
IsWith base os o = (o ≡ base) ⊎ Contains os o

with_first : (base : ℕ) (os : List ℕ) (o : ℕ) → Contains (base ∷ os) o → IsWith base os o
with_first base os o c = elim (Contains-append_cases (base ∷ []) os o c) [
  | inl here ↦ inl (sym (one_element base o here))
  | inr later ↦ inr later
]

pub among_all : (base : ℕ) (os : List ℕ) (o : ℕ) → IsWith base os o → Contains (base ∷ os) o
among_all base os o (inl same) = subst (Contains (base ∷ os)) (sym same) (0, omega arith, refl)
among_all base os o (inr later) = Contains-append_right (base ∷ []) os o later

pub texts_with : (s : List ℕ) (base : ℕ) (os : List ℕ) → HasText s base []
    → ((o : ℕ) → Contains os o → HasSomeText s o) → HaveTexts s (base ∷ os)
texts_with s base os empty each o c = elim (with_first base os o c) [
  | inl same ↦ subst (HasSomeText s) (sym same) ([], empty)
  | inr later ↦ each o later
]

-- ---- a segment with the same used bytes

module _ (s o : List ℕ) (used : ℕ) (long : length o ≡ length s) (front : take used o ≡ take used s) where
  same_used : take (min used (length s)) o ≡ take (min used (length s)) s
  same_used =
      let le : min used (length s) ≤ used = omega arith in
      sym (take-take (min used (length s)) used o le) ∙ ap (take (min used (length s))) front
      ∙ take-take (min used (length s)) used s le

  pub text_kept : (at : ℕ) (text : List ℕ) → HasText s at text → at + length text < used → HasText o at text
  text_kept at text h lt = text_stays s o used at text h lt (omega (arith, long)) same_used

  pub links_kept : (es : List SnodEntry) (fs : List Found) → AreLinks s es fs
      → EndBefore s (flat_map entry_offsets es) used → AreLinks o es fs
  links_kept es fs h ends = links_stay s o used es fs h ends (omega (arith, long)) same_used

  pub first_kept : 0 < used → slice_index o 0 ≡ slice_index s 0
  first_kept some =
      sym (get_or-take used o 0 0 some) ∙ ap (λ (l : List ℕ). get_or l 0 0) front ∙ get_or-take used s 0 0 some

  -- an index that uses these offsets there has the same used length
  module _ (base : ℕ) (os xs : List ℕ) (texts : HaveTexts s (base ∷ os)) (is_used : IsUsedLen s (base ∷ os) used)
      (among : (at : ℕ) → Contains xs at → IsWith base os at)
      (others : (at : ℕ) → Contains os at → Contains xs at) (first : Contains xs base) where
    back : (at : ℕ) → IsWith base os at → Contains xs at
    back at (inl same) = subst (Contains xs) (sym same) first
    back at (inr later) = others at later

    pub used_kept : IsUsedLen o xs used
    used_kept = record {
      whole = is_used.whole;
      some = is_used.some;
      behind = λ at text c h.
          let there = among_all base os at (among at c) in
          let own = texts at there in
          let before = is_used.behind at own.0 there own.1 in
          let same : text ≡ own.0 = text_same o at text own.0 h (text_kept at own.0 own.1 before) in
          omega (arith, before, ap length same);
      least = λ m full least ends. is_used.least m full least (λ at text c h.
          ends at text (back at (with_first base os at c)) (text_kept at text h (is_used.behind at text c h)));
    }
