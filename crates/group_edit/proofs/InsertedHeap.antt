-- What stands in a heap's segment with one more name, and what an index uses of it.
use Rattle.std.proofs.Common.{◌≡◌, ◌≢◌, ◌⊎◌, ℕ, zero, suc, ◌+◌, ◌%◌, ◌<◌, ◌≤◌, ◌==◌, true, false, List, [], ◌∷◌, ◌++◌}
use Rattle.std.proofs.Common.{length, take, drop, get_or, refl, sym, ◌∙◌, ap, subst, arith, inl, inr, None, Some}
use Rattle.std.proofs.Common.{Option}
use Rattle.std.specs.Prelude.{min}
use Rattle.std.specs.List.{Contains, flat_map, insert}
use Rattle.std.proofs.lemmas.Bool.{cases_lt, ne_eqb}
use Rattle.std.proofs.lemmas.Grind.{flat_map-append}
use Rattle.std.proofs.lemmas.List.{get_or-take, get_or_past, take-append-drop}
use Rattle.std.proofs.lemmas.List.Elements.{Contains-append_left, Contains-append_right, Contains-append_cases}
use Rattle.node_codec.specs.declared.snod.SnodEntry.{SnodEntry}
use Rattle.object_model.specs.Tree.{Name, name_lt, AreOrdered, ComesFirst}
use Rattle.block_space.specs.Plans.{rounded}
use Rattle.file_model.specs.EditLaws.{IsOneMore}
use Rattle.file_model.specs.Index.{Bottom, Node, NoMore, Next, gather_in}
use Rattle.file_model.specs.Groups.{AreLinks, Found, GroupIndex, GroupIndexes, HasText, Header, entry_offsets}
use Rattle.file_model.specs.Groups.{index_offsets, key_offsets}
use Rattle.file_model.proofs.UniqueGroups.{text_same}
use Rattle.entry_list.specs.Places as places
use Rattle.entry_list.proofs.EntryLaws.{links_insert, offsets_insert}
use Rattle.entry_list.proofs.OrderLaws.{order_insert}
use Rattle.group_room.specs.Index.{entries_in}
use Rattle.group_room.specs.Used.{EndBefore, IsUsedLen}
use Rattle.group_layout.proofs.OffsetLemmas.{name_used, offsets_within, one_element}
use Rattle.group_facts.specs.Heap.{HasSomeText, names_of}
use Rattle.group_facts.proofs.HeapTexts.{links_stay, text_stays, used_with_name}
use Rattle.group_rows.specs.declared.group.GroupAt.{GroupAt}
use Rattle.group_edit.specs.declared.target.NewTarget.{NewTarget}
use Rattle.group_edit.specs.Links.{HasName, cached, entry_to}

-- ---- one more

pub one_more : {X : Type 0} (xs : List X) (n : ℕ) (x : X) → IsOneMore x xs (insert xs n x)
one_more xs n x =
    record { before = take n xs; later = drop n xs; without = sym (take-append-drop n xs); whole = refl }

-- ---- the entry

target_is : (name_at header_at : ℕ) (g : Option GroupAt) → ((cached name_at header_at g).name_at ≡ name_at)
    × ((cached name_at header_at g).cache ≤ 1) × ((cached name_at header_at g).header_at ≡ header_at)
target_is name_at header_at None = (refl, omega arith, refl)
target_is name_at header_at (Some g) = (refl, omega arith, refl)

-- it tells the new link
pub tells : (s : List ℕ) (at : ℕ) (name : Name) (t : NewTarget) → HasText s at name
    → AreLinks s (entry_to at t ∷ []) (record { name = name; target = Header t.header_at } ∷ [])
tells s at name t h =
    let is = target_is at t.header_at t.group in
    (subst (λ (a : ℕ). HasText s a name) (sym is.0) h, (is.1, is.2), tt)

-- its offset alone is in use
own_offset : (e : SnodEntry) (o : ℕ) → e.cache ≤ 1 → Contains (entry_offsets e) o → o ≡ e.name_at
own_offset e o le c =
    let test : (e.cache == 2) ≡ false = ne_eqb e.cache 2 (λ two. omega (arith, two, le)) in
    let one : Contains (e.name_at ∷ []) o = rw test at c in
    sym (one_element e.name_at o one)

-- with it, an offset in use is that of the name, or was in use
pub offset_is : (es : List SnodEntry) (n at : ℕ) (t : NewTarget) (o : ℕ)
    → Contains (flat_map entry_offsets (insert es n (entry_to at t))) o
    → (o ≡ at) ⊎ Contains (flat_map entry_offsets es) o
offset_is es n at t o c =
    let is = target_is at t.header_at t.group in
    elim (offsets_insert es n (entry_to at t) o c) [
      | inl own ↦ inl (own_offset (entry_to at t) o is.1 own ∙ is.0)
      | inr was ↦ inr was
    ]

pub name_there : (es : List SnodEntry) (n at : ℕ) (t : NewTarget)
    → Contains (flat_map entry_offsets (insert es n (entry_to at t))) at
name_there es n at t =
    let e = entry_to at t in
    let first = flat_map entry_offsets (take n es) in
    let rest = flat_map entry_offsets (drop n es) in
    let own : Contains (entry_offsets e) at =
    subst (Contains (entry_offsets e)) (target_is at t.header_at t.group).0 (name_used (e.cache == 2) e) in
    subst (λ (l : List ℕ). Contains l at) (sym (flat_map-append entry_offsets (take n es) (e ∷ drop n es)))
    (Contains-append_right first (entry_offsets e ++ rest) at (Contains-append_left (entry_offsets e) rest at own))

-- ---- order

first_insert : (k : Name) (fs : List Found) (n : ℕ) (f : Found) → ComesFirst k (names_of fs)
    → name_lt k f.name ≡ true → ComesFirst k (names_of (insert fs n f))
first_insert k fs zero f first lt = lt
first_insert k [] (suc n) f first lt = lt
first_insert k (g ∷ fs) (suc n) f first lt = first

empty_before : (name : Name) → 1 ≤ length name → name_lt [] name ≡ true
empty_before [] some = absurd (omega (arith, some))
empty_before (c ∷ name) some = refl

pub ordered_with : (fs : List Found) (n : ℕ) (f : Found) → 1 ≤ length f.name → AreOrdered ([] ∷ names_of fs)
    → places.IsPlace fs f.name n → (HasName fs f.name → ⊥) → AreOrdered ([] ∷ names_of (insert fs n f))
ordered_with fs n f some o place lacks = (
  first_insert [] fs n f o.0 (empty_before f.name some),
  order_insert fs n f o.1 place (λ h. lacks (record { link = h.link; one = h.one; is = h.is })),
)

-- ---- what an index uses

abbrev entries_within : GroupIndexes → List SnodEntry
entries_within = gather_in (λ n. []) (λ s. s.entries)

mutual
  -- the offsets of its entries are in use
  pub entry_uses : (x : GroupIndex) (o : ℕ) → Contains (flat_map entry_offsets (entries_in x)) o
      → Contains (index_offsets x) o
  entry_uses (Bottom leaf) o c = c
  entry_uses (Node n xs) o c = Contains-append_right (key_offsets n.node) (offsets_within xs) o (entries_use xs o c)

  entries_use : (xs : GroupIndexes) (o : ℕ) → Contains (flat_map entry_offsets (entries_within xs)) o
      → Contains (offsets_within xs) o
  entries_use NoMore o c = c
  entries_use (Next x xs) o c =
      let own = flat_map entry_offsets (entries_in x) in
      let rest = flat_map entry_offsets (entries_within xs) in
      let both : Contains (own ++ rest) o = subst (λ (l : List ℕ). Contains l o)
      (flat_map-append entry_offsets (entries_in x) (entries_within xs)) c in
      elim (Contains-append_cases own rest o both) [
        | inl here ↦ Contains-append_left (index_offsets x) (offsets_within xs) o (entry_uses x o here)
        | inr later ↦ Contains-append_right (index_offsets x) (offsets_within xs) o (entries_use xs o later)
      ]

-- ---- the segment

-- A segment s has a name at the used length, and before it the bytes of the segment o.
pub record IsWithName (o s : List ℕ) (used : ℕ) (name : Name) : Type 0 where
  pub low : 8 ≤ used
  pub front : take (min used (length o)) s ≡ take (min used (length o)) o
  pub empty : length o ≡ 0 → get_or s 0 0 ≡ 0
  pub text : HasText s used name

-- where a byte is 0, an empty text stands
empty_text : (s : List ℕ) (at : ℕ) → at < length s → get_or s at 0 ≡ 0 → HasText s at []
empty_text s at lt z = record {
  inside = omega (arith, lt);
  stands = refl;
  ended = ap (λ (i : ℕ). get_or s i 0) (omega arith) ∙ z;
  no_nul = λ k d less. absurd (omega (arith, less));
}

-- the offset of the empty name: 0, or that of the new name's NUL
pub record IsBase (o : List ℕ) (used : ℕ) (name : Name) (base : ℕ) : Type 0 where
  pub zero : get_or o 0 0 ≡ 0 → base ≡ 0
  pub other : get_or o 0 0 ≢ 0 → base ≡ used + length name

module _ (o s : List ℕ) (used : ℕ) (name : Name) (w : IsWithName o s used name) where
  long : min used (length o) ≤ length s
  long = omega (arith, w.text.inside)

  pub first_same : get_or s 0 0 ≡ get_or o 0 0
  first_same = elim (cases_lt 0 (length o)) [
    | inl some ↦
        let lt : 0 < min used (length o) = omega (arith, w.low, some) in
        sym (get_or-take (min used (length o)) s 0 0 lt) ∙ ap (λ (l : List ℕ). get_or l 0 0) w.front
        ∙ get_or-take (min used (length o)) o 0 0 lt
    | inr none ↦ w.empty (omega (arith, none)) ∙ sym (get_or_past o 0 0 none)
  ]

  pub base_text : (base : ℕ) → IsBase o used name base → HasText s base []
  base_text base b = elim (cases_lt 0 (get_or o 0 0)) [
    | inl some ↦ subst (λ (a : ℕ). HasText s a []) (sym (b.other (λ z. omega (arith, some, z))))
        (empty_text s (used + length name) w.text.inside w.text.ended)
    | inr none ↦
        let z : get_or o 0 0 ≡ 0 = omega (arith, none) in
        subst (λ (a : ℕ). HasText s a []) (sym (b.zero z))
        (empty_text s 0 (omega (arith, w.low, w.text.inside)) (first_same ∙ z))
  ]

  -- a text at the base is the empty one
  base_ends : (base : ℕ) → IsBase o used name base
      → (base ≡ used + length name) ⊎ ((text : List ℕ) → HasText s base text → base + length text < used)
  base_ends base b = elim (cases_lt 0 (get_or o 0 0)) [
    | inl some ↦ inl (b.other (λ z. omega (arith, some, z)))
    | inr none ↦
        let z : base ≡ 0 = b.zero (omega (arith, none)) in
        inr (λ text h.
        let is : text ≡ [] = text_same s base text [] h (base_text base b) in
        omega (arith, z, ap length is, w.low))
  ]

  -- texts of the old segment that end before the used length stand, and no other at their offsets
  pub stays_there : (at : ℕ) (text : List ℕ) → HasText o at text → at + length text < used → HasText s at text
  stays_there at text h lt = text_stays o s used at text h lt long w.front

  ends_there : (at : ℕ) → HasSomeText o at → ((text : List ℕ) → HasText o at text → at + length text < used)
      → (text : List ℕ) → HasText s at text → at + length text < used
  ends_there at old ends text h =
      let lt = ends old.0 old.1 in
      let is : text ≡ old.0 = text_same s at text old.0 h (stays_there at old.0 old.1 lt) in
      omega (arith, lt, ap length is)

  pub links_there : (es : List SnodEntry) (fs : List Found) (n : ℕ) (t : NewTarget) → AreLinks o es fs
      → EndBefore o (flat_map entry_offsets es) used → n ≤ length es
      → AreLinks s (insert es n (entry_to used t)) (insert fs n (record { name = name; target = Header t.header_at }))
  links_there es fs n t h ends le =
      links_insert s es fs n (entry_to used t) (record { name = name; target = Header t.header_at })
      (links_stay o s used es fs h ends long w.front) (tells s used name t w.text) le

  -- the used length, where offsets are the base and those of entries
  pub used_then : (offsets : List ℕ) (es : List SnodEntry) (n : ℕ) (t : NewTarget) (base : ℕ) → used % 8 ≡ 0
      → IsBase o used name base
      → ((at : ℕ) → Contains (flat_map entry_offsets es) at → HasSomeText o at)
      → EndBefore o (flat_map entry_offsets es) used
      → ((at : ℕ) → Contains offsets at
      → (at ≡ base) ⊎ Contains (flat_map entry_offsets (insert es n (entry_to used t))) at)
      → ((at : ℕ) → Contains (flat_map entry_offsets (insert es n (entry_to used t))) at → Contains offsets at)
      → IsUsedLen s offsets (rounded (used + length name + 1))
  used_then offsets es n t base whole b texts ends parts uses =
      used_with_name s offsets used name whole w.low (uses used (name_there es n used t)) w.text (λ at c.
      elim (parts at c) [
        | inl is ↦ elim (base_ends base b) [
          | inl nul ↦ inr (inl (is ∙ nul))
          | inr before ↦ inr (inr (λ text h.
              subst (λ (a : ℕ). a + length text < used) (sym is)
              (before text (subst (λ (a : ℕ). HasText s a text) is h))))
        ]
        | inr there ↦ elim (offset_is es n used t at there) [
          | inl is ↦ inl is
          | inr was ↦ inr (inr (ends_there at (texts at was) (λ text h. ends at text was h)))
        ]
      ])
