-- Texts of a heap: where they stay, which stand at the offsets of entries, and how far one more name reaches.
use Rattle.std.proofs.Common.{◌≡◌, ℕ, ◌+◌, ◌<◌, ◌≤◌, ◌==◌, true, false, List, [], ◌∷◌, length, take, drop}
use Rattle.std.proofs.Common.{get_or, refl, sym, ◌∙◌, ap, subst, arith, inl, inr}
use Rattle.std.specs.Prelude.{min}
use Rattle.std.specs.List.{Contains, flat_map}
use Rattle.std.proofs.lemmas.Bool.{ne_eqb}
use Rattle.std.proofs.lemmas.List.{get_or-take, take-take, drop-take}
use Rattle.std.proofs.lemmas.List.Elements.{Contains-append_left, Contains-append_right, Contains-append_cases}
use Rattle.h5_base.specs.Fields.{bytes_at}
use Rattle.node_codec.specs.Snod.{soft_value_at}
use Rattle.node_codec.specs.declared.snod.SnodEntry.{SnodEntry}
use Rattle.file_model.specs.Groups.{HasText, Target, Header, Text, Found, IsTarget, AreLinks, entry_offsets}
use Rattle.file_model.proofs.NoFault.{no_element}
use Rattle.file_model.proofs.UniqueGroups.{text_same}
use Rattle.group_layout.proofs.OffsetLemmas.{name_used, one_element}
use Rattle.group_facts.specs.Heap.{HasSomeText, TextStays, LinksStay, LinksHaveTexts, UsedWithName}

-- ---- texts that stay

bytes_stay : (s o : List ℕ) (n at m : ℕ) → take n o ≡ take n s → at + m ≤ n → bytes_at o at m ≡ bytes_at s at m
bytes_stay s o n at m same le =
    let part : take (at + m) o ≡ take (at + m) s =
    sym (take-take (at + m) n o le) ∙ ap (λ (l : List ℕ). take (at + m) l) same ∙ take-take (at + m) n s le in
    sym (drop-take at m o) ∙ ap (λ (l : List ℕ). drop at l) part ∙ drop-take at m s

byte_stays : (s o : List ℕ) (n i : ℕ) → take n o ≡ take n s → i < n → get_or o i 0 ≡ get_or s i 0
byte_stays s o n i same lt =
    sym (get_or-take n o i 0 lt) ∙ ap (λ (l : List ℕ). get_or l i 0) same ∙ get_or-take n s i 0 lt

before_both : (a used len : ℕ) → a < used → a < len → a < min used len
before_both a used len first second = omega arith

pub text_stays : TextStays
text_stays s o used at text h ends long same =
    let n : ℕ = min used (length s) in
    let lt : at + length text < n = before_both (at + length text) used (length s) ends h.inside in
    record {
      inside = omega (arith, long, lt);
      stands = bytes_stay s o n at (length text) same (omega (arith, lt)) ∙ h.stands;
      ended = byte_stays s o n (at + length text) same lt ∙ h.ended;
      no_nul = h.no_nul;
    }

-- the texts at these offsets stand in the other segment
abbrev Stay : List ℕ → List ℕ → List ℕ → Type 0
Stay s o ats = (at : ℕ) (text : List ℕ) → Contains ats at → HasText s at text → HasText o at text

value_used : (e : SnodEntry) → e.cache ≡ 2 → Contains (entry_offsets e) (soft_value_at e)
value_used e two = let test : (e.cache == 2) ≡ true = rw two refl in rw test (1, omega arith, refl)

target_stays : (s o : List ℕ) (e : SnodEntry) (t : Target) → Stay s o (entry_offsets e) → IsTarget s e t
    → IsTarget o e t
target_stays s o e (Header at) m h = h
target_stays s o e (Text text) m h = (h.0, m (soft_value_at e) text (value_used e h.0) h.1)

all_stay : (s o : List ℕ) (es : List SnodEntry) (fs : List Found) → Stay s o (flat_map entry_offsets es)
    → AreLinks s es fs → AreLinks o es fs
all_stay s o [] [] m h = h
all_stay s o [] (f ∷ fs) m h = h
all_stay s o (e ∷ es) [] m h = h
all_stay s o (e ∷ es) (f ∷ fs) m h =
    let later = flat_map entry_offsets es in
    let own : Stay s o (entry_offsets e) =
    λ at text c. m at text (Contains-append_left (entry_offsets e) later at c) in (
      own e.name_at f.name (name_used (e.cache == 2) e) h.0,
      target_stays s o e f.target own h.1,
      all_stay s o es fs (λ at text c. m at text (Contains-append_right (entry_offsets e) later at c)) h.2,
    )

pub links_stay : LinksStay
links_stay s o used es fs h ends long same =
    all_stay s o es fs (λ at text c t. text_stays s o used at text t (ends at text c t) long same) h

-- ---- texts at the offsets of entries

entry_text : (s : List ℕ) (e : SnodEntry) (name : List ℕ) (t : Target) → HasText s e.name_at name → IsTarget s e t
    → (o : ℕ) → Contains (entry_offsets e) o → HasSomeText s o
entry_text s e name (Header at) text h o c =
    let test : (e.cache == 2) ≡ false = ne_eqb e.cache 2 (λ two. omega (arith, two, h.0)) in
    let one : Contains (e.name_at ∷ []) o = rw test at c in
    subst (HasSomeText s) (one_element e.name_at o one) (name, text)
entry_text s e name (Text value) text h o c =
    let test : (e.cache == 2) ≡ true = rw h.0 refl in
    let two : Contains (e.name_at ∷ soft_value_at e ∷ []) o = rw test at c in
    elim (Contains-append_cases (e.name_at ∷ []) (soft_value_at e ∷ []) o two) [
      | inl first ↦ subst (HasSomeText s) (one_element e.name_at o first) (name, text)
      | inr second ↦ subst (HasSomeText s) (one_element (soft_value_at e) o second) (value, h.1)
    ]

pub links_have_texts : LinksHaveTexts
links_have_texts s [] fs h o c = absurd (no_element o c)
links_have_texts s (e ∷ es) [] h o c = absurd h
links_have_texts s (e ∷ es) (f ∷ fs) h o c =
    elim (Contains-append_cases (entry_offsets e) (flat_map entry_offsets es) o c) [
      | inl own ↦ entry_text s e f.name f.target h.0 h.1 o own
      | inr later ↦ links_have_texts s es fs h.2 o later
    ]

-- ---- one more name

-- the NUL behind a name is an empty text
name_end : (s : List ℕ) (at : ℕ) (name text : List ℕ) → HasText s at name → HasText s (at + length name) text
    → text ≡ []
name_end s at name text h t = text_same s (at + length name) text [] t (record {
  inside = omega (arith, h.inside);
  stands = refl;
  ended = ap (λ (i : ℕ). get_or s i 0) (omega arith) ∙ h.ended;
  no_nul = λ k d lt. absurd (omega (arith, lt));
})

pub used_with_name : UsedWithName
used_with_name s offsets used name whole some there text each = record {
  whole = omega arith;
  some = omega arith;
  behind = λ at t c h. elim (each at c) [
    | inl same ↦
        let is : t ≡ name = text_same s used t name (subst (λ (i : ℕ). HasText s i t) same h) text in
        omega (arith, same, ap length is)
    | inr other ↦ elim other [
      | inl same ↦
          let is : t ≡ [] = name_end s used name t text (subst (λ (i : ℕ). HasText s i t) same h) in
          omega (arith, same, ap length is)
      | inr before ↦ omega (arith, before t h)
    ]
  ];
  least = λ m full least ends.
      let lt : used + length name < m = ends used name there text in
      omega arith;
}
