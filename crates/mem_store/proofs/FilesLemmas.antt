-- A table that is filled file by file shows the first file of each name.
use Rattle.std.proofs.Common.{◌≡◌, ◌≢◌, ℕ, suc, ◌<◌, ◌⊎◌, inl, inr, List, [], ◌∷◌, ◌++◌, length, map, get_or, refl, sym, ◌∙◌, ap, subst, arith, length-append}
use Rattle.std.proofs.lemmas.Bool.{cases_lt}
use Rattle.std.proofs.lemmas.List.{get_or_past, get_or_append_left, get_or_push, map-append, append-nil}
use Rattle.file_ids.specs.Ids.{place_of}
use Rattle.file_ids.proofs.PlaceLemmas.{bytes_same, place_of-le, place_of-append_left, place_of-append_new}
use Rattle.mem_store.specs.declared.given.NamedBytes.{NamedBytes}
use Rattle.mem_store.specs.Held.{file_of}

place_of-append_other : (q m : List ℕ) (ns : List (List ℕ)) → place_of q ns ≡ length ns → q ≢ m → place_of q (ns ++ m ∷ []) ≡ suc (length ns)
place_of-append_other q m [] absent other = elim (bytes_same q m) [
  | inl same ↦ absurd (other same.1)
  | inr apart ↦ rw apart.0 refl
]
place_of-append_other q m (x ∷ xs) absent other = elim (bytes_same q x) [
  | inl same ↦ let here : 0 ≡ length (x ∷ xs) = rw same.0 at absent in absurd (omega arith)
  | inr apart ↦
      let further : suc (place_of q xs) ≡ length (x ∷ xs) = rw apart.0 at absent in
      let absent' : place_of q xs ≡ length xs = omega arith in
      rw apart.0 (ap suc (place_of-append_other q m xs absent' other))
]

is_same : (q m : List ℕ) → (q ≡ m) ⊎ (q ≢ m)
is_same q m = elim (bytes_same q m) [ inl same ↦ inl same.1 | inr apart ↦ inr apart.1 ]

-- a name is known after a push where it was, or is the new one
pushed_known : (q m : List ℕ) (ns : List (List ℕ)) → place_of q (ns ++ m ∷ []) < length (ns ++ m ∷ []) → (place_of q ns < length ns) ⊎ (q ≡ m)
pushed_known q m ns lt = elim (cases_lt (place_of q ns) (length ns)) [
  | inl known ↦ inl known
  | inr past ↦ elim (is_same q m) [
    | inl same ↦ inr same
    | inr other ↦
        let absent : place_of q ns ≡ length ns = omega (arith, place_of-le ns q) in
        absurd (omega (arith, place_of-append_other q m ns absent other, length-append ns (m ∷ [])))
  ]
]

known_pushed : (q m : List ℕ) (ns : List (List ℕ)) → place_of q ns < length ns → place_of q (ns ++ m ∷ []) < length (ns ++ m ∷ [])
known_pushed q m ns known = omega (arith, place_of-append_left q ns (m ∷ []) known, length-append ns (m ∷ []))

last_pushed : (q m : List ℕ) (ns : List (List ℕ)) → q ≡ m → place_of q (ns ++ m ∷ []) < length (ns ++ m ∷ [])
last_pushed q m ns same = elim (cases_lt (place_of q ns) (length ns)) [
  | inl known ↦ known_pushed q m ns known
  | inr past ↦
      let absent : place_of q ns ≡ length ns = omega (arith, place_of-le ns q) in
      omega (arith, ap (λ (n : List ℕ). place_of q (ns ++ n ∷ [])) (sym same) ∙ place_of-append_new q ns absent, length-append ns (m ∷ []))
]

file_old : (q m x : List ℕ) (ns cs : List (List ℕ)) → length cs ≡ length ns → place_of q ns < length ns → file_of (ns ++ m ∷ []) (cs ++ x ∷ []) q ≡ file_of ns cs q
file_old q m x ns cs size known =
    ap (λ (k : ℕ). get_or (cs ++ x ∷ []) k []) (place_of-append_left q ns (m ∷ []) known)
    ∙ get_or_append_left cs (x ∷ []) [] (place_of q ns) (omega arith)

file_new : (q m x : List ℕ) (ns cs : List (List ℕ)) → length cs ≡ length ns → place_of q ns ≡ length ns → q ≡ m → file_of (ns ++ m ∷ []) (cs ++ x ∷ []) q ≡ x
file_new q m x ns cs size absent same =
    ap (λ (n : List ℕ). file_of (ns ++ n ∷ []) (cs ++ x ∷ []) q) (sym same)
    ∙ get_or_push cs x [] (place_of q (ns ++ q ∷ [])) (size ∙ sym (place_of-append_new q ns absent))

file_none : (q m x : List ℕ) (ns cs : List (List ℕ)) → length cs ≡ length ns → place_of q ns ≡ length ns → q ≢ m → file_of (ns ++ m ∷ []) (cs ++ x ∷ []) q ≡ []
file_none q m x ns cs size absent other =
    get_or_past (cs ++ x ∷ []) (place_of q (ns ++ m ∷ [])) [] (omega (arith, place_of-append_other q m ns absent other, length-append cs (x ∷ [])))

file_past : (q : List ℕ) (ns cs : List (List ℕ)) → length cs ≡ length ns → place_of q ns ≡ length ns → file_of ns cs q ≡ []
file_past q ns cs size absent = get_or_past cs (place_of q ns) [] (omega arith)

-- one file more that is empty shows nothing new
pub file_empty : (q m : List ℕ) (ns cs : List (List ℕ)) → length cs ≡ length ns → file_of (ns ++ m ∷ []) (cs ++ [] ∷ []) q ≡ file_of ns cs q
file_empty q m ns cs size = elim (cases_lt (place_of q ns) (length ns)) [
  | inl known ↦ file_old q m [] ns cs size known
  | inr past ↦
      let absent : place_of q ns ≡ length ns = omega (arith, place_of-le ns q) in
      elim (is_same q m) [
        | inl is ↦ file_new q m [] ns cs size absent is ∙ sym (file_past q ns cs size absent)
        | inr other ↦ file_none q m [] ns cs size absent other ∙ sym (file_past q ns cs size absent)
      ]
]

-- no file is left to be given
pub all_given : (files ys left : List NamedBytes) (len : ℕ) → files ≡ ys ++ left → len ≡ length left → len ≡ 0 → ys ≡ files
all_given files ys [] len is size none = sym (is ∙ append-nil ys)
all_given files ys (x ∷ xs) len is size none = absurd (omega (arith, size, none))

-- the table shows the first file of each name among these
pub record Shows (ns cs gs ds : List (List ℕ)) : Type 0 where
  pub size : length cs ≡ length ns
  pub given : length ds ≡ length gs
  pub files : (q : List ℕ) → file_of ns cs q ≡ file_of gs ds q
  pub known : (q : List ℕ) → place_of q ns < length ns → place_of q gs < length gs
  pub shown : (q : List ℕ) → place_of q gs < length gs → place_of q ns < length ns

pub shows_nothing : Shows [] [] [] []
shows_nothing = record { size = refl; given = refl; files = λ q. refl; known = λ q lt. lt; shown = λ q lt. lt }

pub shows_again : (ns cs gs ds : List (List ℕ)) (m x : List ℕ) → Shows ns cs gs ds → place_of m ns < length ns → Shows ns cs (gs ++ m ∷ []) (ds ++ x ∷ [])
shows_again ns cs gs ds m x shows again = record {
  size = shows.size;
  given = omega (arith, length-append ds (x ∷ []), length-append gs (m ∷ []), shows.given);
  files = λ q. shows.files q ∙ sym (same q);
  known = λ q lt. known_pushed q m gs (shows.known q lt);
  shown = λ q lt. elim (pushed_known q m gs lt) [
    | inl known ↦ shows.shown q known
    | inr is ↦ subst (λ (n : List ℕ). place_of n ns < length ns) (sym is) again
  ];
}
  where
    same : (q : List ℕ) → file_of (gs ++ m ∷ []) (ds ++ x ∷ []) q ≡ file_of gs ds q
    same q = elim (cases_lt (place_of q gs) (length gs)) [
      | inl known ↦ file_old q m x gs ds shows.given known
      | inr past ↦
          let absent : place_of q gs ≡ length gs = omega (arith, place_of-le gs q) in
          let other : q ≢ m = λ is. let known : place_of q gs < length gs = subst (λ (n : List ℕ). place_of n gs < length gs) (sym is) (shows.known m again) in absurd (omega arith) in
          file_none q m x gs ds shows.given absent other ∙ sym (file_past q gs ds shows.given absent)
    ]

pub shows_more : (ns cs gs ds : List (List ℕ)) (m x : List ℕ) → Shows ns cs gs ds → place_of m ns ≡ length ns → Shows (ns ++ m ∷ []) (cs ++ x ∷ []) (gs ++ m ∷ []) (ds ++ x ∷ [])
shows_more ns cs gs ds m x shows new = record {
  size = omega (arith, length-append cs (x ∷ []), length-append ns (m ∷ []), shows.size);
  given = omega (arith, length-append ds (x ∷ []), length-append gs (m ∷ []), shows.given);
  files = same;
  known = λ q lt. elim (pushed_known q m ns lt) [ inl known ↦ known_pushed q m gs (shows.known q known) | inr is ↦ last_pushed q m gs is ];
  shown = λ q lt. elim (pushed_known q m gs lt) [ inl known ↦ known_pushed q m ns (shows.shown q known) | inr is ↦ last_pushed q m ns is ];
}
  where
    same : (q : List ℕ) → file_of (ns ++ m ∷ []) (cs ++ x ∷ []) q ≡ file_of (gs ++ m ∷ []) (ds ++ x ∷ []) q
    same q = elim (cases_lt (place_of q ns) (length ns)) [
      | inl known ↦ file_old q m x ns cs shows.size known ∙ shows.files q ∙ sym (file_old q m x gs ds shows.given (shows.known q known))
      | inr past ↦
          let absent : place_of q ns ≡ length ns = omega (arith, place_of-le ns q) in
          elim (cases_lt (place_of q gs) (length gs)) [
            | inl known ↦ let known' : place_of q ns < length ns = shows.shown q known in absurd (omega arith)
            | inr past' ↦
                let absent' : place_of q gs ≡ length gs = omega (arith, place_of-le gs q) in
                elim (is_same q m) [
                  | inl is ↦ file_new q m x ns cs shows.size absent is ∙ sym (file_new q m x gs ds shows.given absent' is)
                  | inr other ↦ file_none q m x ns cs shows.size absent other ∙ sym (file_none q m x gs ds shows.given absent' other)
                ]
          ]
    ]

pub shows_map : (ns cs : List (List ℕ)) (fs : List NamedBytes) (f : NamedBytes) → Shows ns cs (map (λ (g : NamedBytes). g.name) fs ++ f.name ∷ []) (map (λ (g : NamedBytes). g.bytes) fs ++ f.bytes ∷ [])
    → Shows ns cs (map (λ (g : NamedBytes). g.name) (fs ++ f ∷ [])) (map (λ (g : NamedBytes). g.bytes) (fs ++ f ∷ []))
shows_map ns cs fs f shows =
    let names = map-append (λ (g : NamedBytes). g.name) fs (f ∷ []) in
    let bytes = map-append (λ (g : NamedBytes). g.bytes) fs (f ∷ []) in
    subst (λ (p : List (List ℕ) × List (List ℕ)). Shows ns cs p.0 p.1) (λ j. (sym names j, sym bytes j)) shows

pub shows_at : (ns cs gs ds ns1 cs1 : List (List ℕ)) → Shows ns cs gs ds → ns1 ≡ ns → cs1 ≡ cs → Shows ns1 cs1 gs ds
shows_at ns cs gs ds ns1 cs1 shows names contents = subst (λ (p : List (List ℕ) × List (List ℕ)). Shows p.0 p.1 gs ds) (λ j. (sym names j, sym contents j)) shows
