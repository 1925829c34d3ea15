-- What an index that is laid out uses of its heap: the names and values of its entries, and where its least key stands.
use Rattle.std.proofs.Common.{◌≡◌, ◌⊎◌, ℕ, zero, suc, ◌*◌, ◌<◌, ◌≤◌, ◌==◌, Bool, true, false, List, [], ◌∷◌, ◌++◌}
use Rattle.std.proofs.Common.{length, map, take, drop, refl, sym, ◌∙◌, ap, subst, arith, inl, inr}
use Rattle.std.specs.Prelude.{if◌then◌else◌}
use Rattle.std.specs.List.{Contains, flat_map}
use Rattle.std.proofs.lemmas.Bool.{ne_eqb}
use Rattle.std.proofs.lemmas.Grind.{flat_map-append}
use Rattle.std.proofs.lemmas.List.{take-append-drop}
use Rattle.std.proofs.lemmas.List.Elements.{Contains-append_left, Contains-append_right, Contains-append_cases}
use Rattle.std.proofs.lemmas.List.Elements.{Contains-push_cases}
use Rattle.h5_base.specs.Fields.{undefined}
use Rattle.node_codec.specs.Snod.{soft_value_at}
use Rattle.node_codec.specs.declared.snod.SnodEntry.{SnodEntry}
use Rattle.file_model.specs.Index.{gather_in}
use Rattle.file_model.specs.Groups.{Found, GroupIndex, GroupIndexes, LeafNode, address_of, entry_offsets}
use Rattle.file_model.specs.Groups.{key_offsets}
use Rattle.file_model.proofs.NoFault.{no_element}
use Rattle.group_layout.specs.Rows.{laid, keys_above, row_above, rows_above, HaveRoom}
use Rattle.group_layout.specs.Leaves.{leaves, leaf_keys, last_key}
use Rattle.group_layout.proofs.RowLemmas.{left_over, none_left, gathered_parts, gathered_above}
use Rattle.group_layout.proofs.RowsLemmas.{row_length}

-- ---- parts of a list

contains_take : {X : Type 0} (n : ℕ) (xs : List X) (x : X) → Contains (take n xs) x → Contains xs x
contains_take n xs x c =
    subst (λ l. Contains l x) (take-append-drop n xs) (Contains-append_left (take n xs) (drop n xs) x c)

contains_drop : {X : Type 0} (n : ℕ) (xs : List X) (x : X) → Contains (drop n xs) x → Contains xs x
contains_drop n xs x c =
    subst (λ l. Contains l x) (take-append-drop n xs) (Contains-append_right (take n xs) (drop n xs) x c)

pub one_element : {X : Type 0} (x y : X) → Contains (x ∷ []) y → x ≡ y
one_element x y c = elim (Contains-push_cases [] x y c) [
  | inl none ↦ absurd (no_element y none)
  | inr same ↦ same
]

-- ---- symbol table nodes

parts_of : {A : Type 0} (f : SnodEntry → List A) (n : ℕ) (es : List SnodEntry)
    → flat_map f (take n es) ++ flat_map f (drop n es) ≡ flat_map f es
parts_of f n es = sym (flat_map-append f (take n es) (drop n es)) ∙ ap (flat_map f) (take-append-drop n es)

pub leaf_entries : (room : ℕ) (ats : List ℕ) (es : List SnodEntry) (fs : List Found) → length es ≤ room * length ats
    → gather_in (λ n. []) (λ s. s.entries) (laid (leaves room ats es fs)) ≡ es
leaf_entries room [] es fs le = sym (none_left room es le)
leaf_entries room (at ∷ ats) es fs le =
    let later = leaf_entries room ats (drop room es) (drop room fs) (left_over room (length ats) es le) in
    ap (λ (l : List SnodEntry). take room es ++ l) later ∙ take-append-drop room es

pub leaf_addresses : (room : ℕ) (ats : List ℕ) (es : List SnodEntry) (fs : List Found)
    → gather_in (λ n. []) (λ s. s.at ∷ []) (laid (leaves room ats es fs)) ≡ ats
leaf_addresses room [] es fs = refl
leaf_addresses room (at ∷ ats) es fs =
    ap (λ (l : List ℕ). at ∷ l) (leaf_addresses room ats (drop room es) (drop room fs))

-- the offsets in use under a node
abbrev pub offsets_within : GroupIndexes → List ℕ
offsets_within = gather_in (λ n. key_offsets n.node) (λ s. flat_map entry_offsets s.entries)

pub leaf_offsets : (room : ℕ) (ats : List ℕ) (es : List SnodEntry) (fs : List Found) → length es ≤ room * length ats
    → offsets_within (laid (leaves room ats es fs)) ≡ flat_map entry_offsets es
leaf_offsets room [] es fs le = ap (flat_map entry_offsets) (sym (none_left room es le))
leaf_offsets room (at ∷ ats) es fs le =
    let later = leaf_offsets room ats (drop room es) (drop room fs) (left_over room (length ats) es le) in
    ap (λ (l : List ℕ). flat_map entry_offsets (take room es) ++ l) later ∙ parts_of entry_offsets room es

pub name_used : (test : Bool) (e : SnodEntry)
    → Contains (if test then (e.name_at ∷ soft_value_at e ∷ []) else (e.name_at ∷ [])) e.name_at
name_used true e = (0, omega arith, refl)
name_used false e = (0, omega arith, refl)

-- the key behind some entries is the one before them, or the name of an entry
last_used : (base : ℕ) (es : List SnodEntry)
    → (last_key base es ≡ base) ⊎ Contains (flat_map entry_offsets es) (last_key base es)
last_used base [] = inl refl
last_used base (e ∷ es) =
    let own = entry_offsets e in
    let rest = flat_map entry_offsets es in
    let last = last_key e.name_at es in
    elim (last_used e.name_at es) as (λ x. (last ≡ base) ⊎ Contains (own ++ rest) last) [
      | inl same ↦ inr (Contains-append_left own rest last
          (subst (Contains own) (sym same) (name_used (e.cache == 2) e)))
      | inr later ↦ inr (Contains-append_right own rest last later)
    ]

pub leaf_keys_are : (room base : ℕ) (ats : List ℕ) (es : List SnodEntry) (o : ℕ)
    → Contains (leaf_keys room base ats es) o → (o ≡ base) ⊎ Contains (flat_map entry_offsets es) o
leaf_keys_are room base [] es o c = inl (sym (one_element base o c))
leaf_keys_are room base (at ∷ ats) es o c =
    let last = last_key base (take room es) in
    let first = flat_map entry_offsets (take room es) in
    let rest = flat_map entry_offsets (drop room es) in
    let whole = parts_of entry_offsets room es in
    elim (Contains-append_cases (base ∷ []) (leaf_keys room last ats (drop room es)) o c) [
      | inl here ↦ inl (sym (one_element base o here))
      | inr later ↦ elim (leaf_keys_are room last ats (drop room es) o later) [
        | inl is ↦ elim (last_used base (take room es)) [
          | inl same ↦ inl (is ∙ same)
          | inr there ↦ inr (subst (λ l. Contains l o) whole (Contains-append_left first rest o
              (subst (Contains first) (sym is) there)))
        ]
        | inr there ↦ inr (subst (λ l. Contains l o) whole (Contains-append_right first rest o there))
      ]
    ]

-- ---- a row above another

keys_are : (room : ℕ) (ats keys : List ℕ) (xs : List GroupIndex) (o : ℕ) → Contains (keys_above room ats keys xs) o
    → Contains keys o
keys_are room [] [] xs o c = c
keys_are room [] (k ∷ keys) xs o c = Contains-append_left (k ∷ []) keys o c
keys_are room (at ∷ ats) [] xs o c = c
keys_are room (at ∷ ats) (k ∷ keys) xs o c =
    let m : ℕ = length (take room xs) in
    elim (Contains-append_cases (k ∷ []) (keys_above room ats (drop m (k ∷ keys)) (drop room xs)) o c) [
      | inl here ↦ Contains-append_left (k ∷ []) keys o here
      | inr later ↦ contains_drop m (k ∷ keys) o (keys_are room ats (drop m (k ∷ keys)) (drop room xs) o later)
    ]

pub own_keys : (test : Bool) (keys : List ℕ) (o : ℕ) → Contains (if test then [] else keys) o → Contains keys o
own_keys true keys o c = absurd (no_element o c)
own_keys false keys o c = c

-- what is in use under two parts of a row
abbrev parts : (room : ℕ) (xs : List GroupIndex)
    → offsets_within (laid (take room xs)) ++ offsets_within (laid (drop room xs)) ≡ offsets_within (laid xs)
parts room xs = gathered_parts (λ n. key_offsets n.node) (λ s. flat_map entry_offsets s.entries) room xs

row_uses : (level room before : ℕ) (ats keys : List ℕ) (xs : List GroupIndex) (o : ℕ)
    → Contains (offsets_within (laid (row_above level room before ats keys xs))) o
    → Contains keys o ⊎ Contains (offsets_within (laid xs)) o
row_uses level room before [] keys xs o c = absurd (no_element o c)
row_uses level room before (at ∷ ats) keys xs o c =
    let m : ℕ = length (take room xs) in
    let first = offsets_within (laid (take room xs)) in
    let rest = offsets_within (laid (drop room xs)) in
    let test = length (map address_of (take room xs)) == 0 in
    let own = if test then [] else take (suc m) keys in
    let more = row_above level room at ats (drop m keys) (drop room xs) in
    elim (Contains-append_cases (own ++ first) (offsets_within (laid more)) o c) [
      | inl here ↦ elim (Contains-append_cases own first o here) [
        | inl key ↦ inl (contains_take (suc m) keys o (own_keys test (take (suc m) keys) o key))
        | inr below ↦ inr (subst (λ l. Contains l o) (parts room xs) (Contains-append_left first rest o below))
      ]
      | inr later ↦ elim (row_uses level room at ats (drop m keys) (drop room xs) o later) [
        | inl key ↦ inl (contains_drop m keys o key)
        | inr below ↦ inr (subst (λ l. Contains l o) (parts room xs) (Contains-append_right first rest o below))
      ]
    ]

row_keeps : (level room before : ℕ) (ats keys : List ℕ) (xs : List GroupIndex) (o : ℕ) → length xs ≤ room * length ats
    → Contains (offsets_within (laid xs)) o
    → Contains (offsets_within (laid (row_above level room before ats keys xs))) o
row_keeps level room before [] keys xs o le c =
    subst (λ ys. Contains (offsets_within (laid ys)) o) (none_left room xs le) c
row_keeps level room before (at ∷ ats) keys xs o le c =
    let m : ℕ = length (take room xs) in
    let first = offsets_within (laid (take room xs)) in
    let rest = offsets_within (laid (drop room xs)) in
    let own = if length (map address_of (take room xs)) == 0 then [] else take (suc m) keys in
    let more = offsets_within (laid (row_above level room at ats (drop m keys) (drop room xs))) in
    let both : Contains (first ++ rest) o = subst (λ l. Contains l o) (sym (parts room xs)) c in
    elim (Contains-append_cases first rest o both) [
      | inl below ↦ Contains-append_left (own ++ first) more o (Contains-append_right own first o below)
      | inr later ↦ Contains-append_right (own ++ first) more o
          (row_keeps level room at ats (drop m keys) (drop room xs) o (left_over room (length ats) xs le) later)
    ]

-- the first node has a child, and so its first key is in use
first_used : (level room before : ℕ) (ats : List ℕ) (k : ℕ) (keys : List ℕ) (xs : List GroupIndex) → 0 < length xs
    → length xs ≤ room * length ats
    → Contains (offsets_within (laid (row_above level room before ats (k ∷ keys) xs))) k
first_used level room before ats k keys [] some le = absurd (omega (arith, some))
first_used level room before [] k keys (x ∷ xs) some le = absurd (omega (arith, le))
first_used level zero before (at ∷ ats) k keys (x ∷ xs) some le = absurd (omega (arith, le))
first_used level (suc room) before (at ∷ ats) k keys (x ∷ xs) some le =
    let children = address_of x ∷ map address_of (take room xs) in
    let test : (length children == 0) ≡ false = ne_eqb (length children) 0 (λ z. omega (arith, z)) in
    rw test (0, omega arith, refl)

-- ---- rows above one another

pub rows_use : (level room : ℕ) (rows : List (List ℕ)) (keys : List ℕ) (xs : List GroupIndex) (o : ℕ)
    → Contains (offsets_within (laid (rows_above level room rows keys xs))) o
    → Contains keys o ⊎ Contains (offsets_within (laid xs)) o
rows_use level room [] keys xs o c = inr c
rows_use level room (ats ∷ rows) keys xs o c =
    let ys = row_above level room undefined ats keys xs in
    elim (rows_use (suc level) room rows (keys_above room ats keys xs) ys o c) [
      | inl key ↦ inl (keys_are room ats keys xs o key)
      | inr below ↦ row_uses level room undefined ats keys xs o below
    ]

-- the row above has room for as many as there are addresses
above_fits : (level room : ℕ) (ats : List ℕ) (rows : List (List ℕ)) (keys : List ℕ) (xs : List GroupIndex)
    → HaveRoom room (length ats) rows → HaveRoom room (length (row_above level room undefined ats keys xs)) rows
above_fits level room ats rows keys xs fits =
    subst (λ (n : ℕ). HaveRoom room n rows) (sym (row_length level room undefined ats keys xs)) fits

pub rows_keep : (level room : ℕ) (rows : List (List ℕ)) (keys : List ℕ) (xs : List GroupIndex) (o : ℕ)
    → HaveRoom room (length xs) rows → Contains (offsets_within (laid xs)) o
    → Contains (offsets_within (laid (rows_above level room rows keys xs))) o
rows_keep level room [] keys xs o fits c = c
rows_keep level room (ats ∷ rows) keys xs o fits c =
    rows_keep (suc level) room rows (keys_above room ats keys xs) (row_above level room undefined ats keys xs) o
    (above_fits level room ats rows keys xs fits.1) (row_keeps level room undefined ats keys xs o fits.0 c)

-- with a row over one that isn't empty, the first key is in use
pub rows_first : (level room : ℕ) (rows : List (List ℕ)) (k : ℕ) (keys : List ℕ) (xs : List GroupIndex)
    → 0 < length rows → 0 < length xs → HaveRoom room (length xs) rows
    → Contains (offsets_within (laid (rows_above level room rows (k ∷ keys) xs))) k
rows_first level room [] k keys xs high some fits = absurd (omega (arith, high))
rows_first level room (ats ∷ rows) k keys xs high some fits =
    rows_keep (suc level) room rows (keys_above room ats (k ∷ keys) xs)
    (row_above level room undefined ats (k ∷ keys) xs) k (above_fits level room ats rows (k ∷ keys) xs fits.1)
    (first_used level room undefined ats k keys xs some fits.0)

pub rows_gather : {A : Type 0} (g : LeafNode → List A) (level room : ℕ) (rows : List (List ℕ)) (keys : List ℕ)
    (xs : List GroupIndex) → HaveRoom room (length xs) rows
    → gather_in (λ n. []) g (laid (rows_above level room rows keys xs)) ≡ gather_in (λ n. []) g (laid xs)
rows_gather g level room [] keys xs fits = refl
rows_gather g level room (ats ∷ rows) keys xs fits =
    rows_gather g (suc level) room rows (keys_above room ats keys xs) (row_above level room undefined ats keys xs)
    (above_fits level room ats rows keys xs fits.1)
    ∙ gathered_above g level room undefined ats keys xs fits.0
