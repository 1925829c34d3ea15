-- A list that is gone through part by part, and what is told of the parts.
use Rattle.std.proofs.Common.{◌≡◌, ℕ, zero, suc, ◌+◌, ◌-◌, ◌<◌, ◌≤◌, min, List, [], ◌∷◌, ◌++◌, length, take, drop}
use Rattle.std.proofs.Common.{get_or, refl, sym, ◌∙◌, ap, arith}
use Rattle.std.proofs.lemmas.List.{length-take, length-drop, drop_min, drop-drop, drop_more, drop_all, take_min}
use Rattle.std.proofs.lemmas.List.{append_assoc}
use Rattle.node_codec.specs.declared.snod.SnodEntry.{SnodEntry}
use Rattle.group_layout.specs.Leaves.{last_key, leaf_keys}
use Rattle.group_layout.specs.Rows.{keys_above}

pub part_length : {X : Type 0} (room from : ℕ) (xs : List X)
    → length (take room (drop from xs)) ≡ min room (length xs - from)
part_length room from xs = length-take room (drop from xs) ∙ ap (min room) (length-drop from xs)

pub part_rest : {X : Type 0} (room from : ℕ) (xs : List X)
    → drop room (drop from xs) ≡ drop (from + min room (length xs - from)) xs
part_rest room from xs =
    sym (drop_min room (drop from xs))
    ∙ ap (λ (n : ℕ). drop (min room n) (drop from xs)) (length-drop from xs)
    ∙ drop-drop (min room (length xs - from)) from xs

-- ---- keys of symbol table nodes

pub last_key_at : (before : ℕ) (es : List SnodEntry) (i : ℕ) (d : SnodEntry) → length es ≡ suc i
    → last_key before es ≡ (get_or es i d).name_at
last_key_at before [] i d n = absurd (omega arith)
last_key_at before (e ∷ []) zero d n = refl
last_key_at before (e ∷ []) (suc i) d n = absurd (omega arith)
last_key_at before (e ∷ f ∷ es) zero d n = absurd (omega arith)
last_key_at before (e ∷ f ∷ es) (suc i) d n = last_key_at e.name_at (f ∷ es) i d (omega arith)

-- A node more: what stands behind it, and the key.
pub leaf_keys_step : (room key : ℕ) (done ats : List ℕ) (es : List SnodEntry) (i from : ℕ) → i < length ats
    → done ++ leaf_keys room key (drop i ats) (drop from es)
    ≡ (done ++ key ∷ []) ++ leaf_keys room (last_key key (take room (drop from es))) (drop (i + 1) ats)
    (drop (from + min room (length es - from)) es)
leaf_keys_step room key done ats es i from lt =
    let next = last_key key (take room (drop from es)) in
    ap (λ (l : List ℕ). done ++ leaf_keys room key l (drop from es)) (drop_more ats i 0 lt)
    ∙ ap (λ (l : List SnodEntry). done ++ key ∷ leaf_keys room next (drop (i + 1) ats) l) (part_rest room from es)
    ∙ sym (append_assoc done (key ∷ []) _)

-- ---- keys of rows

pub keys_above_step : (room : ℕ) (done ats keys below : List ℕ) (i from : ℕ) → i < length ats → from < length keys
    → done ++ keys_above room (drop i ats) (drop from keys) (drop from below)
    ≡ (done ++ get_or keys from 0 ∷ []) ++ keys_above room (drop (i + 1) ats)
    (drop (from + min room (length below - from)) keys) (drop (from + min room (length below - from)) below)
keys_above_step room done ats keys below i from lt in_keys =
    let m : ℕ = min room (length below - from) in
    let key : ℕ = get_or keys from 0 in
    let next = drop (i + 1) ats in
    ap (λ (l : List ℕ). done ++ keys_above room l (drop from keys) (drop from below)) (drop_more ats i 0 lt)
    ∙ ap (λ (l : List ℕ). done ++ keys_above room (get_or ats i 0 ∷ next) l (drop from below))
    (drop_more keys from 0 in_keys)
    ∙ ap (λ (l : List ℕ). done ++ key ∷ keys_above room next (drop (length (take room (drop from below))) l)
    (drop room (drop from below))) (sym (drop_more keys from 0 in_keys))
    ∙ ap (λ (n : ℕ). done ++ key ∷ keys_above room next (drop n (drop from keys)) (drop room (drop from below)))
    (part_length room from below)
    ∙ ap (λ (l : List ℕ). done ++ key ∷ keys_above room next l (drop room (drop from below))) (drop-drop m from keys)
    ∙ ap (λ (l : List ℕ). done ++ key ∷ keys_above room next (drop (from + m) keys) l) (part_rest room from below)
    ∙ sym (append_assoc done (key ∷ []) _)

pub keys_above_end : (room : ℕ) (done ats keys below : List ℕ) (i from : ℕ) → length ats ≤ i → from < length keys
    → done ++ keys_above room (drop i ats) (drop from keys) (drop from below) ≡ done ++ get_or keys from 0 ∷ []
keys_above_end room done ats keys below i from le in_keys =
    ap (λ (l : List ℕ). done ++ keys_above room l (drop from keys) (drop from below)) (drop_all i ats le)
    ∙ ap (λ (l : List ℕ). done ++ keys_above room [] l (drop from below)) (drop_more keys from 0 in_keys)

pub count_leaf_keys : (room key : ℕ) (ats : List ℕ) (es : List SnodEntry)
    → length (leaf_keys room key ats es) ≡ length ats + 1
count_leaf_keys room key [] es = refl
count_leaf_keys room key (at ∷ ats) es =
    ap suc (count_leaf_keys room (last_key key (take room es)) ats (drop room es)) ∙ omega arith

pub count_keys_above : (room : ℕ) (ats keys below : List ℕ) → length keys ≡ length below + 1
    → length (keys_above room ats keys below) ≡ length ats + 1
count_keys_above room ats [] below more = absurd (omega arith)
count_keys_above room [] (k ∷ keys) below more = refl
count_keys_above room (at ∷ ats) (k ∷ keys) below more =
    let behind = drop (length (take room below)) (k ∷ keys) in
    let left_over : length behind ≡ length (drop room below) + 1 = omega (
      arith,
      more,
      length-take room below,
      length-drop (length (take room below)) (k ∷ keys),
      length-drop room below,
    ) in
    ap suc (count_keys_above room ats behind (drop room below) left_over) ∙ omega arith

-- a part as it is cut out
pub part_is : {X : Type 0} (room from to : ℕ) (xs : List X) → to ≡ from + min room (length xs - from)
    → take (to - from) (drop from xs) ≡ take room (drop from xs)
part_is room from to xs is =
    let count : to - from ≡ min room (length (drop from xs)) = omega (arith, length-drop from xs) in
    ap (λ (n : ℕ). take n (drop from xs)) count ∙ take_min room (drop from xs)
