-- A row over a row that is in order is in order.
use Rattle.std.proofs.Common.{◌≡◌, ℕ, zero, suc, ◌*◌, ◌≤◌, false, List, [], ◌∷◌, ◌++◌, length, take, drop}
use Rattle.std.proofs.Common.{map, refl, sym, ◌∙◌, ap, subst, arith}
use Rattle.std.proofs.lemmas.List.{append_assoc, length-drop}
use Rattle.outside.specs.Array.{Array}
use Rattle.object_model.specs.Tree.{Name, name_lt}
use Rattle.file_model.specs.Index.{each, gather, gather_in}
use Rattle.file_model.specs.Groups.{Ks, GroupIndex, AreIndexes, AreKeyed, AreBetween, address_of, links_within}
use Rattle.file_model.specs.Groups.{links_under, TreeNode, LeafNode}
use Rattle.group_layout.specs.Rows.{laid, keys_above, row_above, AreTexts, AreBounded, AreSpelled}
use Rattle.group_layout.specs.Laws.{RowAbove}
use Rattle.group_layout.proofs.NameOrder.{le_trans, le_itself, between_wider, between_both}

-- ---- parts of a row

pub texts_take : (s : List ℕ) (n : ℕ) (ks : List ℕ) (ns : List Name) → AreTexts s ks ns
    → AreTexts s (take n ks) (take n ns)
texts_take s zero ks ns h = tt
texts_take s (suc n) [] [] h = tt
texts_take s (suc n) [] (m ∷ ns) h = absurd h
texts_take s (suc n) (k ∷ ks) [] h = absurd h
texts_take s (suc n) (k ∷ ks) (m ∷ ns) h = (h.0, texts_take s n ks ns h.1)

pub texts_drop : (s : List ℕ) (n : ℕ) (ks : List ℕ) (ns : List Name) → AreTexts s ks ns
    → AreTexts s (drop n ks) (drop n ns)
texts_drop s zero ks ns h = h
texts_drop s (suc n) [] [] h = tt
texts_drop s (suc n) [] (m ∷ ns) h = absurd h
texts_drop s (suc n) (k ∷ ks) [] h = absurd h
texts_drop s (suc n) (k ∷ ks) (m ∷ ns) h = texts_drop s n ks ns h.1

bounded_take : (room : ℕ) (ns : List Name) (xs : List GroupIndex) → AreBounded ns xs
    → AreBounded (take (suc (length (take room xs))) ns) (take room xs)
bounded_take room [] xs h = absurd h
bounded_take zero (n ∷ ns) xs h = tt
bounded_take (suc room) (n ∷ []) [] h = tt
bounded_take (suc room) (n ∷ []) (x ∷ xs) h = absurd h
bounded_take (suc room) (n ∷ m ∷ ns) [] h = absurd h
bounded_take (suc room) (n ∷ m ∷ ns) (x ∷ xs) h = (h.0, h.1, bounded_take room (m ∷ ns) xs h.2)

bounded_drop : (room : ℕ) (ns : List Name) (xs : List GroupIndex) → AreBounded ns xs
    → AreBounded (drop (length (take room xs)) ns) (drop room xs)
bounded_drop room [] xs h = absurd h
bounded_drop zero (n ∷ ns) xs h = h
bounded_drop (suc room) (n ∷ []) [] h = tt
bounded_drop (suc room) (n ∷ []) (x ∷ xs) h = absurd h
bounded_drop (suc room) (n ∷ m ∷ ns) [] h = absurd h
bounded_drop (suc room) (n ∷ m ∷ ns) (x ∷ xs) h = bounded_drop room (m ∷ ns) xs h.2

stand_take : (b : Array) (ks : Ks) (s : List ℕ) (height room : ℕ) (xs : List GroupIndex)
    → AreIndexes b ks s height (laid xs) → AreIndexes b ks s height (laid (take room xs))
stand_take b ks s height zero xs h = tt
stand_take b ks s height (suc room) [] h = tt
stand_take b ks s height (suc room) (x ∷ xs) h = (h.0, stand_take b ks s height room xs h.1)

stand_drop : (b : Array) (ks : Ks) (s : List ℕ) (height room : ℕ) (xs : List GroupIndex)
    → AreIndexes b ks s height (laid xs) → AreIndexes b ks s height (laid (drop room xs))
stand_drop b ks s height zero xs h = h
stand_drop b ks s height (suc room) [] h = tt
stand_drop b ks s height (suc room) (x ∷ xs) h = stand_drop b ks s height room xs h.1

-- what is gathered of two parts of a row
pub gathered_parts : {A : Type 0} (f : TreeNode → List A) (g : LeafNode → List A) (room : ℕ) (xs : List GroupIndex)
    → gather_in f g (laid (take room xs)) ++ gather_in f g (laid (drop room xs)) ≡ gather_in f g (laid xs)
gathered_parts f g zero xs = refl
gathered_parts f g (suc room) [] = refl
gathered_parts {A} f g (suc room) (x ∷ xs) =
    append_assoc (gather f g x) (gather_in f g (laid (take room xs))) (gather_in f g (laid (drop room xs)))
    ∙ ap (λ (l : List A). gather f g x ++ l) (gathered_parts f g room xs)

each_laid : (xs : List GroupIndex) → each address_of (laid xs) ≡ map address_of xs
each_laid [] = refl
each_laid (x ∷ xs) = ap (λ (l : List ℕ). address_of x ∷ l) (each_laid xs)

-- ---- the keys of a node

keyed : (s keys : List ℕ) (ns : List Name) (xs : List GroupIndex) → AreTexts s keys ns → AreBounded ns xs
    → AreKeyed s keys (laid xs)
keyed s keys [] xs t h = absurd h
keyed s keys (n ∷ ns) [] t h = tt
keyed s keys (n ∷ []) (x ∷ xs) t h = absurd h
keyed s [] (n ∷ m ∷ ns) (x ∷ xs) t h = absurd t
keyed s (k ∷ []) (n ∷ m ∷ ns) (x ∷ xs) t h = absurd t.1
keyed s (k ∷ l ∷ keys) (n ∷ m ∷ ns) (x ∷ xs) t h =
    (n, m, t.0, t.1.0, h.1, keyed s (l ∷ keys) (m ∷ ns) xs t.1 h.2)

at_once : (n l : Name) (ns ms : List Name) → n ∷ ns ≡ l ∷ ms → (name_lt l n ≡ false) × Unit {0}
at_once n l ns ms is = let same : n ≡ l = cc in (ap (λ (m : Name). name_lt m n) (sym same) ∙ le_itself n, tt)

-- what stands under some first nodes is above the first name, and at most the one behind them
bounded_prefix : (room : ℕ) (n l : Name) (ns ms : List Name) (xs : List GroupIndex) → AreBounded (n ∷ ns) xs
    → drop (length (take room xs)) (n ∷ ns) ≡ l ∷ ms
    → (name_lt l n ≡ false) × AreBetween n l (links_within (laid (take room xs)))
bounded_prefix zero n l ns ms xs h is = at_once n l ns ms is
bounded_prefix (suc room) n l ns ms [] h is = at_once n l ns ms is
bounded_prefix (suc room) n l [] ms (x ∷ xs) h is = absurd h
bounded_prefix (suc room) n l (m ∷ ns) ms (x ∷ xs) h is =
    let later = bounded_prefix room m l ns ms xs h.2 is in (
      le_trans n m l h.0 later.0,
      between_both n l (links_under x) (links_within (laid (take room xs)))
          (between_wider n n m l (links_under x) (le_itself n) later.0 h.1)
          (between_wider n m l l (links_within (laid (take room xs))) h.0 (le_itself l) later.1),
    )

-- ---- the row above

above_texts : (s : List ℕ) (room : ℕ) (ats keys : List ℕ) (ns : List Name) (xs : List GroupIndex) → AreTexts s keys ns
    → AreTexts s (keys_above room ats keys xs) (keys_above room ats ns xs)
above_texts s room [] [] [] xs t = tt
above_texts s room [] [] (n ∷ ns) xs t = absurd t
above_texts s room [] (k ∷ keys) [] xs t = absurd t
above_texts s room [] (k ∷ keys) (n ∷ ns) xs t = (t.0, tt)
above_texts s room (at ∷ ats) [] [] xs t = tt
above_texts s room (at ∷ ats) [] (n ∷ ns) xs t = absurd t
above_texts s room (at ∷ ats) (k ∷ keys) [] xs t = absurd t
above_texts s room (at ∷ ats) (k ∷ keys) (n ∷ ns) xs t = (
  t.0,
  above_texts s room ats (drop (length (take room xs)) (k ∷ keys)) (drop (length (take room xs)) (n ∷ ns))
      (drop room xs)
      (texts_drop s (length (take room xs)) (k ∷ keys) (n ∷ ns) t),
)

-- the first key of a row stays the first
pub first_above : {A B : Type 0} (room : ℕ) (ats : List ℕ) (k : A) (keys : List A) (xs : List B)
    → (more : List A) × (keys_above room ats (k ∷ keys) xs ≡ k ∷ more)
first_above room [] k keys xs = ([], refl)
first_above room (at ∷ ats) k keys xs =
    (keys_above room ats (drop (length (take room xs)) (k ∷ keys)) (drop room xs), refl)

-- so many children less are left for the nodes behind
pub left_over : {A : Type 0} (room n : ℕ) (xs : List A) → length xs ≤ room * suc n → length (drop room xs) ≤ room * n
left_over room n xs le = omega (arith, le, length-drop room xs)

pub none_left : {A : Type 0} (room : ℕ) (xs : List A) → length xs ≤ room * zero → xs ≡ []
none_left room [] le = refl
none_left room (x ∷ xs) le = absurd (omega (arith, le))

bounded_first : (ns : List Name) (xs : List GroupIndex) → AreBounded ns xs
    → (l : Name) × (ms : List Name) × (ns ≡ l ∷ ms)
bounded_first [] xs h = absurd h
bounded_first (n ∷ ns) xs h = (n, ns, refl)

join_bounded : (n l : Name) (ns more : List Name) (x : GroupIndex) (xs : List GroupIndex) → ns ≡ l ∷ more
    → name_lt l n ≡ false → AreBetween n l (links_under x) → AreBounded ns xs → AreBounded (n ∷ ns) (x ∷ xs)
join_bounded n l ns more x xs is le between =
    subst (λ (ms : List Name). AreBounded ms xs → AreBounded (n ∷ ms) (x ∷ xs)) (sym is) (λ h. (le, between, h))

above_bounded : (level room before : ℕ) (ats keys : List ℕ) (ns : List Name) (xs : List GroupIndex) → AreBounded ns xs
    → length xs ≤ room * length ats → AreBounded (keys_above room ats ns xs) (row_above level room before ats keys xs)
above_bounded level room before ats keys [] xs h le = absurd h
above_bounded level room before [] keys (n ∷ ns) xs h le = tt
above_bounded level room before (at ∷ ats) keys (n ∷ ns) xs h le =
    let m : ℕ = length (take room xs) in
    let kept = bounded_drop room (n ∷ ns) xs h in
    let later = above_bounded level room at ats (drop m keys) (drop m (n ∷ ns)) (drop room xs) kept
    (left_over room (length ats) xs le) in
    let next = bounded_first (drop m (n ∷ ns)) (drop room xs) kept in
    let more = first_above room ats next.0 next.1 (drop room xs) in
    let first = ap (λ (ds : List Name). keys_above room ats ds (drop room xs)) next.2 ∙ more.1 in
    let own = bounded_prefix room n next.0 ns next.1 xs h next.2 in
    join_bounded n next.0 (keys_above room ats (drop m (n ∷ ns)) (drop room xs)) more.0 _
    (row_above level room at ats (drop m keys) (drop room xs)) first own.0 own.1 later

above_stand : (b : Array) (ks : Ks) (s : List ℕ) (height room before : ℕ) (ats keys : List ℕ) (ns : List Name)
    (xs : List GroupIndex) → AreIndexes b ks s height (laid xs) → AreTexts s keys ns → AreBounded ns xs
    → AreSpelled b ks (row_above height room before ats keys xs)
    → AreIndexes b ks s (suc height) (laid (row_above height room before ats keys xs))
above_stand b ks s height room before [] keys ns xs stand t h spelled = tt
above_stand b ks s height room before (at ∷ ats) keys ns xs stand t h spelled =
    let m : ℕ = length (take room xs) in (
      (
        record { spelled = spelled.0; level_is = refl; children_are = sym (each_laid (take room xs)) },
        stand_take b ks s height room xs stand,
        keyed s (take (suc m) keys) (take (suc m) ns) (take room xs) (texts_take s (suc m) keys ns t)
            (bounded_take room ns xs h),
      ),
      above_stand b ks s height room at ats (drop m keys) (drop m ns) (drop room xs)
          (stand_drop b ks s height room xs stand) (texts_drop s m keys ns t) (bounded_drop room ns xs h) spelled.1,
    )

-- what is gathered of the symbol table nodes alone
pub gathered_above : {A : Type 0} (g : LeafNode → List A) (level room before : ℕ) (ats keys : List ℕ)
    (xs : List GroupIndex) → length xs ≤ room * length ats
    → gather_in (λ n. []) g (laid (row_above level room before ats keys xs)) ≡ gather_in (λ n. []) g (laid xs)
gathered_above {A} g level room before [] keys xs le =
    ap (λ (ys : List GroupIndex). gather_in {A = A} (λ n. []) g (laid ys)) (sym (none_left room xs le))
gathered_above {A} g level room before (at ∷ ats) keys xs le =
    let later = gathered_above g level room at ats (drop (length (take room xs)) keys) (drop room xs)
    (left_over room (length ats) xs le) in
    ap (λ (l : List A). gather_in (λ n. []) g (laid (take room xs)) ++ l) later
    ∙ gathered_parts (λ n. []) g room xs

pub row_in_order : RowAbove
row_in_order b ks s height before ats keys xs row le spelled = (
  record {
    stand = above_stand b ks s height (2 * ks.internal) before ats keys row.names xs row.stand row.texts row.bounded
        spelled;
    names = keys_above (2 * ks.internal) ats row.names xs;
    texts = above_texts s (2 * ks.internal) ats keys row.names xs row.texts;
    bounded = above_bounded height (2 * ks.internal) before ats keys row.names xs row.bounded le;
  },
  gathered_above (λ s. s.links) height (2 * ks.internal) before ats keys xs le,
)
