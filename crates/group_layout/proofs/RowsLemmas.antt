-- Rows above one another: an index in order, and well kept.
use Rattle.std.proofs.Common.{◌≡◌, ℕ, zero, suc, ◌*◌, ◌≤◌, List, [], ◌∷◌, ◌++◌, length, take, drop, refl, sym, ◌∙◌}
use Rattle.std.proofs.Common.{ap, subst, arith}
use Rattle.h5_base.specs.Fields.{undefined}
use Rattle.std.proofs.lemmas.List.{append_assoc}
use Rattle.file_model.specs.Index.{row, row_in, AreSiblings, next_of}
use Rattle.file_model.specs.Groups.{GroupIndex, TreeNode}
use Rattle.file_model.specs.WellKept.{BeginsEmpty}
use Rattle.group_layout.specs.Rows.{laid, keys_above, row_above, rows_above, HaveRoom, IsRow}
use Rattle.group_layout.specs.Laws.{RowsAbove, AreKept, KeptAbove}
use Rattle.group_layout.proofs.RowLemmas.{row_in_order, left_over, none_left, first_above}

pub row_length : (level room before : ℕ) (ats keys : List ℕ) (xs : List GroupIndex)
    → length (row_above level room before ats keys xs) ≡ length ats
row_length level room before [] keys xs = refl
row_length level room before (at ∷ ats) keys xs =
    ap suc (row_length level room at ats (drop (length (take room xs)) keys) (drop room xs))

pub rows_in_order : RowsAbove
rows_in_order b ks s height [] keys xs row room spelled =
    ((keys, subst (λ (n : ℕ). IsRow b ks s n keys xs) (omega arith) row), refl)
rows_in_order b ks s height (ats ∷ rows) keys xs row room spelled =
    let c : ℕ = 2 * ks.internal in
    let one = row_in_order b ks s height undefined ats keys xs row room.0 spelled.0 in
    let above = keys_above c ats keys xs in
    let ys = row_above height c undefined ats keys xs in
    let fits = subst (λ (n : ℕ). HaveRoom c n rows) (sym (row_length height c undefined ats keys xs)) room.1 in
    let all = rows_in_order b ks s (suc height) rows above ys one.0 fits spelled.1 in (
      (
        all.0.0,
        subst (λ (n : ℕ). IsRow b ks s n all.0.0 (rows_above (suc height) c rows above ys)) (omega arith)
            all.0.1,
      ),
      all.1 ∙ one.1,
    )

-- ---- well kept

-- what is below two parts of a row
rows_parts : (depth room : ℕ) (xs : List GroupIndex)
    → row_in depth (laid (take room xs)) ++ row_in depth (laid (drop room xs)) ≡ row_in depth (laid xs)
rows_parts depth zero xs = refl
rows_parts depth (suc room) [] = refl
rows_parts depth (suc room) (x ∷ xs) =
    append_assoc (row depth x) (row_in depth (laid (take room xs))) (row_in depth (laid (drop room xs)))
    ∙ ap (λ (l : List TreeNode). row depth x ++ l) (rows_parts depth room xs)

-- one level below the row above stands the row below it
below_row : (depth level room before : ℕ) (ats keys : List ℕ) (xs : List GroupIndex) → length xs ≤ room * length ats
    → row_in (suc depth) (laid (row_above level room before ats keys xs)) ≡ row_in depth (laid xs)
below_row depth level room before [] keys xs le =
    ap (λ (ys : List GroupIndex). row_in depth (laid ys)) (sym (none_left room xs le))
below_row depth level room before (at ∷ ats) keys xs le =
    let later = below_row depth level room at ats (drop (length (take room xs)) keys) (drop room xs)
    (left_over room (length ats) xs le) in
    ap (λ (l : List TreeNode). row_in depth (laid (take room xs)) ++ l) later ∙ rows_parts depth room xs

-- the addresses of a row's own nodes
next_there : (level room before : ℕ) (ats keys : List ℕ) (xs : List GroupIndex)
    → next_of (λ (n : TreeNode). n.at) (row_in zero (laid (row_above level room before ats keys xs)))
    ≡ next_of (λ (a : ℕ). a) ats
next_there level room before [] keys xs = refl
next_there level room before (at ∷ ats) keys xs = refl

are_siblings : (level room before : ℕ) (ats keys : List ℕ) (xs : List GroupIndex)
    → AreSiblings (λ (n : TreeNode). n.at) (λ n. n.node.left) (λ n. n.node.right) before
    (row_in zero (laid (row_above level room before ats keys xs)))
are_siblings level room before [] keys xs = tt
are_siblings level room before (at ∷ ats) keys xs =
    let more = drop (length (take room xs)) keys in (
      refl,
      sym (next_there level room at ats more (drop room xs)),
      are_siblings level room at ats more (drop room xs),
    )

begins_empty : (level room before : ℕ) (ats keys : List ℕ) (xs : List GroupIndex)
    → BeginsEmpty (row_in zero (laid (row_above level room before ats (0 ∷ keys) xs)))
begins_empty level room before [] keys xs = tt
begins_empty level room before (at ∷ ats) keys xs = refl

kept_above : (level room : ℕ) (ats keys : List ℕ) (xs : List GroupIndex) → AreKept xs
    → length xs ≤ room * length ats → AreKept (row_above level room undefined ats (0 ∷ keys) xs)
kept_above level room ats keys xs kept le =
    let below : (depth : ℕ) → row_in depth (laid xs)
    ≡ row_in (suc depth) (laid (row_above level room undefined ats (0 ∷ keys) xs)) =
    λ depth. sym (below_row depth level room undefined ats (0 ∷ keys) xs le) in
    record {
      siblings = all_siblings level room ats keys xs kept below;
      leftmost = all_empty level room ats keys xs kept below;
    }
  where
    Below : (level room : ℕ) (ats keys : List ℕ) (xs : List GroupIndex) → Type 0
    Below level room ats keys xs = (depth : ℕ) → row_in depth (laid xs)
        ≡ row_in (suc depth) (laid (row_above level room undefined ats (0 ∷ keys) xs))

    all_siblings : (level room : ℕ) (ats keys : List ℕ) (xs : List GroupIndex) → AreKept xs
        → Below level room ats keys xs → (depth : ℕ)
        → AreSiblings (λ (n : TreeNode). n.at) (λ n. n.node.left) (λ n. n.node.right) undefined
        (row_in depth (laid (row_above level room undefined ats (0 ∷ keys) xs)))
    all_siblings level room ats keys xs kept below zero = are_siblings level room undefined ats (0 ∷ keys) xs
    all_siblings level room ats keys xs kept below (suc depth) =
        subst (AreSiblings (λ (n : TreeNode). n.at) (λ n. n.node.left) (λ n. n.node.right) undefined) (below depth)
        (kept.siblings depth)

    all_empty : (level room : ℕ) (ats keys : List ℕ) (xs : List GroupIndex) → AreKept xs
        → Below level room ats keys xs → (depth : ℕ)
        → BeginsEmpty (row_in depth (laid (row_above level room undefined ats (0 ∷ keys) xs)))
    all_empty level room ats keys xs kept below zero = begins_empty level room undefined ats keys xs
    all_empty level room ats keys xs kept below (suc depth) = subst BeginsEmpty (below depth) (kept.leftmost depth)

pub rows_kept : KeptAbove
rows_kept level room [] keys xs kept fits = kept
rows_kept level room (ats ∷ rows) keys xs kept fits =
    let ys = row_above level room undefined ats (0 ∷ keys) xs in
    let more = first_above room ats 0 keys xs in
    let one = kept_above level room ats keys xs kept fits.0 in
    let room_above = subst (λ (n : ℕ). HaveRoom room n rows)
    (sym (row_length level room undefined ats (0 ∷ keys) xs)) fits.1 in
    subst (λ (ks : List ℕ). AreKept (rows_above (suc level) room rows ks ys)) (sym more.1)
    (rows_kept (suc level) room rows more.0 ys one room_above)
