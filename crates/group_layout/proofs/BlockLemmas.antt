-- The blocks of rows that are laid over one another are those of their nodes.
use Rattle.std.proofs.Common.{◌≡◌, ℕ, suc, ◌*◌, ◌≤◌, List, [], ◌∷◌, ◌++◌, length, take, drop, map, refl, sym}
use Rattle.std.proofs.Common.{ap, subst}
use Rattle.std.specs.List.Sorted.{IsPermutation}
use Rattle.std.proofs.lemmas.List.{append_assoc}
use Rattle.std.proofs.lemmas.List.Sorted.{IsPermutation-refl, IsPermutation-trans, IsPermutation-cons}
use Rattle.std.proofs.lemmas.List.Sorted.{IsPermutation-append_left, IsPermutation-append_right}
use Rattle.std.proofs.lemmas.List.Sorted.{IsPermutation-append_comm}
use Rattle.outside.specs.Blocks.{Block}
use Rattle.h5_base.specs.Fields.{undefined}
use Rattle.node_codec.specs.declared.snod.SnodEntry.{SnodEntry}
use Rattle.file_model.specs.Groups.{Ks, Found, GroupIndex, blocks_within, node_block, leaf_block}
use Rattle.group_layout.specs.Rows.{laid, keys_above, row_above, rows_above, row_blocks, HaveRoom}
use Rattle.group_layout.specs.Leaves.{leaves}
use Rattle.group_layout.specs.Laws.{RowsBlocks}
use Rattle.group_layout.proofs.RowLemmas.{left_over, none_left, gathered_parts}
use Rattle.group_layout.proofs.RowsLemmas.{row_length}

turned : (ps ms ds : List Block) → IsPermutation (ps ++ (ms ++ ds)) (ms ++ (ps ++ ds))
turned ps ms ds =
    let both : IsPermutation ((ps ++ ms) ++ ds) ((ms ++ ps) ++ ds) =
    IsPermutation-append_left ds (ps ++ ms) (ms ++ ps) (IsPermutation-append_comm ps ms) in
    rw (append_assoc ps ms ds, append_assoc ms ps ds) at both

row_is : (ks : Ks) (level room before : ℕ) (ats keys : List ℕ) (xs : List GroupIndex) → length xs ≤ room * length ats
    → IsPermutation (blocks_within ks (laid (row_above level room before ats keys xs)))
    (map (node_block ks) ats ++ blocks_within ks (laid xs))
row_is ks level room before [] keys xs le =
    subst (λ (ys : List GroupIndex). IsPermutation [] (blocks_within ks (laid ys))) (sym (none_left room xs le))
    (IsPermutation-refl [])
row_is ks level room before (at ∷ ats) keys xs le =
    let ps = blocks_within ks (laid (take room xs)) in
    let ds = blocks_within ks (laid (drop room xs)) in
    let ms = map (node_block ks) ats in
    let rest = drop (length (take room xs)) keys in
    let later = row_is ks level room at ats rest (drop room xs) (left_over room (length ats) xs le) in
    let moved = IsPermutation-trans _ _ _ (IsPermutation-append_right ps _ _ later) (turned ps ms ds) in
    let ws = blocks_within ks (laid (row_above level room at ats rest (drop room xs))) in
    let both = gathered_parts (λ n. node_block ks n.at ∷ []) (λ s. leaf_block ks s.at ∷ []) room xs in
    let whole = subst (λ (bs : List Block). IsPermutation (ps ++ ws) (ms ++ bs)) both moved in
    IsPermutation-cons (node_block ks at) _ _ whole

pub rows_blocks : RowsBlocks
rows_blocks ks level room [] keys xs fits = IsPermutation-refl _
rows_blocks ks level room (ats ∷ rows) keys xs fits =
    let ys = row_above level room undefined ats keys xs in
    let upper = keys_above room ats keys xs in
    let above = subst (λ (n : ℕ). HaveRoom room n rows) (sym (row_length level room undefined ats keys xs)) fits.1 in
    let all = rows_blocks ks (suc level) room rows upper ys above in
    let one = row_is ks level room undefined ats keys xs fits.0 in
    let both = IsPermutation-trans _ _ _ all (IsPermutation-append_right (row_blocks ks rows) _ _ one) in
    subst (IsPermutation (blocks_within ks (laid (rows_above (suc level) room rows upper ys))))
    (sym (append_assoc (row_blocks ks rows) (map (node_block ks) ats) (blocks_within ks (laid xs)))) both

pub leaf_blocks : (ks : Ks) (room : ℕ) (ats : List ℕ) (es : List SnodEntry) (fs : List Found)
    → blocks_within ks (laid (leaves room ats es fs)) ≡ map (leaf_block ks) ats
leaf_blocks ks room [] es fs = refl
leaf_blocks ks room (at ∷ ats) es fs =
    ap (λ (l : List Block). leaf_block ks at ∷ l) (leaf_blocks ks room ats (drop room es) (drop room fs))

pub root_blocks : (ks : Ks) (rows : List (List ℕ)) (tree : ℕ)
    → row_blocks ks (rows ++ (tree ∷ []) ∷ []) ≡ node_block ks tree ∷ row_blocks ks rows
root_blocks ks [] tree = refl
root_blocks ks (ats ∷ rows) tree = ap (λ (l : List Block). l ++ map (node_block ks) ats) (root_blocks ks rows tree)
