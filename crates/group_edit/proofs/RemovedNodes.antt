-- Nodes at hand, none of them taken: their addresses, their blocks, and the room that they have.
use Rattle.std.proofs.Common.{◌≡◌, ℕ, zero, suc, ◌*◌, ◌<◌, ◌≤◌, List, [], ◌∷◌, ◌++◌, length, map, take, drop, refl, sym}
use Rattle.std.proofs.Common.{◌∙◌, ap, subst, arith, drop-cons, slice_index_or, take-append-drop}
use Rattle.std.specs.List.{flat_map, remove}
use Rattle.std.specs.List.Sorted.{IsPermutation}
use Rattle.std.proofs.lemmas.List.{append-nil, length-map}
use Rattle.std.proofs.lemmas.List.Sorted.{IsPermutation-append_right, IsPermutation-cons, IsPermutation-sym}
use Rattle.std.proofs.lemmas.List.Sorted.{IsPermutation-trans, length_permutation}
use Rattle.outside.specs.Array.{Array}
use Rattle.outside.specs.Blocks.{Block}
use Rattle.node_codec.specs.declared.snod.SnodEntry.{SnodEntry}
use Rattle.file_model.specs.EditLaws.{IsOneMore}
use Rattle.file_model.specs.Index.{Bottom, Node}
use Rattle.file_model.specs.Groups.{Ks, GroupIndex, address_of, index_blocks, leaf_block, node_block}
use Rattle.group_room.specs.Index.{entries_in, leaf_ats, level_of, rows_below}
use Rattle.group_layout.specs.Laying.{ats_of, new_blocks, new_nodes, old_blocks, old_nodes, rows_of}
use Rattle.group_layout.specs.Rows.{HaveRoom}
use Rattle.group_layout.specs.declared.row.Row.{Row}
use Rattle.group_layout.specs.declared.row.IndexRows.{IndexRows}
use Rattle.group_facts.specs.Rows.{StandsIn, blocks_by_rows}
use Rattle.group_facts.proofs.RowBlocks.{rows_are_blocks}
use Rattle.group_facts.proofs.RowRoom.{rows_have_room}
use Rattle.group_layout.specs.Laying.{unchanged}
use Rattle.group_edit.specs.Removing.{AreSameNodes}

-- ---- rows that don't grow

same_ats : (rows : List (List ℕ)) → map ats_of (map unchanged rows) ≡ rows
same_ats [] = refl
same_ats (row ∷ rows) = λ j. append-nil row j ∷ same_ats rows j

same_old : (ks : Ks) (rows : List (List ℕ))
    → old_nodes ks (map unchanged rows) ≡ flat_map (λ (row : List ℕ). map (node_block ks) row) rows
same_old ks [] = refl
same_old ks (row ∷ rows) = ap (λ (bs : List Block). map (node_block ks) row ++ bs) (same_old ks rows)

same_new : (ks : Ks) (rows : List (List ℕ)) → new_nodes ks (map unchanged rows) ≡ []
same_new ks [] = refl
same_new ks (row ∷ rows) = same_new ks rows

module _ (ks : Ks) (tree : ℕ) (leaves : List ℕ) (rows : List (List ℕ)) (index : IndexRows)
    (same : AreSameNodes tree leaves rows index) where
  pub leaves_same : ats_of index.leaves ≡ leaves
  leaves_same = ap ats_of same.leaves_are ∙ append-nil leaves

  pub rows_same : rows_of index ≡ rows ++ (tree ∷ []) ∷ []
  rows_same =
      let own : map ats_of index.rows ≡ rows = ap (map ats_of) same.rows_are ∙ same_ats rows in
      λ j. own j ++ (same.root j ∷ []) ∷ []

  pub levels_same : length index.rows ≡ length rows
  levels_same = ap length same.rows_are ∙ length-map rows unchanged

  pub old_same : old_blocks ks index ≡ blocks_by_rows ks leaves rows tree
  old_same =
      let own = ap (λ (r : Row). map (leaf_block ks) r.old) same.leaves_are in
      let above = ap (old_nodes ks) same.rows_are ∙ same_old ks rows in
      λ j. own j ++ above j ++ node_block ks (same.root j) ∷ []

  pub new_same : new_blocks ks index ≡ []
  new_same =
      let own = ap (λ (r : Row). map (leaf_block ks) r.new) same.leaves_are in
      let above = ap (new_nodes ks) same.rows_are ∙ same_new ks rows in
      λ j. own j ++ above j

-- ---- the index that was read

pub level_is : (b : Array) (ks : Ks) (s : List ℕ) (level : ℕ) (x : GroupIndex) → StandsIn b ks s level x
    → level_of x ≡ level
level_is b ks s level (Bottom l) h = absurd h
level_is b ks s level (Node n xs) h = h.0.level_is

pub rows_many : (x : GroupIndex) (n : ℕ) → length (rows_below x n) ≡ n
rows_many x zero = refl
rows_many x (suc n) = ap suc (rows_many x n)

module _ (b : Array) (ks : Ks) (s : List ℕ) (level : ℕ) (x : GroupIndex) (stands : StandsIn b ks s level x)
    (leaves : List ℕ) (rows : List (List ℕ)) (tree : ℕ) (leaves_are : leaves ≡ leaf_ats x)
    (rows_are : rows ≡ rows_below x (level_of x)) (root : address_of x ≡ tree) where
  rows_by_level : rows ≡ rows_below x level
  rows_by_level = rows_are ∙ ap (rows_below x) (level_is b ks s level x stands)

  pub read_levels : length rows ≡ level
  read_levels = ap length rows_by_level ∙ rows_many x level

  pub read_blocks : IsPermutation (index_blocks ks x) (blocks_by_rows ks leaves rows tree)
  read_blocks =
      subst (IsPermutation (index_blocks ks x))
      (λ j. blocks_by_rows ks (sym leaves_are j) (sym rows_by_level j) (root j))
      (rows_are_blocks b ks s level x stands)

  pub read_room : length (entries_in x) ≤ 2 * ks.leaf * length leaves
  read_room = rw leaves_are (rows_have_room b ks s level x stands).0

  pub read_rows_room : HaveRoom (2 * ks.internal) (length leaves) (rows ++ (tree ∷ []) ∷ [])
  read_rows_room =
      subst (λ (ats : List ℕ). HaveRoom (2 * ks.internal) (length ats) (rows ++ (tree ∷ []) ∷ [])) (sym leaves_are)
      (subst (λ (upper : List (List ℕ)). HaveRoom (2 * ks.internal) (length (leaf_ats x)) upper)
      (λ j. sym rows_by_level j ++ (root j ∷ []) ∷ [])
      (rows_have_room b ks s level x stands).1)

-- ---- blocks

-- a header's block, a segment's and those of nodes, in another order
pub same_blocks : (head : Block) (ps qs xs ys : List Block) → ps ≡ qs → IsPermutation xs ys
    → IsPermutation (head ∷ ps ++ xs) (head ∷ qs ++ ys)
same_blocks head ps qs xs ys same moved =
    subst (λ (rs : List Block). IsPermutation (head ∷ ps ++ xs) (head ∷ rs ++ ys)) same
    (IsPermutation-cons head _ _ (IsPermutation-append_right ps xs ys moved))

-- nodes in another order that are those that were read, and no others
pub same_nodes : (xs ys olds news rows : List Block) → IsPermutation xs (olds ++ news) → news ≡ []
    → IsPermutation olds rows → IsPermutation ys rows → IsPermutation xs ys
same_nodes xs ys olds news rows laid none there were =
    let all : IsPermutation xs olds =
    subst (IsPermutation xs) (ap (λ (zs : List Block). olds ++ zs) none ∙ append-nil olds) laid in
    IsPermutation-trans xs rows ys (IsPermutation-trans xs olds rows all there) (IsPermutation-sym ys rows were)

-- where nodes have an entry, there is one
pub some_leaf : (room : ℕ) (es : List SnodEntry) (place : ℕ) (leaves ats : List ℕ) → place < length es
    → length es ≤ room * length leaves → IsPermutation ats leaves → 0 < length ats
some_leaf room es place [] ats lt le moved = absurd (omega (arith, lt, le))
some_leaf room es place (at ∷ leaves) ats lt le moved =
    omega (arith, length_permutation ats (at ∷ leaves) moved)

-- ---- entries

pub one_entry_fewer : (es : List SnodEntry) (n : ℕ) (d : SnodEntry) → n < length es
    → IsOneMore (slice_index_or es n d) (remove es n) es
one_entry_fewer es n d lt = record {
  before = take n es;
  later = drop (suc n) es;
  without = refl;
  whole = sym (take-append-drop n es) ∙ ap (λ (l : List SnodEntry). take n es ++ l) (drop-cons es n d lt);
}
