-- The rows of B-tree nodes that are there: what was read of an index, and what is kept of it.
use Rattle.std.proofs.Common.{◌≡◌, ◌⊎◌, inl, inr, ℕ, zero, suc, ◌*◌, ◌<◌, ◌≤◌, ◌==◌, Bool, cond, List, [], ◌∷◌}
use Rattle.std.proofs.Common.{◌++◌, length, map, replicate, refl, sym, ◌∙◌, ap, subst, arith}
use Rattle.std.specs.Prelude.{if◌then◌else◌}
use Rattle.std.specs.List.{flat_map}
use Rattle.std.proofs.lemmas.Bool.{ne_eqb}
use Rattle.std.proofs.lemmas.Grind.{flat_map-append}
use Rattle.std.proofs.lemmas.List.{append-nil}
use Rattle.std.proofs.lemmas.List.Folds.{flat_map-map}
use Rattle.outside.specs.Array.{Array}
use Rattle.outside.specs.Blocks.{Block}
use Rattle.file_model.specs.Index.{Bottom, Node}
use Rattle.file_model.specs.Groups.{Ks, GroupIndex, address_of, leaf_block, node_block}
use Rattle.group_room.specs.Index.{leaf_ats, level_of, rows_below}
use Rattle.group_room.specs.Room.{root_entries}
use Rattle.group_layout.specs.Laying.{old_blocks, old_nodes}
use Rattle.group_layout.specs.Rows.{HaveRoom}
use Rattle.group_layout.specs.declared.row.IndexRows.{IndexRows}
use Rattle.group_layout.specs.declared.row.Row.{Row}
use Rattle.group_facts.specs.Rows.{StandsIn, blocks_by_rows, top_row}
use Rattle.group_facts.proofs.RootRow.{nothing_below, roots_children}
use Rattle.group_facts.proofs.RowRoom.{rows_have_room}
use Rattle.group_edit.specs.Grown.{kept_rows}
use Rattle.group_edit.proofs.PlacedTakes.{map_flat}

-- the level of the root
pub root_level : (b : Array) (ks : Ks) (s : List ℕ) (level : ℕ) (x : GroupIndex) → StandsIn b ks s level x
    → level_of x ≡ level
root_level b ks s level (Bottom l) h = absurd h
root_level b ks s level (Node n xs) h = h.0.level_is

pub count_rows : (x : GroupIndex) (level : ℕ) → length (rows_below x level) ≡ level
count_rows x zero = refl
count_rows x (suc level) = ap suc (count_rows x level)

-- the blocks of rows of B-tree nodes
abbrev pub row_nodes : Ks → List (List ℕ) → List Block
row_nodes ks = flat_map (λ (row : List ℕ). map (node_block ks) row)

-- Rows that are kept of an index: none where the root has no entry, and then nothing is below it, else all.
pub record IsKept (ks : Ks) (x : GroupIndex) (level : ℕ) (kept : List (List ℕ)) : Type 0 where
  pub which : ((root_entries x ≡ 0) × (kept ≡ []) × (leaf_ats x ≡ []))
      ⊎ ((0 < root_entries x) × (kept ≡ rows_below x level))
  pub blocks : row_nodes ks kept ≡ row_nodes ks (rows_below x level)

none_or_all : (n : ℕ) (rows : List (List ℕ)) → ((n ≡ 0) × ((if n == 0 then [] else rows) ≡ []))
    ⊎ ((0 < n) × ((if n == 0 then [] else rows) ≡ rows))
none_or_all zero rows = inl (refl, refl)
none_or_all (suc n) rows =
    inr (omega arith, ap (λ (b : Bool). cond b [] rows) (ne_eqb (suc n) 0 (λ e. omega (arith, e))))

pub is_kept : (b : Array) (ks : Ks) (s : List ℕ) (level : ℕ) (x : GroupIndex) (leaves : List ℕ)
    (rows : List (List ℕ)) → StandsIn b ks s level x → leaves ≡ leaf_ats x → rows ≡ rows_below x (level_of x)
    → IsKept ks x level (kept_rows leaves rows)
is_kept b ks s level x leaves rows h leaves_are rows_are =
    let all : rows ≡ rows_below x level = rows_are ∙ ap (rows_below x) (root_level b ks s level x h) in
    let root : length (top_row leaves rows) ≡ root_entries x =
    (λ i. length (top_row (leaves_are i) (all i))) ∙ sym (roots_children b ks s level x h) in
    elim (none_or_all (length (top_row leaves rows)) rows) [
      | inl none ↦
          let nothing = nothing_below b ks s level x h (sym root ∙ none.0) in
          let empty : row_nodes ks (rows_below x level) ≡ [] =
          map_flat (node_block ks) (λ (row : List ℕ). row) (rows_below x level)
          ∙ ap (map (node_block ks)) nothing.2 in
          record {
            which = inl (sym root ∙ none.0, none.1, nothing.0);
            blocks = ap (row_nodes ks) none.1 ∙ sym empty;
          }
      | inr some ↦ record {
        which = inr (subst (λ (n : ℕ). 0 < n) root some.0, some.1 ∙ all);
        blocks = ap (row_nodes ks) (some.1 ∙ all);
      }
    ]

-- ---- what is there

pub no_nodes : (ks : Ks) (n : ℕ) → row_nodes ks (replicate n []) ≡ []
no_nodes ks zero = refl
no_nodes ks (suc n) = no_nodes ks n

-- the nodes that are there are those that were read
pub old_are : (ks : Ks) (x : GroupIndex) (level : ℕ) (kept : List (List ℕ)) (k : ℕ) (index : IndexRows)
    (leaves : List ℕ) (rows : List (List ℕ)) (tree : ℕ) → IsKept ks x level kept → index.leaves.old ≡ leaves
    → rows ≡ rows_below x level → index.tree ≡ tree → map (λ (r : Row). r.old) index.rows ≡ kept ++ replicate k []
    → old_blocks ks index ≡ blocks_by_rows ks leaves rows tree
old_are ks x level kept k index leaves rows tree is leaves_are rows_are root olds =
    let nodes : old_nodes ks index.rows ≡ row_nodes ks rows =
    sym (flat_map-map (λ (row : List ℕ). map (node_block ks) row) (λ (r : Row). r.old) index.rows)
    ∙ ap (row_nodes ks) olds
    ∙ flat_map-append (λ (row : List ℕ). map (node_block ks) row) kept (replicate k [])
    ∙ ap (λ (bs : List Block). row_nodes ks kept ++ bs) (no_nodes ks k)
    ∙ append-nil (row_nodes ks kept)
    ∙ is.blocks
    ∙ ap (row_nodes ks) (sym rows_are) in
    λ i. map (leaf_block ks) (leaves_are i) ++ nodes i ++ node_block ks (root i) ∷ []

-- the rows that are kept have room for the symbol table nodes that are there
pub kept_room : (b : Array) (ks : Ks) (s : List ℕ) (level : ℕ) (x : GroupIndex) (kept : List (List ℕ))
    → StandsIn b ks s level x → IsKept ks x level kept
    → HaveRoom (2 * ks.internal) (length (leaf_ats x)) (kept ++ (address_of x ∷ []) ∷ [])
kept_room b ks s level x kept h is = elim is.which [
  | inl none ↦
      let empty : length (leaf_ats x) ≡ 0 = ap length none.2 in
      subst Fits (sym none.1) (omega (arith, empty), tt)
  | inr some ↦ subst Fits (sym some.1) (rows_have_room b ks s level x h).1
]
  where
    Fits : List (List ℕ) → Type 0
    Fits rows = HaveRoom (2 * ks.internal) (length (leaf_ats x)) (rows ++ (address_of x ∷ []) ∷ [])

pub kept_few : (ks : Ks) (x : GroupIndex) (level : ℕ) (kept : List (List ℕ)) → IsKept ks x level kept
    → length kept ≤ level
kept_few ks x level kept is = elim is.which [
  | inl none ↦ omega (arith, ap length none.1)
  | inr some ↦ omega (arith, ap length some.1, count_rows x level)
]
