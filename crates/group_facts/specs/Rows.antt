-- What the rows of an index tell: its blocks, and the room that its nodes have.
-- HDF5 File Format Specification 3.0, III.A.1 and III.B. Cited by what plans an edit of a group.
use Rattle.std.specs.Prelude.{◌≡◌, ℕ, suc, ◌*◌, ◌<◌, ◌≤◌, List, [], ◌∷◌, ◌++◌, length, map, All}
use Rattle.std.specs.List.{flat_map}
use Rattle.std.specs.List.Sorted.{IsPermutation}
use Rattle.outside.specs.Array.{Array}
use Rattle.outside.specs.Blocks.{Block}
use Rattle.file_model.specs.Groups.{Ks, GroupIndex, IsIndex, address_of, index_blocks, leaf_block, node_block}
use Rattle.group_room.specs.Room.{HasRoom, LeafHasRoom, leaf_nodes, root_entries, tree_nodes}
use Rattle.group_room.specs.Index.{entries_in, leaf_ats, rows_below}
use Rattle.group_layout.specs.Rows.{HaveRoom}
use Rattle.group_layout.specs.Growth.{HaveSpare}

-- the last of these rows, or the lowest where there is no other
abbrev pub top_row : List ℕ → List (List ℕ) → List ℕ
top_row lowest [] = lowest
top_row lowest (row ∷ rows) = top_row row rows

-- the blocks of nodes, row by row, the root's last
abbrev pub blocks_by_rows : Ks → (leaves : List ℕ) → (rows : List (List ℕ)) → (tree : ℕ) → List Block
blocks_by_rows ks leaves rows tree =
    map (leaf_block ks) leaves ++ flat_map (λ (row : List ℕ). map (node_block ks) row) rows ++ node_block ks tree ∷ []

-- an index of this level above its symbol table nodes
abbrev pub StandsIn : Array → Ks → List ℕ → (level : ℕ) → GroupIndex → Type 0
StandsIn b ks segment level index = IsIndex b ks segment (suc level) index

-- ---- laws

-- Its blocks are those of its rows.
abbrev pub RowsAreBlocks : Type 0
RowsAreBlocks = (b : Array) (ks : Ks) (segment : List ℕ) (level : ℕ) (index : GroupIndex)
    → StandsIn b ks segment level index
    → IsPermutation (index_blocks ks index)
    (blocks_by_rows ks (leaf_ats index) (rows_below index level) (address_of index))

-- No node has more below it than there is room for.
abbrev pub RowsHaveRoom : Type 0
RowsHaveRoom = (b : Array) (ks : Ks) (segment : List ℕ) (level : ℕ) (index : GroupIndex)
    → StandsIn b ks segment level index
    → (length (entries_in index) ≤ 2 * ks.leaf * length (leaf_ats index))
    × HaveRoom (2 * ks.internal) (length (leaf_ats index))
    (rows_below index level ++ (address_of index ∷ []) ∷ [])

-- Where no node of the B-tree is full or empty, there is room for one more in each row.
abbrev pub RowsHaveSpare : Type 0
RowsHaveSpare = (b : Array) (ks : Ks) (segment : List ℕ) (level : ℕ) (index : GroupIndex)
    → StandsIn b ks segment level index → All (HasRoom ks) (tree_nodes index)
    → HaveSpare (2 * ks.internal) (length (leaf_ats index)) (rows_below index level)

-- And where besides no symbol table node is full, there is room for one more entry.
abbrev pub LeavesHaveSpare : Type 0
LeavesHaveSpare = (b : Array) (ks : Ks) (segment : List ℕ) (level : ℕ) (index : GroupIndex)
    → StandsIn b ks segment level index → All (HasRoom ks) (tree_nodes index) → All (LeafHasRoom ks) (leaf_nodes index)
    → length (entries_in index) < 2 * ks.leaf * length (leaf_ats index)

-- The root's children are the uppermost row.
abbrev pub RootsChildren : Type 0
RootsChildren = (b : Array) (ks : Ks) (segment : List ℕ) (level : ℕ) (index : GroupIndex)
    → StandsIn b ks segment level index
    → root_entries index ≡ length (top_row (leaf_ats index) (rows_below index level))

-- Where the root has no child, nothing stands below it.
abbrev pub NothingBelow : Type 0
NothingBelow = (b : Array) (ks : Ks) (segment : List ℕ) (level : ℕ) (index : GroupIndex)
    → StandsIn b ks segment level index → root_entries index ≡ 0
    → (leaf_ats index ≡ []) × (entries_in index ≡ []) × (flat_map (λ (row : List ℕ). row) (rows_below index level) ≡ [])
