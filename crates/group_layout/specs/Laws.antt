-- What rows that are laid one above the other are: an index with the same links.
use Rattle.std.specs.Prelude.{◌≡◌, ◌⊎◌, ℕ, suc, ◌+◌, ◌*◌, ◌<◌, ◌≤◌, List, [], ◌∷◌, ◌++◌, length, map, slice_index}
use Rattle.std.specs.List.{Contains, flat_map}
use Rattle.outside.specs.Array.{Array}
use Rattle.h5_base.specs.Fields.{undefined}
use Rattle.file_model.specs.Index.{row_in, AreSiblings}
use Rattle.node_codec.specs.declared.snod.SnodEntry.{SnodEntry}
use Rattle.object_model.specs.Tree.{Name, AreOrdered}
use Rattle.file_model.specs.Groups.{Ks, GroupIndex, TreeNode, Found, HasText, AreLinks, IsIndex, links_within}
use Rattle.file_model.specs.Groups.{links_under, address_of, blocks_within, index_blocks, node_block, leaf_block}
use Rattle.file_model.specs.Groups.{entry_offsets, index_offsets}
use Rattle.outside.specs.Blocks.{Block}
use Rattle.std.specs.List.Sorted.{IsPermutation}
use Rattle.group_room.specs.Index.{entries_in, leaf_ats}
use Rattle.group_layout.specs.Leaves.{leaves, leaf_keys, AreLeavesSpelled}
use Rattle.file_model.specs.WellKept.{BeginsEmpty, IsKeptGroup}
use Rattle.group_layout.specs.Rows.{laid, keys_above, row_above, rows_above, HaveRoom, IsRow, AreSpelled, AllSpelled}
use Rattle.group_layout.specs.Rows.{row_blocks}

-- each level of the nodes below is well kept
pub record AreKept (xs : List GroupIndex) : Type 0 where
  pub siblings : (depth : ℕ) → AreSiblings (λ (n : TreeNode). n.at) (λ n. n.node.left) (λ n. n.node.right) undefined
      (row_in depth (laid xs))
  pub leftmost : (depth : ℕ) → BeginsEmpty (row_in depth (laid xs))

-- Symbol table nodes filled with links in order, above a name that comes before all of them, are a row in order.
abbrev pub LeavesInOrder : Type 0
LeavesInOrder = (b : Array) (ks : Ks) (segment : List ℕ) (base : ℕ) (least : Name) (ats : List ℕ) (es : List SnodEntry)
    (fs : List Found) → HasText segment base least → AreLinks segment es fs
    → AreOrdered (least ∷ map (λ (f : Found). f.name) fs) → length es ≤ 2 * ks.leaf * length ats
    → AreLeavesSpelled b ks ats es
    → IsRow b ks segment 0 (leaf_keys (2 * ks.leaf) base ats es) (leaves (2 * ks.leaf) ats es fs)
    × (links_within (laid (leaves (2 * ks.leaf) ats es fs)) ≡ fs)

-- They are well kept, since only nodes of the B-tree have siblings.
abbrev pub LeavesKept : Type 0
LeavesKept = (room : ℕ) (ats : List ℕ) (es : List SnodEntry) (fs : List Found) → AreKept (leaves room ats es fs)

-- a row over a row that is in order is in order, with the same links
abbrev pub RowAbove : Type 0
RowAbove = (b : Array) (ks : Ks) (segment : List ℕ) (height before : ℕ) (ats keys : List ℕ) (xs : List GroupIndex)
    → IsRow b ks segment height keys xs → length xs ≤ 2 * ks.internal * length ats
    → AreSpelled b ks (row_above height (2 * ks.internal) before ats keys xs)
    → IsRow b ks segment (suc height) (keys_above (2 * ks.internal) ats keys xs)
    (row_above height (2 * ks.internal) before ats keys xs)
    × (links_within (laid (row_above height (2 * ks.internal) before ats keys xs)) ≡ links_within (laid xs))

-- The same of any number of rows. Where the uppermost has one node, that node is an index.
abbrev pub RowsAbove : Type 0
RowsAbove = (b : Array) (ks : Ks) (segment : List ℕ) (height : ℕ) (rows : List (List ℕ)) (keys : List ℕ)
    (xs : List GroupIndex) → IsRow b ks segment height keys xs → HaveRoom (2 * ks.internal) (length xs) rows
    → AllSpelled b ks height rows keys xs
    → ((above : List ℕ) × IsRow b ks segment (height + length rows) above
    (rows_above height (2 * ks.internal) rows keys xs))
    × (links_within (laid (rows_above height (2 * ks.internal) rows keys xs)) ≡ links_within (laid xs))

-- Rows above one that is well kept are, where the first key is 0
abbrev pub KeptAbove : Type 0
KeptAbove = (level room : ℕ) (rows : List (List ℕ)) (keys : List ℕ) (xs : List GroupIndex) → AreKept xs
    → HaveRoom room (length xs) rows → AreKept (rows_above level room rows (0 ∷ keys) xs)

-- The blocks of an index that is laid out are those of the nodes.
abbrev pub RowsBlocks : Type 0
RowsBlocks = (ks : Ks) (level room : ℕ) (rows : List (List ℕ)) (keys : List ℕ) (xs : List GroupIndex)
    → HaveRoom room (length xs) rows
    → IsPermutation (blocks_within ks (laid (rows_above level room rows keys xs)))
    (row_blocks ks rows ++ blocks_within ks (laid xs))

-- The entries and links of a group as an index of this level above the symbol table nodes, whose root stands at this
-- address. Its least key is at the offset base, and each other key is the name of an entry.
pub record IsLaid (b : Array) (ks : Ks) (segment : List ℕ) (tree level base : ℕ) (es : List SnodEntry)
    (fs : List Found) (bs : List Block) : Type 0 where
  pub index : GroupIndex
  pub root : address_of index ≡ tree
  pub stands : IsIndex b ks segment (suc level) index
  pub entries : entries_in index ≡ es
  pub links : links_under index ≡ fs
  pub offsets : (o : ℕ) → Contains (index_offsets index) o → (o ≡ base) ⊎ Contains (flat_map entry_offsets es) o
  pub used : (o : ℕ) → Contains (flat_map entry_offsets es) o → Contains (index_offsets index) o
  pub base_used : 0 < length (leaf_ats index) → Contains (index_offsets index) base
  pub blocks : IsPermutation (index_blocks ks index) bs
  pub kept : slice_index segment 0 ≡ 0 → IsKeptGroup segment index

-- A list of links that is laid over symbol table nodes and rows, the root alone in the uppermost, is the group's. Its
-- least key is the empty name, at offset 0 where that stands there.
abbrev pub GroupLaid : Type 0
GroupLaid = (b : Array) (ks : Ks) (segment : List ℕ) (base : ℕ) (ats : List ℕ) (rows : List (List ℕ)) (tree : ℕ)
    (es : List SnodEntry) (fs : List Found) → HasText segment base [] → (slice_index segment 0 ≡ 0 → base ≡ 0)
    → AreLinks segment es fs → AreOrdered ([] ∷ map (λ (f : Found). f.name) fs)
    → length es ≤ 2 * ks.leaf * length ats → AreLeavesSpelled b ks ats es
    → HaveRoom (2 * ks.internal) (length ats) (rows ++ (tree ∷ []) ∷ [])
    → AllSpelled b ks 0 (rows ++ (tree ∷ []) ∷ []) (leaf_keys (2 * ks.leaf) base ats es)
    (leaves (2 * ks.leaf) ats es fs)
    → IsLaid b ks segment tree (length rows) base es fs
    (node_block ks tree ∷ row_blocks ks rows ++ map (leaf_block ks) ats)
