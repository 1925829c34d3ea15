-- What the bytes at the addresses of nodes tell, row by row below a root.
-- HDF5 File Format Specification 3.0, III.A.1 and III.B. Cited by what reads rows.
use Rattle.std.specs.Prelude.{◌≡◌, ℕ, zero, suc, ◌+◌, ◌^◌, ◌<◌, List, [], ◌∷◌, ◌++◌, All}
use Rattle.std.specs.List.{flat_map}
use Rattle.outside.specs.Array.{Array, bytes_of}
use Rattle.h5_base.specs.Fields.{u16_at}
use Rattle.node_codec.specs.GroupNodes.{SpellsGroupNode, group_node_len, group_node_of}
use Rattle.node_codec.specs.Snod.{SpellsSnod, snod_len, entries_of}
use Rattle.node_codec.specs.declared.group_node.GroupNode.{GroupNode}
use Rattle.node_codec.specs.declared.snod.SnodEntry.{SnodEntry}
use Rattle.file_model.specs.Groups.{key_offsets}
use Rattle.plan_pieces.specs.declared.image.Image.{Image}

-- ---- what one node's bytes tell

-- the node of the B-tree at an address
unfoldable pub node_at : Array → (k at : ℕ) → GroupNode
node_at b k at = group_node_of (bytes_of b at (group_node_len k))

-- the entries of the symbol table node at an address
unfoldable pub entries_at : Array → (k at : ℕ) → List SnodEntry
entries_at b k at = entries_of (bytes_of b at (snod_len k)) (u16_at (bytes_of b at (snod_len k)) 6)

-- the bytes of both
unfoldable pub node_image : Array → (k at : ℕ) → Image
node_image b k at = record { at = at; bytes = bytes_of b at (group_node_len k) }

unfoldable pub leaf_image : Array → (k at : ℕ) → Image
leaf_image b k at = record { at = at; bytes = bytes_of b at (snod_len k) }

unfoldable pub head_image : Array → (at : ℕ) → Image
head_image b at = record { at = at; bytes = bytes_of b at 32 }

-- ---- what the bytes of a row tell

-- the addresses of the children of nodes
abbrev pub row_children : Array → (k : ℕ) → List ℕ → List ℕ
row_children b k = flat_map (λ at. (node_at b k at).children)

-- the offsets of their keys beside a child
abbrev pub row_offsets : Array → (k : ℕ) → List ℕ → List ℕ
row_offsets b k = flat_map (λ at. key_offsets (node_at b k at))

-- the entries of symbol table nodes
abbrev pub row_entries : Array → (k : ℕ) → List ℕ → List SnodEntry
row_entries b k = flat_map (entries_at b k)

-- the row so many levels below a row
abbrev pub row_down : Array → (k depth : ℕ) → List ℕ → List ℕ
row_down b k zero ats = ats
row_down b k (suc depth) ats = row_down b k depth (row_children b k ats)

-- the nodes of so many rows, from this one down
abbrev pub nodes_down : Array → (k depth : ℕ) → List ℕ → List ℕ
nodes_down b k zero ats = []
nodes_down b k (suc depth) ats = ats ++ nodes_down b k depth (row_children b k ats)

-- these rows, the lowest first
abbrev pub rows_down : Array → (k depth : ℕ) → List ℕ → List (List ℕ)
rows_down b k zero ats = []
rows_down b k (suc depth) ats = rows_down b k depth (row_children b k ats) ++ ats ∷ []

-- ---- where nodes are

-- The bytes at an address spell a node of the B-tree, of any level.
pub record IsNodeThere (b : Array) (k at : ℕ) : Type 0 where
  pub inside : at + group_node_len k < 2 ^ 64
  pub spelled : SpellsGroupNode k (node_at b k at) (bytes_of b at (group_node_len k))

-- The bytes at an address spell a symbol table node.
pub record IsLeafThere (b : Array) (k at : ℕ) : Type 0 where
  pub inside : at + snod_len k < 2 ^ 64
  pub spelled : SpellsSnod k (entries_at b k at) (bytes_of b at (snod_len k))

-- the bytes at the addresses spell nodes of this level
abbrev pub IsRow : Array → (k level : ℕ) → List ℕ → Type 0
IsRow b k level = All (λ at. IsNodeThere b k at × ((node_at b k at).level ≡ level))

-- and those of each row below them, down to level 0
abbrev pub AreRows : Array → (k height : ℕ) → List ℕ → Type 0
AreRows b k zero ats = Unit {0}
AreRows b k (suc level) ats = IsRow b k level ats × AreRows b k level (row_children b k ats)
