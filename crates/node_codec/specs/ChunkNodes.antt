-- A node of a chunk index, by the HDF5 File Format Specification 3.0, III.A.1.
-- Cited by `read_chunk_node`, `write_chunk_node` and whatever says what a dataset's blocks hold.
use Rattle.std.specs.Prelude.{◌≡◌, ℕ, ◌+◌, ◌*◌, ◌^◌, ◌<◌, ◌≤◌, List, ◌++◌, length, drop, map, slice_index, All}
use Rattle.std.specs.Int.{w32, w64, to_le_bytes}
use Rattle.h5_base.specs.Fields.{u32_at, u64_at, u64s_at, u64s_bytes}
use Rattle.node_codec.specs.Cells.{cells, woven, padded}
use Rattle.node_codec.specs.TreeHead.{IsTreeNode, IsU64, used_of, tree_head}
use Rattle.node_codec.specs.declared.chunk_node.ChunkNode.{ChunkNode}
use Rattle.node_codec.specs.declared.chunk_node.ChunkKey.{ChunkKey}

-- a key has the chunk's bytes, the filter mask, an offset for each dimension, and one within the element
abbrev pub chunk_key_len : ℕ → ℕ
chunk_key_len rank = 16 + 8 * rank

-- room for 2k + 1 keys and 2k children
abbrev pub chunk_node_len : ℕ → ℕ → ℕ
chunk_node_len k rank = 24 + (2 * k + 1) * chunk_key_len rank + 16 * k

-- what a key tells, without the offset within the element
abbrev pub chunk_key_of : ℕ → List ℕ → ChunkKey
chunk_key_of rank c = record {
  bytes = u32_at c 0;
  mask = u32_at c 4;
  offset = u64s_at c 8 8 rank;
}

-- the first n keys
abbrev pub key_cells : ℕ → ℕ → List ℕ → List (List ℕ)
key_cells rank n b = cells (chunk_key_len rank) (chunk_key_len rank + 8) n (drop 24 b)

-- what a node tells: key 0, child 0, and so on to the key behind the last child, from byte 24 on
abbrev pub chunk_node_of : ℕ → List ℕ → ChunkNode
chunk_node_of rank b = record {
  level = slice_index b 5;
  left = u64_at b 8;
  right = u64_at b 16;
  keys = map (chunk_key_of rank) (key_cells rank (used_of b + 1) b);
  children = u64s_at b (24 + chunk_key_len rank) (chunk_key_len rank + 8) (used_of b);
}

-- the offset within the element is 0
abbrev pub IsWholeElement : ℕ → List ℕ → Type 0
IsWholeElement rank c = u64_at c (8 + 8 * rank) ≡ 0

-- The block spells the node of chunks of so many dimensions; cells past the used ones are free, and so is the last
-- key's offset within the element.
pub record SpellsChunkNode (k rank : ℕ) (n : ChunkNode) (b : List ℕ) : Type 0 where
  pub block : IsTreeNode 1 k (chunk_node_len k rank) b
  pub elements : All (IsWholeElement rank) (key_cells rank (used_of b) b)
  pub value : n ≡ chunk_node_of rank b

-- the key has this rank
abbrev pub HasRank : ℕ → ChunkKey → Type 0
HasRank rank key = length key.offset ≡ rank

-- a node that a block with room for 2k children can spell
pub record FitsChunkNode (k rank : ℕ) (n : ChunkNode) : Type 0 where
  pub room : length n.children ≤ 2 * k
  pub one_more : length n.keys ≡ length n.children + 1
  pub ranks : All (HasRank rank) n.keys

-- a key as it is written
abbrev pub chunk_key_bytes : ChunkKey → List ℕ
chunk_key_bytes key = to_le_bytes w32 key.bytes ++ to_le_bytes w32 key.mask ++ u64s_bytes key.offset ++ to_le_bytes w64
    0

-- the block that is written: unused cells are 0, and so is each key's offset within the element
unfoldable pub chunk_node_bytes : ℕ → ℕ → ChunkNode → List ℕ
chunk_node_bytes k rank n =
    padded (chunk_node_len k rank) (tree_head 1 n.level (length n.children) n.left n.right ++ woven
    (map chunk_key_bytes n.keys) (map (to_le_bytes w64) n.children))

-- the numbers fit their types
pub record KeyInRange (key : ChunkKey) : Type 0 where
  pub bytes : key.bytes < 2 ^ 32
  pub mask : key.mask < 2 ^ 32
  pub offset : All IsU64 key.offset
