-- A node of a group's B-tree, by the HDF5 File Format Specification 3.0, III.A.1.
-- Cited by `read_group_node`, `write_group_node` and whatever says what a group's blocks hold.
use Rattle.std.specs.Prelude.{◌≡◌, ℕ, ◌+◌, ◌*◌, ◌≤◌, List, ◌++◌, length, map, slice_index}
use Rattle.std.specs.Int.{w64, to_le_bytes}
use Rattle.h5_base.specs.Fields.{u64_at, u64s_at}
use Rattle.node_codec.specs.Cells.{woven, padded}
use Rattle.node_codec.specs.TreeHead.{IsTreeNode, used_of, tree_head}
use Rattle.node_codec.specs.declared.group_node.GroupNode.{GroupNode}

-- room for 2k + 1 keys and 2k children
abbrev pub group_node_len : ℕ → ℕ
group_node_len k = 24 + 8 * (2 * k + 1) + 16 * k

-- what a node tells: key 0, child 0, and so on to the key behind the last child, from byte 24 on
abbrev pub group_node_of : List ℕ → GroupNode
group_node_of b = record {
  level = slice_index b 5;
  left = u64_at b 8;
  right = u64_at b 16;
  keys = u64s_at b 24 16 (used_of b + 1);
  children = u64s_at b 32 16 (used_of b);
}

-- The block spells the node; cells past the used ones are free.
pub record SpellsGroupNode (k : ℕ) (n : GroupNode) (b : List ℕ) : Type 0 where
  pub block : IsTreeNode 0 k (group_node_len k) b
  pub value : n ≡ group_node_of b

-- a node that a block with room for 2k children can spell
pub record FitsGroupNode (k : ℕ) (n : GroupNode) : Type 0 where
  pub room : length n.children ≤ 2 * k
  pub one_more : length n.keys ≡ length n.children + 1

-- the block that is written: unused cells are 0
unfoldable pub group_node_bytes : ℕ → GroupNode → List ℕ
group_node_bytes k n =
    padded (group_node_len k) (tree_head 0 n.level (length n.children) n.left n.right ++ woven
    (map (to_le_bytes w64) n.keys) (map (to_le_bytes w64) n.children))
