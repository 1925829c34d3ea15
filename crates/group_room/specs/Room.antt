-- What one link more takes in a group, and what a new group takes: which blocks, and how many. The first depends on the
-- group's index and its heap. Cited by what adds a link or makes a group, and by what says how an edit of a file is
-- answered.
use Rattle.std.specs.Prelude.{◌≡◌, ℕ, ◌+◌, ◌*◌, ◌<◌, ◌≤◌, List, [], ◌∷◌, ◌++◌, length, replicate, All}
use Rattle.h5_base.specs.declared.extent.MemClass.TheVariants as class
use Rattle.h5_base.specs.declared.kinds.BlockKind.TheVariants as kind
use Rattle.node_codec.specs.Snod.{snod_len}
use Rattle.node_codec.specs.GroupNodes.{group_node_len}
use Rattle.object_model.specs.Tree.{Name}
use Rattle.outside.specs.Array.{Array, bytes_of}
use Rattle.outside.specs.Blocks.{Block}
use Rattle.block_space.specs.declared.plan.Take.{Take}
use Rattle.file_model.specs.Index.{Bottom, Node, gather}
use Rattle.file_model.specs.Groups.{Ks, Found, GroupIndex, LeafNode, TreeNode, HasLinks, index_offsets}
use Rattle.group_room.specs.Used.{IsUsedLen, segment_takes}

-- the nodes of a group's B-tree, and its symbol table nodes
abbrev pub tree_nodes : GroupIndex → List TreeNode
tree_nodes = gather (λ n. n ∷ []) (λ s. [])

abbrev pub leaf_nodes : GroupIndex → List LeafNode
leaf_nodes = gather (λ n. []) (λ s. s ∷ [])

-- how many entries the root node has
abbrev pub root_entries : GroupIndex → ℕ
root_entries (Bottom s) = 0
root_entries (Node n xs) = length n.node.children

-- a node of the B-tree that is neither full nor empty, and a symbol table node that isn't full
pub record HasRoom (ks : Ks) (n : TreeNode) : Type 0 where
  pub some : 0 < length n.node.children
  pub room : length n.node.children < 2 * ks.internal

abbrev pub LeafHasRoom : Ks → LeafNode → Type 0
LeafHasRoom ks s = length s.entries < 2 * ks.leaf

-- In a group whose root node has entries: at most one symbol table node, and at most two B-tree nodes more than the
-- root has levels; none of either where no node makes them needed.
pub record GrowsAtMost (ks : Ks) (index : GroupIndex) (level leaves nodes : ℕ) : Type 0 where
  pub some : 0 < root_entries index
  pub one_leaf : leaves ≤ 1
  pub few_nodes : nodes ≤ level + 2
  pub no_node : All (HasRoom ks) (tree_nodes index) → nodes ≡ 0
  pub no_leaf : All (HasRoom ks) (tree_nodes index) → All (LeafHasRoom ks) (leaf_nodes index) → leaves ≡ 0

-- So many symbol table nodes and B-tree nodes are new in an index whose root has this level, and that gets one link
-- more.
pub data Grows (ks : Ks) (index : GroupIndex) (level leaves nodes : ℕ) : Type 0 where
  FirstName : root_entries index ≡ 0 → leaves ≡ 1 → nodes ≡ 0 → Grows ks index level leaves nodes
  LaterName : GrowsAtMost ks index level leaves nodes → Grows ks index level leaves nodes

-- a symbol table node, and a node of the B-tree, as they are taken
abbrev pub leaf_take : Ks → Take
leaf_take ks = record { class = class.Tree; len = snod_len ks.leaf; kind = kind.Snod }

abbrev pub node_take : Ks → Take
node_take ks = record { class = class.Tree; len = group_node_len ks.internal; kind = kind.Tree }

-- an object header of so many bytes, and so many bytes of a local heap, as they are taken
abbrev pub header_take : ℕ → Take
header_take len = record { class = class.Header; len = len; kind = kind.Header }

abbrev pub heap_take : ℕ → Take
heap_take len = record { class = class.LocalHeap; len = len; kind = kind.Heap }

-- What a new group takes, in this order: its object header, the root of its B-tree, the header of its local heap, the
-- heap's segment.
abbrev pub group_takes : Ks → List Take
group_takes ks = header_take 40 ∷ node_take ks ∷ heap_take 32 ∷ heap_take 88 ∷ []

-- What one link of this name more takes in a group, in this order. The number of nodes is the only free choice.
pub record TakesName (ks : Ks) (index : GroupIndex) (level len : ℕ) (segment : List ℕ) (name : Name) (ts : List Take)
    : Type 0 where
  pub used : ℕ
  pub used_len : IsUsedLen segment (index_offsets index) used
  pub leaves : ℕ
  pub nodes : ℕ
  pub grows : Grows ks index level leaves nodes
  pub are : ts ≡ segment_takes used len name ++ replicate leaves (leaf_take ks) ++ replicate nodes (node_take ks)

-- what one link more takes in the group that the array holds
abbrev pub Takes : (b : Array) (ks : Ks) (tree heap : ℕ) (fs : List Found) (bs : List Block)
    → HasLinks b ks tree heap fs bs → Name → List Take → Type 0
Takes b ks tree heap fs bs h name ts =
    TakesName ks h.index h.level h.head.len (bytes_of b h.head.segment_at h.head.len) name ts
