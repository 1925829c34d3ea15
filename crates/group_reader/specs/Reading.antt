-- What stands in the nodes of a group's B-tree, and which blocks the reading of one takes.
-- Cited by each function that reads nodes.
use Rattle.std.specs.Prelude.{◌≡◌, ◌⊎◌, ℕ, List, [], ◌∷◌, ◌++◌}
use Rattle.outside.specs.Array.{Array, bytes_of}
use Rattle.outside.specs.Blocks.{Block, Bounds, IsBlockRefused, AreTaken}
use Rattle.outside.specs.Space.{SpaceView}
use Rattle.h5_base.specs.declared.kinds.BlockKind.TheVariants as kind
use Rattle.h5_base.specs.declared.refusal.Refusal.{Refusal}
use Rattle.h5_base.specs.declared.refusal.Refusal.TheVariants.{Malformed}
use Rattle.node_codec.specs.GroupNodes.{SpellsGroupNode, group_node_len}
use Rattle.node_codec.specs.declared.group_node.GroupNode.{GroupNode}
use Rattle.block_space.specs.Blocks.{Keeps}
use Rattle.block_space.specs.declared.blocks.Blocks.{Blocks}
use Rattle.object_model.specs.Tree.{Name}
use Rattle.file_model.specs.Groups.{Ks, Found, HasText, AreBetween, Under, node_block}

-- just these blocks were taken into the catalogue, after those that were met before
abbrev pub TakesJust : {V : Type 0} → (V → SpaceView) → (old new : Blocks V) → List Block → Type 0
TakesJust view old new bs = (met : List Block) → Keeps view old met → Keeps view new (met ++ bs)

-- Children and the keys on both sides of each, as they are read: the links in order, and the blocks.
abbrev pub AreChildren : List ℕ → Under → List ℕ → List ℕ → List Found → List Block → Type 0
AreChildren segment Child keys [] fs bs = (fs ≡ []) × (bs ≡ [])
AreChildren segment Child [] (c ∷ cs) fs bs = ⊥
AreChildren segment Child (k ∷ []) (c ∷ cs) fs bs = ⊥
AreChildren segment Child (k ∷ l ∷ ks) (c ∷ cs) fs bs =
    (low high : Name) × (here later : List Found) × (own more : List Block) × HasText segment k low
    × HasText segment l high × Child c here own × AreBetween low high here
    × AreChildren segment Child (l ∷ ks) cs later more × (fs ≡ here ++ later) × (bs ≡ own ++ more)

-- the bytes spell a node, whatever its level
abbrev pub IsNodeAt : Array → Ks → (at : ℕ) → GroupNode → Type 0
IsNodeAt b ks at node = SpellsGroupNode ks.internal node (bytes_of b at (group_node_len ks.internal))

-- a node is refused whatever its level and its children: as a block, or, once it is taken, since its bytes spell none
abbrev pub IsHeadRefused : Array → Bounds → Ks → List Block → (at : ℕ) → Refusal → Type 0
IsHeadRefused b e ks met at r = IsBlockRefused e met (node_block ks at) kind.Tree r
    ⊎ (AreTaken e met (node_block ks at ∷ []) × ((n : GroupNode) → ¬ IsNodeAt b ks at n)
    × (r ≡ Malformed at kind.Tree))
