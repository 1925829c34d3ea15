-- The nodes of rows as their blocks tell them, from addresses and keys alone: what is written.
-- HDF5 File Format Specification 3.0, III.A.1. Cited by what plans one link more or fewer.
use Rattle.std.specs.Prelude.{ℕ, suc, ◌*◌, List, [], ◌∷◌, length, take, drop, map}
use Rattle.outside.specs.Array.{Array, bytes_of}
use Rattle.h5_base.specs.Fields.{undefined}
use Rattle.node_codec.specs.GroupNodes.{SpellsGroupNode, group_node_len}
use Rattle.node_codec.specs.declared.group_node.GroupNode.{GroupNode}
use Rattle.file_model.specs.Index.{next_of}
use Rattle.file_model.specs.Groups.{Ks, GroupIndex, address_of}
use Rattle.group_layout.specs.Rows.{keys_above, AllSpelled}

-- the nodes at these addresses, over the addresses of the row below
abbrev pub nodes_above : (level room before : ℕ) → (ats keys children : List ℕ) → List GroupNode
nodes_above level room before [] keys children = []
nodes_above level room before (at ∷ ats) keys children =
    record {
      level = level;
      left = before;
      right = next_of (λ (a : ℕ). a) ats;
      keys = take (suc (length (take room children))) keys;
      children = take room children;
    }
    ∷ nodes_above level room at ats (drop (length (take room children)) keys) (drop room children)

-- the blocks at these addresses spell the nodes
abbrev pub AreNodesSpelled : Array → Ks → List ℕ → List GroupNode → Type 0
AreNodesSpelled b ks [] [] = Unit {0}
AreNodesSpelled b ks [] (n ∷ ns) = ⊥
AreNodesSpelled b ks (at ∷ ats) [] = ⊥
AreNodesSpelled b ks (at ∷ ats) (n ∷ ns) =
    SpellsGroupNode ks.internal n (bytes_of b at (group_node_len ks.internal)) × AreNodesSpelled b ks ats ns

-- and those of each row above one another
abbrev pub AllNodesSpelled : Array → Ks → (level : ℕ) → List (List ℕ) → (keys children : List ℕ) → Type 0
AllNodesSpelled b ks level [] keys children = Unit {0}
AllNodesSpelled b ks level (ats ∷ rows) keys children =
    AreNodesSpelled b ks ats (nodes_above level (2 * ks.internal) undefined ats keys children)
    × AllNodesSpelled b ks (suc level) rows (keys_above (2 * ks.internal) ats keys children) ats

-- They are the nodes of the rows that are laid above this one.
abbrev pub NodesSuffice : Type 0
NodesSuffice = (b : Array) (ks : Ks) (level : ℕ) (rows : List (List ℕ)) (keys : List ℕ) (xs : List GroupIndex)
    → AllNodesSpelled b ks level rows keys (map address_of xs) → AllSpelled b ks level rows keys xs
