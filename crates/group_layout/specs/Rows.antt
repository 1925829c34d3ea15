-- How a group's index is laid over the nodes at hand: level by level, each node filled from the left. The keys beside
-- the nodes are those of the row below. HDF5 File Format Specification 3.0, III.A.1.
-- Cited by what plans one link more or fewer.
use Rattle.std.specs.Prelude.{◌≡◌, ℕ, suc, ◌*◌, ◌≤◌, false, List, [], ◌∷◌, ◌++◌, length, take, drop, map}
use Rattle.outside.specs.Array.{Array, bytes_of}
use Rattle.h5_base.specs.Fields.{undefined}
use Rattle.node_codec.specs.GroupNodes.{SpellsGroupNode, group_node_len}
use Rattle.object_model.specs.Tree.{Name, name_lt}
use Rattle.file_model.specs.Index.{Bottom, Node, NoMore, Next, next_of}
use Rattle.file_model.specs.Groups.{Ks, GroupIndex, GroupIndexes, HasText, AreBetween, AreIndexes, address_of}
use Rattle.file_model.specs.Groups.{links_under, node_block}
use Rattle.outside.specs.Blocks.{Block}

-- a row as the children of a node
abbrev pub laid : List GroupIndex → GroupIndexes
laid [] = NoMore
laid (x ∷ xs) = Next x (laid xs)

-- one key before each node that has so many children, and the key behind the last
abbrev pub keys_above : {A B : Type 0} → (room : ℕ) → List ℕ → List A → List B → List A
keys_above room ats [] below = []
keys_above room [] (k ∷ keys) below = k ∷ []
keys_above room (at ∷ ats) (k ∷ keys) below =
    k ∷ keys_above room ats (drop (length (take room below)) (k ∷ keys)) (drop room below)

-- the nodes at these addresses over a row and its keys, each with as many children as there is room for
abbrev pub row_above : (level room before : ℕ) → (ats keys : List ℕ) → List GroupIndex → List GroupIndex
row_above level room before [] keys below = []
row_above level room before (at ∷ ats) keys below =
    Node (record {
      at = at;
      node = record {
        level = level;
        left = before;
        right = next_of (λ (a : ℕ). a) ats;
        keys = take (suc (length (take room below))) keys;
        children = map address_of (take room below);
      };
    }) (laid (take room below))
    ∷ row_above level room at ats (drop (length (take room below)) keys) (drop room below)

-- rows one above the other, the lowest first: the row that they end with
abbrev pub rows_above : (level room : ℕ) → List (List ℕ) → (keys : List ℕ) → List GroupIndex → List GroupIndex
rows_above level room [] keys below = below
rows_above level room (ats ∷ rows) keys below =
    rows_above (suc level) room rows (keys_above room ats keys below) (row_above level room undefined ats keys below)

-- each row has room for so many below it
abbrev pub HaveRoom : (room below : ℕ) → List (List ℕ) → Type 0
HaveRoom room below [] = Unit {0}
HaveRoom room below (ats ∷ rows) = (below ≤ room * length ats) × HaveRoom room (length ats) rows

-- ---- a row that is in order

-- the texts that stand at these offsets
abbrev pub AreTexts : List ℕ → List ℕ → List Name → Type 0
AreTexts segment [] [] = Unit {0}
AreTexts segment [] (n ∷ ns) = ⊥
AreTexts segment (k ∷ ks) [] = ⊥
AreTexts segment (k ∷ ks) (n ∷ ns) = HasText segment k n × AreTexts segment ks ns

-- Names that never descend, one more than the nodes: what stands under a node is above the one, and at most the next.
abbrev pub AreBounded : List Name → List GroupIndex → Type 0
AreBounded [] xs = ⊥
AreBounded (low ∷ []) [] = Unit {0}
AreBounded (low ∷ []) (x ∷ xs) = ⊥
AreBounded (low ∷ high ∷ ns) [] = ⊥
AreBounded (low ∷ high ∷ ns) (x ∷ xs) =
    (name_lt high low ≡ false) × AreBetween low high (links_under x) × AreBounded (high ∷ ns) xs

-- The nodes of a row lie in the file, and its keys tell what stands under them.
pub record IsRow (b : Array) (ks : Ks) (segment : List ℕ) (height : ℕ) (keys : List ℕ) (xs : List GroupIndex) : Type 0
  where
    pub stand : AreIndexes b ks segment height (laid xs)
    pub names : List Name
    pub texts : AreTexts segment keys names
    pub bounded : AreBounded names xs

-- the blocks of a row's nodes spell them
abbrev pub AreSpelled : Array → Ks → List GroupIndex → Type 0
AreSpelled b ks [] = Unit {0}
AreSpelled b ks (Bottom s ∷ xs) = AreSpelled b ks xs
AreSpelled b ks (Node n ys ∷ xs) =
    SpellsGroupNode ks.internal n.node (bytes_of b n.at (group_node_len ks.internal)) × AreSpelled b ks xs

-- and those of each row above one another
abbrev pub AllSpelled : Array → Ks → (level : ℕ) → List (List ℕ) → (keys : List ℕ) → List GroupIndex → Type 0
AllSpelled b ks level [] keys below = Unit {0}
AllSpelled b ks level (ats ∷ rows) keys below =
    AreSpelled b ks (row_above level (2 * ks.internal) undefined ats keys below)
    × AllSpelled b ks (suc level) rows (keys_above (2 * ks.internal) ats keys below)
    (row_above level (2 * ks.internal) undefined ats keys below)

-- the blocks of the nodes at these addresses, row by row
abbrev pub row_blocks : Ks → List (List ℕ) → List Block
row_blocks ks [] = []
row_blocks ks (ats ∷ rows) = row_blocks ks rows ++ map (node_block ks) ats
