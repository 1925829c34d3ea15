-- An index that is laid over nodes, some of them new: which nodes, what their blocks spell, and how they are taken.
-- HDF5 File Format Specification 3.0, III.A.1 and III.B. Cited by `lay` and `widen`, and by what plans an edit of a
-- group.
use Rattle.std.specs.Prelude.{ℕ, ◌*◌, List, [], ◌∷◌, ◌++◌, map}
use Rattle.std.specs.List.{flat_map}
use Rattle.outside.specs.Array.{Array}
use Rattle.outside.specs.Blocks.{Block}
use Rattle.block_space.specs.declared.plan.Take.{Take}
use Rattle.node_codec.specs.declared.snod.SnodEntry.{SnodEntry}
use Rattle.file_model.specs.Groups.{Ks, leaf_block, node_block}
use Rattle.group_room.specs.Room.{leaf_take, node_take}
use Rattle.group_layout.specs.Leaves.{leaf_keys, AreLeavesSpelled}
use Rattle.group_layout.specs.Nodes.{AllNodesSpelled}
use Rattle.group_layout.specs.declared.row.Row.{Row}
use Rattle.group_layout.specs.declared.row.IndexRows.{IndexRows}

-- the nodes of a level from left to right
abbrev pub ats_of : Row → List ℕ
ats_of row = row.old ++ row.new

-- the rows of B-tree nodes, the lowest first, with the root alone in the uppermost
abbrev pub rows_of : IndexRows → List (List ℕ)
rows_of index = map ats_of index.rows ++ (index.tree ∷ []) ∷ []

-- the blocks of rows of B-tree nodes that are there, those that are taken, and how these are taken
abbrev pub old_nodes : Ks → List Row → List Block
old_nodes ks = flat_map (λ (r : Row). map (node_block ks) r.old)

abbrev pub new_nodes : Ks → List Row → List Block
new_nodes ks = flat_map (λ (r : Row). map (node_block ks) r.new)

abbrev pub node_takes : Ks → List Row → List Take
node_takes ks = flat_map (λ (r : Row). map (λ (a : ℕ). node_take ks) r.new)

-- the same of all levels
abbrev pub old_blocks : Ks → IndexRows → List Block
old_blocks ks index = map (leaf_block ks) index.leaves.old ++ old_nodes ks index.rows ++ node_block ks index.tree ∷ []

abbrev pub new_blocks : Ks → IndexRows → List Block
new_blocks ks index = map (leaf_block ks) index.leaves.new ++ new_nodes ks index.rows

abbrev pub new_takes : Ks → IndexRows → List Take
new_takes ks index = map (λ (a : ℕ). leaf_take ks) index.leaves.new ++ node_takes ks index.rows

-- The blocks of the nodes spell the entries, filled from the left, above a name at this offset that comes before them.
pub record IsSpelledOut (b : Array) (ks : Ks) (base : ℕ) (index : IndexRows) (es : List SnodEntry) : Type 0 where
  pub leaves : AreLeavesSpelled b ks (ats_of index.leaves) es
  pub nodes : AllNodesSpelled b ks 0 (rows_of index) (leaf_keys (2 * ks.leaf) base (ats_of index.leaves) es)
      (ats_of index.leaves)

-- a row that doesn't grow
abbrev pub unchanged : List ℕ → Row
unchanged row = record { old = row; new = [] }
