-- The nodes of an index at hand, and those that one entry more takes.
-- HDF5 File Format Specification 3.0, III.A.1 and III.B. Cited by what plans one link more.
use Rattle.std.specs.Prelude.{◌≡◌, ◌⊎◌, ℕ, ◌+◌, ◌*◌, ◌-◌, ◌^◌, ◌<◌, ◌≤◌, ◌==◌, min, List, [], ◌∷◌, ◌++◌, length, map}
use Rattle.std.specs.Prelude.{replicate, if◌then◌else◌}
use Rattle.std.specs.List.{flat_map}
use Rattle.h5_base.specs.declared.extent.MemClass.TheVariants as class
use Rattle.outside.specs.Space.{SpaceView}
use Rattle.block_space.specs.declared.plan.Needs.{Needs}
use Rattle.node_codec.specs.Snod.{snod_len}
use Rattle.node_codec.specs.GroupNodes.{group_node_len}
use Rattle.file_model.specs.Groups.{Ks}
use Rattle.plan_pieces.specs.Plan.{IsWithBlock}
use Rattle.group_room.specs.Index.{addresses}
use Rattle.group_layout.specs.Growth.{AreWider}
use Rattle.group_layout.specs.Laying.{ats_of}
use Rattle.group_layout.specs.declared.row.IndexRows.{IndexRows}
use Rattle.group_layout.specs.declared.row.Row.{Row}
use Rattle.group_facts.specs.Places.{ends_ahead}
use Rattle.group_facts.specs.Rows.{top_row}

-- the address that is told for a block of the tree behind what is ahead
abbrev pub next_node : SpaceView → Needs → ℕ
next_node v ahead = min (ends_ahead v ahead class.Tree) (2 ^ 64 - 1)

-- Symbol table nodes for so many entries: those at hand, and one more where they have no room; and what is ahead then.
abbrev pub AreLeavesFor : SpaceView → (k : ℕ) → Needs → (count : ℕ) → List ℕ → Row → Needs → Type 0
AreLeavesFor v k ahead count leaves row behind = (row.old ≡ leaves)
    × ((count ≤ 2 * k * length leaves) × (row.new ≡ []) × (behind ≡ ahead)
    ⊎ (2 * k * length leaves < count) × (row.new ≡ next_node v ahead ∷ [])
    × IsWithBlock ahead class.Tree (snod_len k) behind)

-- the rows above them: none where the root has no entry
abbrev pub kept_rows : List ℕ → List (List ℕ) → List (List ℕ)
kept_rows leaves rows = if length (top_row leaves rows) == 0 then [] else rows

-- The nodes at hand with those that are taken, in this order: a symbol table node, and then those of the rows above.
pub record IsGrown (v : SpaceView) (ks : Ks) (ahead : Needs) (count : ℕ) (leaves : List ℕ) (rows : List (List ℕ))
    (tree : ℕ) (index : IndexRows) : Type 0 where
  pub behind : Needs
  pub are_leaves : AreLeavesFor v ks.leaf ahead count leaves index.leaves behind
  pub wider : AreWider (2 * ks.internal) (length (ats_of index.leaves)) (kept_rows leaves rows) (map ats_of index.rows)
  pub olds : map (λ r. r.old) index.rows
      ≡ kept_rows leaves rows ++ replicate (length index.rows - length (kept_rows leaves rows)) []
  pub news : next_node v behind + group_node_len ks.internal * length (flat_map (λ r. r.new) index.rows) < 2 ^ 64
      → flat_map (λ r. r.new) index.rows
      ≡ addresses (next_node v behind) (group_node_len ks.internal) (length (flat_map (λ r. r.new) index.rows))
  pub root : index.tree ≡ tree
