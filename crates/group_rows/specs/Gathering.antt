-- What is gathered of nodes while they are read, and what a call that reads leaves.
-- Cited by each function that reads nodes.
use Rattle.std.specs.Prelude.{◌≡◌, ℕ, ◌+◌, List, ◌++◌, length, map, Result, IsErrOf}
use Rattle.std.specs.List.{flat_map}
use Rattle.outside.specs.Array.{Array}
use Rattle.outside.specs.Blocks.{Block}
use Rattle.outside.specs.Causes.{Counts, OneRose}
use Rattle.outside.specs.Space.{SpaceView}
use Rattle.block_space.specs.Blocks.{Keeps, space_of}
use Rattle.block_space.specs.declared.blocks.Blocks.{Blocks}
use Rattle.block_space.specs.declared.plan.PlanStop.{PlanStop}
use Rattle.block_space.specs.declared.plan.PlanStop.TheVariants as stop
use Rattle.file_model.specs.Groups.{entry_offsets}
use Rattle.plan_pieces.specs.declared.image.Image.{Image}
use Rattle.group_rows.specs.declared.gathered.Gathered.{Gathered}
use Rattle.group_heap.specs.Greatest.{IsGreatest}
use Rattle.group_rows.specs.Rows.{node_image, leaf_image, row_children, row_offsets, row_entries}

abbrev pub IsMalformed : PlanStop → Type 0
IsMalformed (stop.Malformed at kind) = Unit {0}
IsMalformed stop.Failed = ⊥
IsMalformed stop.NoMemory = ⊥

-- A call that reads leaves the catalogue, an alike space, and a count that rose exactly where it answers a fault.
pub record Reads {V T : Type 0} (view : V → SpaceView) (Alike : V → V → Type 0) (faults : V → Counts)
    (old new : Blocks V) (result : Result T PlanStop) : Type 0 where
  pub kept : (met : List Block) → Keeps view old met → Keeps view new met
  pub alike : Alike (space_of old) (space_of new)
  pub failed : IsErrOf result stop.Failed → OneRose (faults (space_of old)) (faults (space_of new))
  pub calm : ¬ IsErrOf result stop.Failed → faults (space_of new) ≡ faults (space_of old)

-- Blocks with these bytes were read, with these offsets in use, and so many nodes below were named.
pub record Adds (read : List Image) (used : List ℕ) (named : ℕ) (old new : Gathered) : Type 0 where
  pub images : new.images.items ≡ old.images.items ++ read
  pub last : (os : List ℕ) → IsGreatest os old.last → IsGreatest (os ++ used) new.last
  pub left : named + new.left ≡ old.left

-- the nodes of the B-tree at these addresses were read
abbrev pub AddsNodes : Array → (k : ℕ) → List ℕ → (old new : Gathered) → Type 0
AddsNodes b k ats = Adds (map (node_image b k) ats) (row_offsets b k ats) (length (row_children b k ats))

-- the symbol table nodes at these addresses were read
abbrev pub AddsLeaves : Array → (k : ℕ) → List ℕ → (old new : Gathered) → Type 0
AddsLeaves b k ats = Adds (map (leaf_image b k) ats) (flat_map entry_offsets (row_entries b k ats)) 0
