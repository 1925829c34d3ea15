-- The blocks of a group that was read, and what a check of blocks against the catalogue answers.
-- Cited by what plans an edit of a group.
use Rattle.std.specs.Prelude.{◌≡◌, List, ◌∷◌, ◌++◌, Result, OnOk, IfErr, IsErrOf}
use Rattle.std.specs.List.{Contains}
use Rattle.outside.specs.Blocks.{Block, placed}
use Rattle.outside.specs.Space.{SpaceView}
use Rattle.block_space.specs.Blocks.{Keeps, space_of}
use Rattle.block_space.specs.declared.blocks.Blocks.{Blocks}
use Rattle.block_space.specs.declared.plan.PlanStop.{PlanStop}
use Rattle.block_space.specs.declared.plan.PlanStop.TheVariants as stop
use Rattle.group_facts.specs.Rows.{blocks_by_rows}
use Rattle.group_rows.specs.Gathering.{IsMalformed}
use Rattle.group_rows.specs.declared.group.GroupAt.{GroupAt}
use Rattle.group_rows.specs.declared.group.GroupRead.{GroupRead}
use Rattle.group_heap.specs.declared.heap.Heap.{Heap}

-- each of these blocks is one of the others
abbrev pub AreAmong : (xs met : List Block) → Type 0
AreAmong xs met = (x : Block) → Contains xs x → Contains met x

-- the blocks of a heap; an empty segment has none
abbrev pub heap_blocks : Heap → List Block
heap_blocks heap = record { start = heap.at; len = 32 } ∷ placed heap.head.segment_at heap.head.len

-- the blocks that were read: those of the heap, and row by row those of the index
abbrev pub read_blocks : GroupAt → GroupRead → List Block
read_blocks g read = heap_blocks read.heap ++ blocks_by_rows g.ks read.leaves read.rows.items g.tree_at

-- A check of blocks is passed where all of them are in the catalogue, and else answers `Malformed`. The catalogue and
-- the space stay as they were.
pub record Checks {V : Type 0} (view : V → SpaceView) (old new : Blocks V) (xs : List Block)
    (result : Result Unit PlanStop) : Type 0 where
  pub passed : OnOk result ((met : List Block) → Keeps view old met → AreAmong xs met)
  pub refused : (met : List Block) → Keeps view old met → AreAmong xs met → IfErr result (λ s. ¬ IsMalformed s)
  pub kept : (met : List Block) → Keeps view old met → Keeps view new met
  pub space : space_of new ≡ space_of old
  pub calm : ¬ IsErrOf result stop.Failed
