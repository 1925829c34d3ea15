-- The pages that are written, where a space has revisions, by the blocks in which bytes were written.
-- Cited by `Blocks`, and by whatever counts the pages that an edit writes.
use Rattle.std.specs.Prelude.{◌≡◌, ◌⊎◌, ℕ, List, map, ◌++◌, Option, Some, None}
use Rattle.std.specs.List.{Contains}
use Rattle.h5_base.specs.declared.extent.MemClass.{MemClass}
use Rattle.h5_base.specs.declared.extent.Region.{Region}
use Rattle.outside.specs.Array.{Ends}
use Rattle.outside.specs.Blocks.{Block}
use Rattle.outside.specs.Pages.{ArePages, IsMet}
use Rattle.outside.specs.Revisions.{Committed}
use Rattle.block_space.specs.Catalogue.{blocks_of}
use Rattle.block_space.specs.Plans.{rounded, taken_blocks}
use Rattle.block_space.specs.declared.plan.Take.{Take}
use Rattle.block_space.specs.declared.plan.EditPlan.{EditPlan}

-- one of the blocks meets the page
abbrev pub MeetsBlock : ℕ → List Block → ℕ → Type 0
MeetsBlock page blocks p = (x : Block) × Contains blocks x × IsMet page x.start x.len p

-- those pages of a list, and those that one of the blocks meets
abbrev pub OrMetByBlock : ℕ → List ℕ → List Block → ℕ → Type 0
OrMetByBlock page pages blocks p = Contains pages p ⊎ MeetsBlock page blocks p

-- the pages that the blocks meet are written from now on, and nothing else changes of what is committed
pub record WritesAll (blocks : List Block) (old new : Committed) : Type 0 where
  pub pages : ArePages (OrMetByBlock old.page old.written blocks) new.written
  pub others : new ≡ record old { written = new.written }

abbrev pub TellsAllWritten : List Block → Option Committed → Option Committed → Type 0
TellsAllWritten blocks None new = new ≡ None
TellsAllWritten blocks (Some old) None = ⊥
TellsAllWritten blocks (Some old) (Some new) = WritesAll blocks old new

-- a block that is taken, with the bytes up to the next multiple of 8
abbrev pub whole_block : Block → Block
whole_block x = record { start = x.start; len = rounded x.len }

-- where the bytes lie that takes write
abbrev pub raised_blocks : (MemClass → Region) → Ends → List Take → List Block
raised_blocks regions ends takes = map whole_block (taken_blocks regions ends takes)

-- where those lie that a plan writes
abbrev pub planned_blocks : (MemClass → Region) → Ends → EditPlan → List Block
planned_blocks regions ends plan = raised_blocks regions ends plan.takes ++ blocks_of plan.writes
