-- What came of an edit that was judged and reserved. Cited by `reserve_edit`, and by what answers a line that edits.
use Rattle.std.specs.Prelude.{◌<◌, ◌≡◌, ℕ, List, [], ◌∷◌, ◌++◌, Option, Some, None}
use Rattle.std.specs.List.{Contains}
use Rattle.h5_base.specs.declared.extent.Extent.{Extent}
use Rattle.h5_base.specs.declared.extent.MemClass.TheVariants as class
use Rattle.outside.specs.Blocks.{Block}
use Rattle.outside.specs.Space.{SpaceView}
use Rattle.block_space.specs.Catalogue.{block_of, blocks_of}
use Rattle.block_space.specs.Plans.{HasRoomFor, IsNoRoom, new_ranges}
use Rattle.block_space.specs.declared.plan.EditPlan.{EditPlan}
use Rattle.block_space.specs.declared.plan.ReserveStop.TheVariants as stop
use Rattle.block_space.specs.declared.plan.Take.{Take}
use Rattle.file_model.specs.Limits.{most_segment}
use Rattle.edit_room.specs.Judged.{PassesALimit}
use Rattle.edit_room.specs.Touched.{IsTouchedBy}
use Rattle.edit_room.specs.declared.stop.RoomStop.{RoomStop}
use Rattle.edit_room.specs.declared.stop.RoomStop.TheVariants.{Limit, Full, NoMemory}

-- Why a plan isn't reserved beside so many blocks: it passes a limit; else the first region that is too short.
abbrev pub IsRefusedBy : SpaceView → (count : ℕ) → EditPlan → RoomStop → Type 0
IsRefusedBy v count plan Limit = (ranges : List Extent) × IsTouchedBy v plan ranges × PassesALimit v count plan ranges
IsRefusedBy v count plan (Full end need) = (ranges : List Extent) × IsTouchedBy v plan ranges
    × (¬ PassesALimit v count plan ranges) × IsNoRoom v count plan.needs (stop.Full end need)
IsRefusedBy v count plan NoMemory = Unit {0}

-- A plan that touches these ranges passes no limit beside so many blocks, and no region is too short.
abbrev pub IsAdmitted : SpaceView → (count : ℕ) → EditPlan → List Extent → Type 0
IsAdmitted v count plan ranges = IsTouchedBy v plan ranges × (¬ PassesALimit v count plan ranges)
    × HasRoomFor v count plan.needs

-- a block of a local heap is longer than a segment may be
abbrev pub HasLongSegment : List Take → Type 0
HasLongSegment takes = (x : Take) × Contains takes x × (x.class ≡ class.LocalHeap) × (most_segment < x.len)

-- the range that is written when the session ends, where there is one
abbrev pub closing_blocks : Option Extent → List Block
closing_blocks None = []
closing_blocks (Some r) = block_of r ∷ []

-- all that a space is prepared for: what a plan writes, what the end of the session writes, and what the plan takes
abbrev pub asked_blocks : SpaceView → EditPlan → Option Extent → List Block
asked_blocks v plan closing = (blocks_of plan.writes ++ closing_blocks closing) ++ new_ranges v plan.needs
