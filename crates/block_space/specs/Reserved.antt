-- What was reserved for a plan. Cited by what applies it.
use Rattle.std.specs.Prelude.{ℕ, ◌<◌, ◌≤◌, IsTrue, ◌++◌, List, Option}
use Rattle.std.specs.List.{Contains}
use Rattle.std.specs.List.Sorted.{IsPermutation}
use Rattle.h5_base.specs.declared.extent.Extent.{Extent}
use Rattle.h5_base.specs.declared.extent.MemClass.{MemClass}
use Rattle.outside.specs.Blocks.{Block}
use Rattle.outside.specs.Revisions.{Committed}
use Rattle.outside.specs.Space.{SpaceView, AreCovered, HasRoom}
use Rattle.block_space.specs.Catalogue.{block_of, blocks_of}
use Rattle.block_space.specs.Plans.{HasRoomFor, needed, need_of, new_ranges}
use Rattle.block_space.specs.declared.plan.Needs.{Needs}
use Rattle.block_space.specs.declared.plan.EditPlan.{EditPlan}

-- The ranges cover what is written, and what is needed behind the ends.
pub record CoversAll (v : SpaceView) (needs : Needs) (given ranges : List Extent) : Type 0 where
  pub writes : (w : Extent) → Contains given w → AreCovered ranges w.start w.len
  pub takes : (c : MemClass) → 0 < needed needs c → AreCovered ranges (v.ends c) (need_of v.regions needs c)

-- The space was prepared for the plan's writes and takes, and maybe for others of the same step, and has room for all
-- of them; there is room beside so many blocks, and the catalogue takes the plan's blocks without memory, since it
-- takes so many more.
pub record IsReserved (v : SpaceView) (spare count : ℕ) (plan : EditPlan) : Type 0 where
  pub writable : IsTrue v.writable
  pub fits : HasRoomFor v count plan.needs
  pub covered : CoversAll v plan.needs plan.writes v.prepared
  pub room : HasRoom v.committed v.prepared
  pub enough : plan.needs.blocks ≤ spare

-- each range that was given before, and is among the blocks that are asked for again, stays given
abbrev pub AskedStay : List Block → SpaceView → SpaceView → Type 0
AskedStay asked old new = (r : Extent) → Contains old.prepared r → Contains asked (block_of r)
    → Contains new.prepared r

-- ---- laws

-- what `reserve` prepares a space for covers what was asked
abbrev pub ReservedCovers : Type 0
ReservedCovers = (v : SpaceView) (needs : Needs) (writes ranges : List Extent)
    → IsPermutation (blocks_of ranges) (blocks_of writes ++ new_ranges v needs) → CoversAll v needs writes ranges

-- whether there is room for ranges doesn't depend on their order
abbrev pub RoomInAnyOrder : Type 0
RoomInAnyOrder = (committed : Option Committed) (old new : List Extent) → IsPermutation (blocks_of old) (blocks_of new)
    → HasRoom committed old → HasRoom committed new
