-- How a plan is judged before it is done: the limits, and then the room in the regions.
-- Cited by what judges and reserves an edit, and by what answers a line that edits.
use Rattle.std.specs.Prelude.{◌≡◌, ℕ, ◌<◌, List}
use Rattle.std.specs.List.{Contains}
use Rattle.h5_base.specs.declared.extent.Extent.{Extent}
use Rattle.h5_base.specs.declared.extent.MemClass.TheVariants as class
use Rattle.outside.specs.Space.{HasRoom, SpaceView}
use Rattle.block_space.specs.Plans.{IsNoRoom}
use Rattle.block_space.specs.declared.plan.EditPlan.{EditPlan}
use Rattle.block_space.specs.declared.plan.ReserveStop.TheVariants as stop
use Rattle.block_space.specs.declared.plan.Take.{Take}
use Rattle.file_model.specs.Limits.{most_segment}

-- A plan that touches these ranges passes a limit: the number of blocks of a file, the length of a heap's segment, or
-- the bytes of the file with the revisions.
pub data PassesALimit (v : SpaceView) (count : ℕ) (plan : EditPlan) (ranges : List Extent) : Type 0 where
  Blocks : IsNoRoom v count plan.needs stop.TooMany → PassesALimit v count plan ranges
  Segment : (x : Take) → Contains plan.takes x → x.class ≡ class.LocalHeap → most_segment < x.len
      → PassesALimit v count plan ranges
  Pages : ¬ HasRoom v.committed ranges → PassesALimit v count plan ranges
