-- What a plan leaves that was applied. Cited by `Blocks::apply`, and by whatever applies the plan of an edit.
use Rattle.std.specs.Prelude.{◌≡◌, ◌++◌, ◌+◌, ◌≤◌, ℕ, Bool, IsTrue, List, OnErr, OnOk, Result}
use Rattle.outside.specs.Blocks.{Block}
use Rattle.outside.specs.Space.{SpaceView}
use Rattle.outside.specs.declared.space.WriteStop.{WriteStop}
use Rattle.block_space.specs.Blocks.{HasRoomNow, Keeps, array_of, spare_of}
use Rattle.block_space.specs.Plans.{FitsCatalogue, LiesBeside, RisenInPart, ends_after, planned, taken_blocks}
use Rattle.block_space.specs.Written.{TellsAllWritten, planned_blocks}
use Rattle.block_space.specs.declared.blocks.Blocks.{Blocks}
use Rattle.block_space.specs.declared.plan.EditPlan.{EditPlan}

-- The plan was applied: its blocks are taken and its ranges written. What was prepared stays so, and there is room for
-- it.
pub record IsApplied {V : Type 0} (view : V → SpaceView) (tells : Bool) (old new : Blocks V) (plan : EditPlan) : Type 0
  where
    pub array : IsTrue tells → array_of view new
        ≡ planned (view old.space).regions (view old.space).ends plan (array_of view old)
    pub ends : (view new.space).ends ≡ ends_after (view old.space).regions (view old.space).ends plan.takes
    -- the catalogue has the blocks besides those that it had
    pub found : (met : List Block) → Keeps view old met → FitsCatalogue met plan
        → Keeps view new (met ++ taken_blocks (view old.space).regions (view old.space).ends plan.takes)
    pub prepared : (view new.space).prepared ≡ (view old.space).prepared
    pub history : IsTrue tells → (view new.space).history ≡ (view old.space).history
    pub pages : TellsAllWritten (planned_blocks (view old.space).regions (view old.space).ends plan)
        (view old.space).committed (view new.space).committed
    pub room : HasRoomNow view new

-- What applying a plan leaves: all of it where it is done, else nothing beside what it writes and takes.
pub record Applies {V : Type 0} (view : V → SpaceView) (tells : Bool) (old new : Blocks V) (plan : EditPlan)
    (result : Result Unit WriteStop) : Type 0 where
  pub done : OnOk result (IsApplied view tells old new plan)
  pub in_part : IsTrue tells → OnErr result ((a : ℕ) → LiesBeside (view old.space).regions (view old.space).ends plan a
      → array_of view new a ≡ array_of view old a)
  pub ends_in_part : RisenInPart (view old.space).regions (view old.space).ends plan.takes (view new.space).ends
  pub spare : spare_of old ≤ spare_of new + plan.needs.blocks
