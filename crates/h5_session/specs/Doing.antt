-- What comes of a plan: how it is judged, and what it leaves. Cited by each line that edits.
use Rattle.std.specs.Prelude.{◌≡◌, ℕ, Bool, IsTrue, List, ◌++◌, length}
use Rattle.h5_base.specs.declared.extent.Extent.{Extent}
use Rattle.outside.specs.Blocks.{Block}
use Rattle.outside.specs.Space.{SpaceView}
use Rattle.block_space.specs.Blocks.{Keeps, space_of}
use Rattle.block_space.specs.Plans.{HasRoomFor, IsNoRoom, RisenInPart, taken_blocks}
use Rattle.block_space.specs.declared.blocks.Blocks.{Blocks}
use Rattle.block_space.specs.declared.plan.EditPlan.{EditPlan}
use Rattle.block_space.specs.declared.plan.ReserveStop.TheVariants as reserve
use Rattle.edit_room.specs.Judged.{PassesALimit}
use Rattle.edit_room.specs.Touched.{IsTouchedBy}
use Rattle.group_lines.specs.States.{IsDone}
use Rattle.session_model.specs.State.{IsTouched}
use Rattle.h5_session.specs.declared.doing.Outcome.{Outcome}
use Rattle.h5_session.specs.declared.doing.Outcome.TheVariants as outcome

-- nothing changed
pub record IsAsBefore {V : Type 0} (view : V → SpaceView) (old new : Blocks V) (met : List Block) : Type 0 where
  pub view_is : view (space_of new) ≡ view (space_of old)
  pub keeps : Keeps view new met

-- the plan was done, and nothing else
pub record WasDone {V : Type 0} (view : V → SpaceView) (tells : Bool) (old new : Blocks V) (met : List Block)
    (plan : EditPlan) : Type 0 where
  pub room : HasRoomFor (view (space_of old)) (length met) plan.needs
  pub done : IsTrue tells → IsDone (view (space_of old)) (view (space_of new)) plan
  pub keeps : Keeps view new
      (met ++ taken_blocks (view (space_of old)).regions (view (space_of old)).ends plan.takes)

abbrev pub Comes : {V : Type 0} → (V → SpaceView) → Bool → (old new : Blocks V) → List Block → EditPlan → List Extent
    → Outcome → Type 0
Comes view tells old new met plan ranges outcome.Limit =
    PassesALimit (view (space_of old)) (length met) plan ranges × IsAsBefore view old new met
Comes view tells old new met plan ranges (outcome.Full end need) =
    (¬ PassesALimit (view (space_of old)) (length met) plan ranges)
    × IsNoRoom (view (space_of old)) (length met) plan.needs (reserve.Full end need) × IsAsBefore view old new met
Comes view tells old new met plan ranges outcome.Done =
    (¬ PassesALimit (view (space_of old)) (length met) plan ranges) × WasDone view tells old new met plan

-- The plan is judged by the ranges that it touches: it passes a limit, or has no room, and nothing changed; or it was
-- done.
pub record ComesTo {V : Type 0} (view : V → SpaceView) (tells : Bool) (old new : Blocks V) (met : List Block)
    (plan : EditPlan) (o : Outcome) : Type 0 where
  pub ranges : List Extent
  pub touched : IsTouchedBy (view (space_of old)) plan ranges
  pub comes : Comes view tells old new met plan ranges o

-- What a fault leaves of a plan that was begun: it passed no limit and had room, and what it doesn't touch is as it was.
pub record InPart (v w : SpaceView) (met : List Block) (plan : EditPlan) : Type 0 where
  pub ranges : List Extent
  pub touched : IsTouchedBy v plan ranges
  pub under : ¬ PassesALimit v (length met) plan ranges
  pub room : HasRoomFor v (length met) plan.needs
  pub stays : (a : ℕ) → ¬ IsTouched ranges a → w.array a ≡ v.array a
  pub ends : RisenInPart v.regions v.ends plan.takes w.ends
