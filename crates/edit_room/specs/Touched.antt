-- The ranges that a plan touches in a space: all that it writes, and behind the ends of regions all that it takes.
-- Cited by what judges and reserves an edit, and by what answers a line that edits.
use Rattle.std.specs.Prelude.{◌≡◌, ◌⊎◌, ℕ, ◌-◌, ◌<◌, ◌==◌, min, List, [], ◌++◌, length, Option, Some, None}
use Rattle.std.specs.Prelude.{if◌then◌else◌}
use Rattle.std.specs.List.{Contains, flat_map}
use Rattle.h5_base.specs.declared.extent.Extent.{Extent}
use Rattle.h5_base.specs.declared.extent.MemClass.{MemClass}
use Rattle.outside.specs.Blocks.{Block, placed}
use Rattle.outside.specs.Revisions.{Committed}
use Rattle.outside.specs.Space.{AreRegions, AreSound, SpaceView}
use Rattle.block_space.specs.Catalogue.{blocks_of}
use Rattle.block_space.specs.Plans.{FitsCatalogue, HasRoomFor, classes, need_of, needed, planned}
use Rattle.block_space.specs.Written.{TellsAllWritten, planned_blocks}
use Rattle.block_space.specs.declared.plan.EditPlan.{EditPlan}
use Rattle.block_space.specs.declared.plan.Needs.{Needs}
use Rattle.session_model.specs.State.{AreTouched, InReach, InTaken, IsTouched, State, need, setting_of}
use Rattle.object_model.specs.declared.command.Command.{Command}
use Rattle.session_model.specs.Line.{SameBeside}
use Rattle.edit_room.specs.Judged.{PassesALimit}

-- an address that a plan takes in a space: from a region's end on, and below its limit
abbrev pub IsTakenIn : SpaceView → EditPlan → ℕ → Type 0
IsTakenIn v plan a = InTaken (setting_of v None) v.ends plan.takes a

-- The ranges that a plan touches in a space: they have just the addresses of what it writes and of what it takes, and
-- each has one.
pub record IsTouchedBy (v : SpaceView) (plan : EditPlan) (ranges : List Extent) : Type 0 where
  pub some : (r : Extent) → Contains ranges r → 0 < r.len
  pub reached : (a : ℕ) → IsTouched ranges a → IsTouched plan.writes a ⊎ IsTakenIn v plan a
  pub written : (a : ℕ) → IsTouched plan.writes a → IsTouched ranges a
  pub taken : (a : ℕ) → IsTakenIn v plan a → IsTouched ranges a

-- ---- what is touched, class by class

-- the range behind the end of the region of a class, where something is needed of the class and the region has a byte
-- more: for what is needed of the region, up to its limit
abbrev pub cut_range : SpaceView → Needs → MemClass → List Block
cut_range v needs c = if needed needs c == 0 then [] else
    placed (v.ends c) (min (need_of v.regions needs c) ((v.regions c).limit - v.ends c))

-- the ranges that aren't empty
abbrev pub filled_ranges : List Extent → List Block
filled_ranges = flat_map (λ r. placed r.start r.len)

-- all ranges that are touched
abbrev pub touched_blocks : SpaceView → EditPlan → List Block
touched_blocks v plan = filled_ranges plan.writes ++ flat_map (cut_range v plan.needs) classes

-- ---- laws

-- They are the ranges of a line of a session, where all that the plan writes is within the line's reach.
abbrev pub TouchedInReach : Type 0
TouchedInReach = (v : SpaceView) (own : Option (List ℕ)) (s : State) (c : Command) (plan : EditPlan)
    (ranges : List Extent) → s.ends ≡ v.ends → IsTouchedBy v plan ranges
    → ((a : ℕ) → IsTouched plan.writes a → InReach (setting_of v own) s c a)
    → AreTouched (setting_of v own) s.ends plan.takes (InReach (setting_of v own) s c) ranges

-- what a plan needs of a region is what its takes need of it
abbrev pub NeedsAreTaken : Type 0
NeedsAreTaken = (v : SpaceView) (met : List Block) (plan : EditPlan) → FitsCatalogue met plan → (c : MemClass)
    → need_of v.regions plan.needs c ≡ need (setting_of v None) plan.takes c

-- the pages that a plan writes, where there is room for it, are those of the ranges that it touches
abbrev pub PagesAreTouched : Type 0
PagesAreTouched = (v : SpaceView) (met : List Block) (plan : EditPlan) (ranges : List Extent)
    (old new : Option Committed) → AreRegions v.regions v.ends → FitsCatalogue met plan
    → HasRoomFor v (length met) plan.needs → IsTouchedBy v plan ranges
    → TellsAllWritten (planned_blocks v.regions v.ends plan) old new → TellsAllWritten (blocks_of ranges) old new

-- and the bytes beside these ranges stay
abbrev pub StaysBeside : Type 0
StaysBeside = (v : SpaceView) (met : List Block) (plan : EditPlan) (ranges : List Extent)
    → AreRegions v.regions v.ends → FitsCatalogue met plan → HasRoomFor v (length met) plan.needs
    → IsTouchedBy v plan ranges → SameBeside ranges v.array (planned v.regions v.ends plan v.array)

-- whether a plan passes a limit doesn't depend on which ranges with its addresses are asked about
abbrev pub LimitOfAny : Type 0
LimitOfAny = (v : SpaceView) (count : ℕ) (plan : EditPlan) (some others : List Extent)
    → ((c : Committed) → v.committed ≡ Some c → AreSound c) → IsTouchedBy v plan some
    → IsTouchedBy v plan others → PassesALimit v count plan some → PassesALimit v count plan others
