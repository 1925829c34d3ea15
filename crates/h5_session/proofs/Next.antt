-- The session once the plan of a line was done: in the state that the line leads to.
use Rattle.std.proofs.Common.{◌≡◌, ℕ, ℤ, Bool, true, List, ◌++◌, length, None, IsTrue, refl, sym, ◌∙◌, ap, subst}
use Rattle.h5_base.specs.declared.extent.Extent.{Extent}
use Rattle.h5_base.specs.declared.extent.MemClass.{MemClass}
use Rattle.h5_base.specs.declared.extent.Region.{Region}
use Rattle.outside.specs.Array.{Array}
use Rattle.outside.specs.Blocks.{AreKept, Block}
use Rattle.outside.specs.Space.{AreRegions, SpaceView, bounds_of}
use Rattle.block_space.specs.Blocks.{Keeps, space_of}
use Rattle.block_space.specs.Plans.{FitsCatalogue, HasRoomFor, taken_blocks}
use Rattle.block_space.specs.declared.blocks.Blocks.{Blocks}
use Rattle.block_space.specs.declared.plan.EditPlan.{EditPlan}
use Rattle.block_space.proofs.Planned.{planned_stays}
use Rattle.block_space.proofs.Readied.{ends_behind_needs}
use Rattle.edit_room.specs.Touched.{IsTouchedBy}
use Rattle.edit_room.proofs.Raised.{pages_are_touched, stays_beside}
use Rattle.edit_room.proofs.Touched.{needs_are_taken}
use Rattle.object_model.specs.declared.command.Command.{Command}
use Rattle.object_tree.proofs.Rooted.{kept_all}
use Rattle.super_codec.specs.declared.superblock.Superblock.{Superblock}
use Rattle.file_model.specs.Holds.{Full}
use Rattle.tree_nodes.specs.Entries.{superblock_of}
use Rattle.tree_places.specs.Kept.{HasPlaces}
use Rattle.session_model.specs.State.{Setting, State, full_of}
use Rattle.group_lines.specs.Lines.{AreItsRanges, IsAnswered, WasDone as LineWasDone}
use Rattle.group_lines.specs.States.{IsDone, StandsFor, plain_setting}
use Rattle.h5_session.specs.Doing.{WasDone}
use Rattle.h5_session.specs.Session.{IsIn, IsSameButEnd, setting_in, space_in}
use Rattle.h5_session.specs.declared.session.Session.{Session}

-- the setting stays where regions do, and whether the space can be written to
pub same_setting : (v w : SpaceView) → w.regions ≡ v.regions → w.writable ≡ v.writable
    → plain_setting v ≡ plain_setting w
same_setting v w regions writable =
    ap (λ (r : MemClass → Region). record { regions = r; writable = v.writable; own = None }) (sym regions)
    ∙ ap (λ (b : Bool). record { regions = w.regions; writable = b; own = None }) (sym writable)

module _ {V : Type 0} (view : V → SpaceView) (new : Session V) (v : SpaceView) (s : State) (c : Command)
    (met : List Block) (plan : EditPlan) (t : Full) (secs : ℤ)
    (a : IsAnswered v (view (space_in new)) s c met plan t secs) where
  pub next_in : (view (space_in new)).regions ≡ v.regions → (view (space_in new)).writable ≡ v.writable
      → Keeps view new.blocks (met ++ taken_blocks v.regions v.ends plan.takes) → HasPlaces new.tree t
      → IsSameButEnd (superblock_of new.tree) s.super → new.edited ≡ true → IsIn view new a.next
  next_in regions writable keeps places super edited = record {
    met = met ++ taken_blocks v.regions v.ends plan.takes;
    keeps = keeps;
    stands = subst (λ (k : Setting). StandsFor k (view (space_in new)) a.next
        (met ++ taken_blocks v.regions v.ends plan.takes)) (same_setting v (view (space_in new)) regions writable) a.stands;
    places = subst (HasPlaces new.tree) (sym a.tree) places;
    super = subst (IsSameButEnd (superblock_of new.tree)) (sym a.super) super;
    edited = edited ∙ sym a.edited;
  }

-- the plan of a line was done in the space of a session
module _ {V : Type 0} (view : V → SpaceView) (tells : Bool) (old new : Blocks V) (s : State) (met : List Block)
    (plan : EditPlan) (ranges : List Extent) where
  pub line_done : IsTrue tells → AreRegions (view (space_of old)).regions (view (space_of old)).ends
      → StandsFor (plain_setting (view (space_of old))) (view (space_of old)) s met → FitsCatalogue met plan
      → WasDone view tells old new met plan → AreItsRanges (view (space_of old)) (view (space_of new)) plan ranges
      → LineWasDone (view (space_of old)) (view (space_of new)) s met plan ranges
  line_done told regions stands fits was ranged = record {
    regions = regions;
    stands = stands;
    fits = fits;
    room = was.room;
    done = was.done told;
    kept = kept_all view new _ None was.keeps;
    ranged = ranged;
  }

-- the ranges of a plan that was done are those of its line
pub its_ranges : (v w : SpaceView) (met : List Block) (plan : EditPlan) (ranges : List Extent)
    → AreRegions v.regions v.ends → FitsCatalogue met plan → HasRoomFor v (length met) plan.needs
    → IsTouchedBy v plan ranges → IsDone v w plan → AreItsRanges v w plan ranges
its_ranges v w met plan ranges regions fits room touched done = record {
  touched = record { some = touched.some; reached = touched.reached; taken = touched.taken };
  stays = λ a out. ap (λ (b : Array). b a) done.array ∙ stays_beside ends_behind_needs planned_stays v met plan ranges regions fits room touched a out;
  pages = pages_are_touched ends_behind_needs v met plan ranges v.committed w.committed regions fits room touched done.pages;
  needs = needs_are_taken v met plan fits;
}
