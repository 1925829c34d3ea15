-- What the lines that edit a group come to once their plans were done. Each law is the clause of a small public function.
use Rattle.std.specs.Prelude.{◌≡◌, ℕ, ℤ, ◌≤◌, List, ◌++◌, length, None, Ok, true}
use Rattle.std.specs.List.{Contains}
use Rattle.h5_base.specs.declared.extent.Extent.{Extent}
use Rattle.h5_base.specs.declared.extent.MemClass.{MemClass}
use Rattle.h5_base.specs.declared.extent.MemClass.TheVariants as class
use Rattle.outside.specs.Blocks.{AreKept, Block}
use Rattle.outside.specs.Space.{AreRegions, SpaceView, bounds_of}
use Rattle.block_space.specs.Catalogue.{blocks_of as ranges_of}
use Rattle.block_space.specs.Plans.{FitsCatalogue, HasRoomFor, need_of, taken_blocks}
use Rattle.block_space.specs.Written.{TellsAllWritten}
use Rattle.block_space.specs.declared.plan.EditPlan.{EditPlan}
use Rattle.block_space.specs.declared.plan.Take.{Take}
use Rattle.object_model.specs.Tree.{Empty, Group, Name, last_of}
use Rattle.object_model.specs.declared.answer.Answer.TheVariants as answer
use Rattle.object_model.specs.declared.command.Command.{Command}
use Rattle.object_model.specs.declared.command.Command.TheVariants as command
use Rattle.super_codec.specs.declared.superblock.Superblock.{Superblock}
use Rattle.file_model.specs.EditLaws.{group_at}
use Rattle.file_model.specs.Holds.{Full, FullLinks, GroupAt, ks_of, plain}
use Rattle.file_model.specs.Limits.{most_segment}
use Rattle.group_room.specs.Index.{AreSmall}
use Rattle.group_rows.specs.declared.group.GroupAt.{GroupAt as GroupPlace}
use Rattle.group_edit.specs.Edited.{Removes}
use Rattle.object_edit.specs.Making.{MakesGroup}
use Rattle.object_edit.specs.declared.making.GroupPlan.{GroupPlan}
use Rattle.tree_places.specs.Kept.{IsSameGroup}
use Rattle.tree_places.specs.Places.{add_place, remove_place, to_add, to_remove}
use Rattle.session_model.specs.Line.{Does, Line, SameBeside}
use Rattle.session_model.specs.State.{AreTouched, IsTouched, Plan, Setting, State, full_of, need}
use Rattle.session_model.specs.TooLarge.{IsTooLarge}
use Rattle.group_lines.specs.States.{IsDone, StandsFor, plain_setting}

-- where a group's header, B-tree and heap stand, with the file's K values
abbrev pub place_of : Superblock → GroupAt → GroupPlace
place_of s g = record { header_at = g.header_at; tree_at = g.tree_at; heap_at = g.heap_at; ks = ks_of s }

-- The ranges are those that a plan touches: all that it writes and takes. What lies beside them stays, and just their
-- pages are written.
pub record AreItsRanges (v w : SpaceView) (plan : EditPlan) (ranges : List Extent) : Type 0 where
  pub touched : AreTouched (plain_setting v) v.ends plan.takes (IsTouched plan.writes) ranges
  pub stays : SameBeside ranges v.array w.array
  pub pages : TellsAllWritten (ranges_of ranges) v.committed w.committed
  pub needs : (c : MemClass) → need_of v.regions plan.needs c ≡ need (plain_setting v) plan.takes c

-- A plan that fits the catalogue of a state was done over a space with room for it.
pub record WasDone (v w : SpaceView) (s : State) (met : List Block) (plan : EditPlan) (ranges : List Extent) : Type 0
  where
    pub regions : AreRegions v.regions v.ends
    pub stands : StandsFor (plain_setting v) v s met
    pub fits : FitsCatalogue met plan
    pub room : HasRoomFor v (length met) plan.needs
    pub done : IsDone v w plan
    pub kept : AreKept (bounds_of w None) (met ++ taken_blocks v.regions v.ends plan.takes)
    pub ranged : AreItsRanges v w plan ranges

-- The line is done: the space tells a state with this tree of places, to which the line leads.
pub record IsLineDone (v w : SpaceView) (s : State) (c : Command) (met : List Block) (plan : EditPlan)
    (ranges : List Extent) (t : Full) : Type 0 where
  pub new : State
  pub planned : Plan (plain_setting v) s c
  pub takes : planned.takes ≡ plan.takes
  pub ranges_are : planned.ranges ≡ ranges
  pub does : Does (plain_setting v) s c planned (plain t) new
  pub stands : StandsFor (plain_setting v) w new (met ++ taken_blocks v.regions v.ends plan.takes)
  pub tree : full_of new ≡ t
  pub super : new.super ≡ s.super

-- where the plan of one link fewer was done, `rm` is
abbrev pub RemoveLine : Type 0
RemoveLine = (v w : SpaceView) (s : State) (met : List Block) (p : List Name) (parent : GroupAt) (below : FullLinks)
    (plan : EditPlan) (ranges : List Extent) → WasDone v w s met plan ranges
    → to_remove (full_of s) p ≡ Ok (Group parent below)
    → Removes v (place_of s.super parent) (last_of p) plan
    → (now : GroupAt) × IsSameGroup now parent
    × IsLineDone v w s (command.Rm p) met plan ranges (remove_place (λ _. now) p (full_of s))

-- a new group without links, where its object header has 40 bytes
abbrev pub new_place : GroupPlace → List Block → Full
new_place at index = Group (group_at at.header_at 40 at.tree_at at.heap_at index) Empty

-- where the plan of a new group and of the link to it was done, `mkgroup` is
abbrev pub MkgroupLine : Type 0
MkgroupLine = (v w : SpaceView) (s : State) (met : List Block) (p : List Name) (parent : GroupAt) (below : FullLinks)
    (made : GroupPlan) (ranges : List Extent) → WasDone v w s met made.plan ranges
    → to_add (full_of s) p ≡ Ok (Group parent below) → AreSmall (ks_of s.super) → ¬ IsTooLarge (full_of s) (command.Mkgroup p)
    → ((x : Take) → Contains made.plan.takes x → x.class ≡ class.LocalHeap → x.len ≤ most_segment)
    → MakesGroup v (place_of s.super parent) (last_of p) made
    → (now : GroupAt) × (index : List Block) × IsSameGroup now parent
    × IsLineDone v w s (command.Mkgroup p) met made.plan ranges
    (add_place (λ _. now) p (new_place made.at index) (full_of s))

-- The line is answered as one that is done, and the space tells a state with this tree of places.
pub record IsAnswered (v w : SpaceView) (s : State) (c : Command) (met : List Block) (plan : EditPlan) (t : Full)
    (secs : ℤ) : Type 0 where
  pub next : State
  pub line : Line (plain_setting v) s c secs next answer.Done
  pub stands : StandsFor (plain_setting v) w next (met ++ taken_blocks v.regions v.ends plan.takes)
  pub tree : full_of next ≡ t
  pub super : next.super ≡ s.super
  pub edited : next.edited ≡ true
