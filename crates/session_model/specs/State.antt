-- The state of a session, and what a line that the tree doesn't refuse would take and touch in it.
-- Cited by what says how a line is answered and what it leaves.
use Rattle.std.specs.Prelude.{◌≡◌, ◌⊎◌, ℕ, ◌+◌, ◌<◌, ◌≤◌, min, Bool, true, false, not, IsTrue, List, [], length, map}
use Rattle.std.specs.Prelude.{Option, Some, None, is_some, Ok}
use Rattle.std.specs.List.{Contains}
use Rattle.h5_base.specs.declared.extent.MemClass.{MemClass}
use Rattle.h5_base.specs.declared.extent.MemClass.TheVariants as class
use Rattle.h5_base.specs.declared.extent.Region.{Region}
use Rattle.h5_base.specs.declared.extent.Extent.{Extent}
use Rattle.outside.specs.Array.{Array, Ends}
use Rattle.outside.specs.Blocks.{Block, Bounds}
use Rattle.outside.specs.Revisions.{Committed, History}
use Rattle.outside.specs.Space.{SpaceView, HasRoom, PassesLimit}
use Rattle.block_space.specs.declared.plan.Needs.{Needs}
use Rattle.block_space.specs.declared.plan.Take.{Take}
use Rattle.block_space.specs.declared.plan.ReserveStop.TheVariants as stop
use Rattle.block_space.specs.Plans.{classes, sum_of, need_of, HasRoomFor, IsNoRoom}
use Rattle.super_codec.specs.declared.superblock.Superblock.{Superblock}
use Rattle.object_model.specs.declared.command.Command.{Command}
use Rattle.object_model.specs.declared.command.Command.TheVariants as command
use Rattle.object_model.specs.Tree.{Group}
use Rattle.object_model.specs.Step.{Plain, Stack, Reply, step}
use Rattle.file_model.specs.Laws.{all_blocks}
use Rattle.file_model.specs.Limits.{most_segment}
use Rattle.file_model.specs.Holds.{GroupAt, Full, FullLinks, HoldsFull, ks_of, plain}
use Rattle.session_model.specs.Room.{Takes}
use Rattle.session_model.specs.TooLarge.{IsTooLarge}
use Rattle.session_model.specs.Reach.{Reach}
use Rattle.session_model.specs.EndFields.{InWrongField}

-- What a run never changes: the regions, whether the stack may be written to, and the identification of its own kind of
-- driver information block.
pub record Setting : Type 0 where
  pub regions : MemClass → Region
  pub writable : Bool
  pub own : Option (List ℕ)

-- A state: what the space tells of bytes, ends and revisions; the tree that the bytes hold, with the place of each
-- object; how many blocks are counted; and whether a line that edits was done.
pub record State : Type 0 where
  pub array : Array
  pub ends : Ends
  pub committed : Option Committed
  pub history : History
  pub super : Superblock
  pub root : GroupAt
  pub links : FullLinks
  pub blocks : ℕ
  pub edited : Bool

-- ---- what a state tells

-- its tree, with the place of each object, and without
abbrev pub full_of : State → Full
full_of s = Group s.root s.links

abbrev pub tree_of : State → Plain
tree_of s = plain (full_of s)

-- what a space tells in it, prepared for nothing
abbrev pub view_of : Setting → State → SpaceView
view_of k s = record {
  array = s.array;
  ends = s.ends;
  regions = k.regions;
  writable = k.writable;
  prepared = [];
  committed = s.committed;
  history = s.history;
}

-- the regions of the setting, with these ends
abbrev pub bounds : Setting → Ends → Bounds
bounds k ends = record { starts = λ c. (k.regions c).start; ends = ends; own = k.own }

-- the bytes and ends hold the tree
abbrev pub IsHeld : Setting → State → Type 0
IsHeld k s = HoldsFull s.array (bounds k s.ends) s.super s.root s.links

-- all blocks of its file, where it is held
abbrev pub blocks_of : (k : Setting) (s : State) → IsHeld k s → List Block
blocks_of k s held = all_blocks s.super held.driver (full_of s)

abbrev pub stack_of : Setting → State → Stack
stack_of k s = record { read_only = not k.writable; has_revisions = is_some s.committed }

-- ---- the room of regions

-- what a list of blocks needs of each class, each block rounded up to a multiple of 8
abbrev pub needs_of : List Take → Needs
needs_of ts = record { bytes = map (λ c. sum_of c ts) classes; blocks = length ts }

-- what it needs in the region of a class
abbrev pub need : Setting → List Take → MemClass → ℕ
need k ts c = need_of k.regions (needs_of ts) c

-- each region's end rises by that
abbrev pub risen : Setting → Ends → List Take → Ends
risen k ends ts = λ c. ends c + need k ts c

-- ---- what is touched

-- an address of one of the ranges
abbrev pub IsTouched : List Extent → ℕ → Type 0
IsTouched ranges a = (r : Extent) × Contains ranges r × (r.start ≤ a) × (a < r.start + r.len)

-- An address of the blocks that are taken: from a region's end on, and below its limit.
pub record InTaken (k : Setting) (ends : Ends) (ts : List Take) (a : ℕ) : Type 0 where
  pub class : MemClass
  pub behind : ends class ≤ a
  pub before : a < min (risen k ends ts class) (k.regions class).limit

-- The ranges are those that a line writes, all within its reach, and all blocks that it takes.
pub record AreTouched (k : Setting) (ends : Ends) (ts : List Take) (InReach : ℕ → Type 0)
    (ranges : List Extent) : Type 0 where
  pub some : (r : Extent) → Contains ranges r → 0 < r.len
  pub reached : (a : ℕ) → IsTouched ranges a → InReach a ⊎ InTaken k ends ts a
  pub taken : (a : ℕ) → InTaken k ends ts a → IsTouched ranges a

-- there are revisions, and no page was written since the last commit
abbrev pub IsUnwritten : Option Committed → Type 0
IsUnwritten None = ⊥
IsUnwritten (Some m) = m.written ≡ []

-- A flush and a commit write the end fields where they differ, and a commit only where anything was written since the
-- last one.
abbrev pub Spares : Command → (InWrong : ℕ → Type 0) → (unwritten : Type 0) → List Extent → Type 0
Spares command.Flush InWrong unwritten ranges = (a : ℕ) → IsTouched ranges a → InWrong a
Spares (command.Commit comment) InWrong unwritten ranges =
    ((a : ℕ) → IsTouched ranges a → InWrong a) × (unwritten → ranges ≡ [])
Spares c InWrong unwritten ranges = Unit {0}

-- an address of the reach of a command
abbrev pub InReach : Setting → State → Command → ℕ → Type 0
InReach k s c a = Reach k.own s.array s.super (full_of s) c a

-- What a line takes and touches: the number of nodes and the ranges within the reach are the only free choices.
pub record Plan (k : Setting) (s : State) (c : Command) : Type 0 where
  pub takes : List Take
  pub are : Takes s.array (ks_of s.super) (full_of s) c takes
  pub ranges : List Extent
  pub touched : AreTouched k s.ends takes (InReach k s c) ranges
  pub spares : Spares c (InWrongField k.regions k.own s.super s.ends s.array) (IsUnwritten s.committed) ranges

-- ---- limits

-- the lines that may write: all but those that only look
abbrev pub is_writing : Command → Bool
is_writing (command.Read p start count) = false
is_writing (command.Ls p) = false
is_writing (command.Stat p) = false
is_writing c = true

-- one revision more passes a limit of revisions
abbrev pub IsRevisionOver : Option Committed → List Extent → Command → Type 0
IsRevisionOver (Some m) ranges (command.Commit comment) = PassesLimit m ranges comment
IsRevisionOver m ranges c = ⊥

-- there aren't so many blocks more
abbrev pub IsBlockOver : Setting → State → List Take → Type 0
IsBlockOver k s ts = IsNoRoom (view_of k s) s.blocks (needs_of ts) stop.TooMany

-- A line with this plan would pass a limit by the blocks that it takes or by the pages that it touches.
pub data IsOver (k : Setting) (s : State) (c : Command) (p : Plan k s c) : Type 0 where
  Blocks : IsBlockOver k s p.takes → IsOver k s c p
  Segment : (x : Take) → Contains p.takes x → x.class ≡ class.LocalHeap → most_segment < x.len → IsOver k s c p
  Revisions : IsTrue (is_writing c) → ¬ HasRoom s.committed p.ranges → IsOver k s c p
  Revision : IsRevisionOver s.committed p.ranges c → IsOver k s c p

-- No limit is passed, neither by what is asked for nor by the plan.
pub record IsUnder (k : Setting) (s : State) (c : Command) (p : Plan k s c) : Type 0 where
  pub asked : ¬ IsTooLarge (full_of s) c
  pub planned : ¬ IsOver k s c p

-- The line is neither refused by the tree nor passes a limit, and no region is too short.
pub record Goes (k : Setting) (s : State) (c : Command) (p : Plan k s c) (t : Plain) (r : Reply) : Type 0 where
  pub steps : step (stack_of k s) (tree_of s) c ≡ Ok (t, r)
  pub under : IsUnder k s c p
  pub fits : HasRoomFor (view_of k s) s.blocks (needs_of p.takes)

-- ---- a state over a space

abbrev pub setting_of : SpaceView → Option (List ℕ) → Setting
setting_of v own = record { regions = v.regions; writable = v.writable; own = own }

-- What the space tells is what the state tells of it.
pub record IsToldBy (v : SpaceView) (s : State) : Type 0 where
  pub array : s.array ≡ v.array
  pub ends : s.ends ≡ v.ends
  pub committed : s.committed ≡ v.committed
  pub history : s.history ≡ v.history
