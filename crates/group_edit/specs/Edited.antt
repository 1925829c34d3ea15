-- What an edit makes of a group: one link more, or one fewer.
-- HDF5 File Format Specification 3.0, III.A.1, III.B to III.D. Cited by what plans and does an edit of a group.
use Rattle.std.specs.Prelude.{◌≡◌, ◌⊎◌, ℕ, ◌+◌, ◌^◌, ◌<◌, ◌≤◌, max, List, [], ◌++◌}
use Rattle.std.specs.List.{Contains}
use Rattle.std.specs.List.Sorted.{IsPermutation}
use Rattle.h5_base.specs.declared.extent.Extent.{Extent}
use Rattle.outside.specs.Array.{Array, Ends}
use Rattle.outside.specs.Blocks.{Block, AllApart, Agree, placed}
use Rattle.outside.specs.Space.{SpaceView}
use Rattle.block_space.specs.Plans.{LiesInOne, planned}
use Rattle.block_space.specs.declared.plan.EditPlan.{EditPlan}
use Rattle.block_space.specs.declared.plan.Needs.{Needs}
use Rattle.node_codec.specs.declared.snod.SnodEntry.{SnodEntry}
use Rattle.object_model.specs.Tree.{Name}
use Rattle.file_model.specs.EditLaws.{IsOneMore}
use Rattle.file_model.specs.Groups.{Found, Header, HasText, index_offsets}
use Rattle.file_model.specs.WellKept.{IsKeptGroup}
use Rattle.group_room.specs.Index.{entries_in}
use Rattle.group_room.specs.Room.{Takes}
use Rattle.group_room.specs.Used.{Fits, IsFreeBehind, IsUsedLen, wider_len}
use Rattle.group_facts.specs.Places.{ends_ahead, planned_ahead, taken_ahead}
use Rattle.group_rows.specs.declared.group.GroupAt.{GroupAt}
use Rattle.group_edit.specs.declared.target.NewTarget.{NewTarget}
use Rattle.group_edit.specs.Links.{HoldsGroup, entry_to, segment_in}

-- What every edit keeps of a group, and how its heap is then: it tells the used length as the writer keeps it; the
-- texts that were in use and still are stand where they did. A well kept index is well kept, and the root's level is at
-- most the greater of the old one and 31.
pub record StaysGroup (b c : Array) (g : GroupAt) (fs gs : List Found) (bs cs : List Block)
    (old : HoldsGroup b g fs bs) (new : HoldsGroup c g gs cs) : Type 0 where
  pub used : ℕ
  pub is_used : IsUsedLen (segment_in c g gs cs new) (index_offsets new.index) used
  pub free : IsFreeBehind used new.head (segment_in c g gs cs new)
  pub texts : (at : ℕ) (text : List ℕ) → Contains (index_offsets old.index) at
      → Contains (index_offsets new.index) at → HasText (segment_in b g fs bs old) at text
      → HasText (segment_in c g gs cs new) at text
  pub kept : IsKeptGroup (segment_in b g fs bs old) old.index → IsKeptGroup (segment_in c g gs cs new) new.index
  pub level : new.level ≤ max old.level 31

-- The blocks afterwards are those before and those taken, but for the old segment where the heap has a new one.
abbrev pub AreNewBlocks : (b c : Array) (g : GroupAt) (fs gs : List Found) (bs cs taken : List Block)
    → HoldsGroup b g fs bs → HoldsGroup c g gs cs → Type 0
AreNewBlocks b c g fs gs bs cs taken old new =
    ((new.head.segment_at ≡ old.head.segment_at) × (new.head.len ≡ old.head.len) × IsPermutation cs (bs ++ taken))
    ⊎ IsPermutation (cs ++ placed old.head.segment_at old.head.len) (bs ++ taken)

-- The group has one link more, of this name and to this target. The name stands behind the used bytes of the old heap.
-- Where it fits the segment, that keeps its place and its length; else there is a new one, of the length for the name.
pub record HasInserted (b c : Array) (g : GroupAt) (fs : List Found) (bs : List Block) (old : HoldsGroup b g fs bs)
    (name : Name) (target : NewTarget) (taken : List Block) : Type 0 where
  pub links : List Found
  pub blocks : List Block
  pub more : IsOneMore (record { name = name; target = Header target.header_at }) fs links
  pub new : HoldsGroup c g links blocks
  pub are : AreNewBlocks b c g fs links bs blocks taken old new
  pub name_at : ℕ
  pub at_used : IsUsedLen (segment_in b g fs bs old) (index_offsets old.index) name_at
  pub in_place : Fits name_at old.head.len name
      → (new.head.segment_at ≡ old.head.segment_at) × (new.head.len ≡ old.head.len)
  pub wider : ¬ Fits name_at old.head.len name → new.head.len ≡ wider_len name_at old.head.len name
  pub entries : IsOneMore (entry_to name_at target) (entries_in old.index) (entries_in new.index)
  pub stays : StaysGroup b c g fs links bs blocks old new

-- The group has one link fewer, the one of this name.
pub record HasRemoved (b c : Array) (g : GroupAt) (fs : List Found) (bs : List Block) (old : HoldsGroup b g fs bs)
    (name : Name) : Type 0 where
  pub links : List Found
  pub blocks : List Block
  pub link : Found
  pub named : link.name ≡ name
  pub fewer : IsOneMore link links fs
  pub new : HoldsGroup c g links blocks
  pub are : IsPermutation blocks bs
  pub heads : (new.head.segment_at ≡ old.head.segment_at) × (new.head.len ≡ old.head.len)
  pub entry : SnodEntry
  pub entries : IsOneMore entry (entries_in new.index) (entries_in old.index)
  pub stays : StaysGroup b c g fs links bs blocks old new

-- ---- what plans mean

-- The addresses of the blocks that the plan takes are numbers of 64 bits, and no address lies in two of them and of
-- the group's.
pub record HasPlace (v : SpaceView) (ahead : Needs) (bs : List Block) (plan : EditPlan) : Type 0 where
  pub below : (x : Block) → Contains (taken_ahead v ahead plan) x → x.start + x.len < 2 ^ 64
  pub apart : AllApart (bs ++ taken_ahead v ahead plan)

-- each range that the plan writes lies within one of the blocks
abbrev pub WritesWithin : List Block → EditPlan → Type 0
WritesWithin bs plan = (w : Extent) → Contains plan.writes w → LiesInOne bs w.start w.len

-- the plan writes within the blocks of the group
abbrev pub StaysWithin : SpaceView → GroupAt → EditPlan → Type 0
StaysWithin v g plan = (fs : List Found) (bs : List Block) → HoldsGroup v.array g fs bs → WritesWithin bs plan

-- The plan makes one link more, of every array that agrees with this one on the group's blocks.
abbrev pub Inserts : SpaceView → GroupAt → Needs → Name → NewTarget → EditPlan → Type 0
Inserts v g ahead name target plan = (fs : List Found) (bs : List Block) (old : HoldsGroup v.array g fs bs)
    (c : Array) → Agree v.array c bs → HasPlace v ahead bs plan
    → HasInserted v.array (planned_ahead v ahead plan c) g fs bs old name target (taken_ahead v ahead plan)

-- The plan takes what the name takes.
abbrev pub TakesLink : SpaceView → GroupAt → Name → EditPlan → Type 0
TakesLink v g name plan = (fs : List Found) (bs : List Block) (old : HoldsGroup v.array g fs bs)
    → Takes v.array g.ks g.tree_at g.heap_at fs bs old name plan.takes

-- The plan takes nothing, writes within the group's blocks, and makes one link fewer, of every array that agrees with
-- this one on the group's blocks.
pub record Removes (v : SpaceView) (g : GroupAt) (name : Name) (plan : EditPlan) : Type 0 where
  pub takes : plan.takes ≡ []
  pub within : StaysWithin v g plan
  pub makes : (fs : List Found) (bs : List Block) (old : HoldsGroup v.array g fs bs) (c : Array) (ends : Ends)
      → Agree v.array c bs → AllApart bs → HasRemoved v.array (planned v.regions ends plan c) g fs bs old name

-- ---- when a plan is done

-- Since the plan was made of a space, just what is ahead of it was taken, and the group's blocks are as they were.
pub record IsSince (v : SpaceView) (ahead : Needs) (bs : List Block) (now : SpaceView) : Type 0 where
  pub regions : now.regions ≡ v.regions
  pub ends : now.ends ≡ ends_ahead v ahead
  pub agree : Agree v.array now.array bs
