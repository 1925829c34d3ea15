-- What the plan of a new group and of the link to it takes, and what it makes of an array.
-- HDF5 File Format Specification 3.0, III.A.1, III.B to III.D and IV.A.2.r. Cited by what plans it.
use Rattle.std.specs.Prelude.{◌≡◌, ◌+◌, ◌^◌, ◌<◌, List, ◌++◌, Some}
use Rattle.std.specs.List.{Contains}
use Rattle.outside.specs.Array.{Array}
use Rattle.outside.specs.Blocks.{Block, AllApart, Agree}
use Rattle.outside.specs.Space.{SpaceView}
use Rattle.block_space.specs.Plans.{ends_after, planned, taken_blocks}
use Rattle.block_space.specs.declared.plan.Take.{Take}
use Rattle.object_model.specs.Tree.{Name}
use Rattle.file_model.specs.Groups.{Found, Ks}
use Rattle.group_room.specs.Room.{Takes, group_takes}
use Rattle.group_rows.specs.declared.group.GroupAt.{GroupAt}
use Rattle.new_group.specs.Group.{HoldsEmpty}
use Rattle.group_edit.specs.declared.target.NewTarget.{NewTarget}
use Rattle.group_edit.specs.Edited.{HasInserted, StaysWithin}
use Rattle.group_edit.specs.Links.{HoldsGroup}
use Rattle.object_edit.specs.declared.making.GroupPlan.{GroupPlan}

-- the blocks of the new group, where they are taken first
abbrev pub group_part : SpaceView → Ks → List Block
group_part v ks = taken_blocks v.regions v.ends (group_takes ks)

-- the blocks that are taken behind them
abbrev pub link_part : SpaceView → Ks → List Take → List Block
link_part v ks takes = taken_blocks v.regions (ends_after v.regions v.ends (group_takes ks)) takes

-- all blocks that the plan takes
abbrev pub all_taken : SpaceView → GroupPlan → List Block
all_taken v new = taken_blocks v.regions v.ends new.plan.takes

-- what the link leads to: the group, whose table is cached
abbrev pub target_to : GroupAt → NewTarget
target_to g = record { header_at = g.header_at; group = Some g }

-- what the plan makes of an array
abbrev pub made : SpaceView → GroupPlan → Array → Array
made v new c = planned v.regions v.ends new.plan c

-- The blocks that are taken are those of the group, and then those that its name takes. The one hold the new group, and
-- the parent has one link more, which leads to it.
pub record IsMade (v : SpaceView) (g : GroupAt) (fs : List Found) (bs : List Block) (old : HoldsGroup v.array g fs bs)
    (name : Name) (new : GroupPlan) (link_takes : List Take) (c : Array) : Type 0 where
  pub taken : all_taken v new ≡ group_part v g.ks ++ link_part v g.ks link_takes
  pub empty : HoldsEmpty (made v new c) new.at (group_part v g.ks)
  pub inserted : HasInserted v.array (made v new c) g fs bs old name (target_to new.at) (link_part v g.ks link_takes)

-- The plan takes the blocks of a new group, and then those that its name takes in the parent, and writes within the
-- parent's blocks. It makes the group and the link to it of every array that agrees with this one on the parent's
-- blocks, where the addresses of the blocks that are taken are numbers of 64 bits, and no address lies in two of them
-- and of the parent's.
pub record MakesGroup (v : SpaceView) (g : GroupAt) (name : Name) (new : GroupPlan) : Type 0 where
  pub link_takes : List Take
  pub ks : new.at.ks ≡ g.ks
  pub takes : new.plan.takes ≡ group_takes g.ks ++ link_takes
  pub name_takes : (fs : List Found) (bs : List Block) (old : HoldsGroup v.array g fs bs)
      → Takes v.array g.ks g.tree_at g.heap_at fs bs old name link_takes
  pub within : StaysWithin v g new.plan
  pub makes : (fs : List Found) (bs : List Block) (old : HoldsGroup v.array g fs bs) (c : Array)
      → Agree v.array c bs → ((x : Block) → Contains (all_taken v new) x → x.start + x.len < 2 ^ 64)
      → AllApart (bs ++ all_taken v new) → IsMade v g fs bs old name new link_takes c
