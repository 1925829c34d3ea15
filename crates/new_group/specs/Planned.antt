-- The plan of a new group. Cited by what makes it.
use Rattle.std.specs.Prelude.{◌≡◌, ℕ, ◌+◌, ◌^◌, ◌<◌, List, []}
use Rattle.std.specs.List.{Contains}
use Rattle.h5_base.specs.declared.extent.MemClass.{MemClass}
use Rattle.outside.specs.Array.{Array}
use Rattle.outside.specs.Blocks.{Block, AllApart}
use Rattle.outside.specs.Space.{SpaceView}
use Rattle.block_space.specs.Plans.{FitsCatalogue, all_needed, ends_after, needed}
use Rattle.block_space.specs.declared.plan.EditPlan.{EditPlan}
use Rattle.block_space.specs.declared.plan.Needs.{Needs}
use Rattle.file_model.specs.Groups.{Ks}
use Rattle.group_room.specs.Room.{group_takes}
use Rattle.group_facts.specs.Places.{ends_ahead, planned_ahead, taken_ahead}
use Rattle.node_codec.specs.GroupNodes.{group_node_len}
use Rattle.new_group.specs.Group.{HoldsEmpty, group_blocks, group_images}
use Rattle.new_group.specs.declared.new_group.NewGroup.{NewGroup}

-- the addresses of the blocks that the plan takes are numbers of 64 bits
abbrev pub LieBelow : SpaceView → Needs → EditPlan → Type 0
LieBelow v ahead plan = (x : Block) → Contains (taken_ahead v ahead plan) x → x.start + x.len < 2 ^ 64

-- What is ahead of whatever is taken behind a plan: what was ahead of the plan, and the plan's own needs.
pub record IsAheadThen (v : SpaceView) (ahead : Needs) (plan : EditPlan) (behind : Needs) : Type 0 where
  pub bytes : (k : MemClass) → needed behind k ≡ needed ahead k + needed plan.needs k
  pub blocks : behind.blocks ≡ ahead.blocks + plan.needs.blocks
  pub ends : ends_ahead v behind ≡ ends_after v.regions (ends_ahead v ahead) plan.takes

-- The plan takes the blocks of a group and writes nothing else, and fits each catalogue. It takes them at the group's
-- addresses, where these are numbers of 64 bits; and if no address lies in two of them, each array holds the group
-- once the plan is done. It is told what is ahead then: 160 bytes and a node more, in 4 blocks.
pub record IsNewGroup (v : SpaceView) (ks : Ks) (ahead : Needs) (new : NewGroup) : Type 0 where
  pub segment_at : ℕ
  pub ks_are : new.at.ks ≡ ks
  pub takes : new.plan.takes ≡ group_takes ks
  pub writes : new.plan.writes ≡ []
  pub images : new.plan.images ≡ group_images new.at segment_at
  pub fits : (met : List Block) → FitsCatalogue met new.plan
  pub lie : LieBelow v ahead new.plan → taken_ahead v ahead new.plan ≡ group_blocks new.at segment_at
  pub holds : (c : Array) → LieBelow v ahead new.plan → AllApart (taken_ahead v ahead new.plan)
      → HoldsEmpty (planned_ahead v ahead new.plan c) new.at (taken_ahead v ahead new.plan)
  pub behind : IsAheadThen v ahead new.plan new.ahead
  pub sum : all_needed new.ahead ≡ all_needed ahead + 160 + group_node_len ks.internal
  pub count : new.ahead.blocks ≡ ahead.blocks + 4
