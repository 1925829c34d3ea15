-- What a space tells of a state, with the blocks of a catalogue, and what is left of it once a plan was done.
-- Cited by the laws of lines that edit a group, and by a session.
use Rattle.std.specs.Prelude.{◌≡◌, ℕ, List, ◌++◌, length, None}
use Rattle.std.specs.List.Sorted.{IsPermutation}
use Rattle.outside.specs.Blocks.{Block}
use Rattle.outside.specs.Space.{SpaceView}
use Rattle.block_space.specs.Plans.{ends_after, planned}
use Rattle.block_space.specs.Written.{TellsAllWritten, planned_blocks}
use Rattle.block_space.specs.declared.plan.EditPlan.{EditPlan}
use Rattle.file_model.specs.Limits.{IsWithinLimits}
use Rattle.session_model.specs.State.{IsHeld, IsToldBy, Setting, State, blocks_of, full_of, setting_of}

-- The space tells the state, which is held within the limits. These blocks are those of its file, and those that were
-- given up; so many are counted.
pub record StandsFor (k : Setting) (v : SpaceView) (s : State) (met : List Block) : Type 0 where
  pub told : IsToldBy v s
  pub held : IsHeld k s
  pub within : IsWithinLimits s.array (blocks_of k s held) (full_of s)
  pub given_up : List Block
  pub among : IsPermutation met (blocks_of k s held ++ given_up)
  pub counted : s.blocks ≡ length met

-- the setting of a space without a kind of driver information block of its own
abbrev pub plain_setting : SpaceView → Setting
plain_setting v = setting_of v None

-- The plan was done in the space, and nothing else.
pub record IsDone (v w : SpaceView) (plan : EditPlan) : Type 0 where
  pub array : w.array ≡ planned v.regions v.ends plan v.array
  pub ends : w.ends ≡ ends_after v.regions v.ends plan.takes
  pub pages : TellsAllWritten (planned_blocks v.regions v.ends plan) v.committed w.committed
  pub history : w.history ≡ v.history
  pub regions : w.regions ≡ v.regions
  pub writable : w.writable ≡ v.writable
