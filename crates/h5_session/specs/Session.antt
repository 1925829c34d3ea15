-- What a session stands for: a state of the run of a script. Cited by each call of a session.
use Rattle.std.specs.Prelude.{◌≡◌, ℕ, List, None, true}
use Rattle.std.specs.List.{Contains}
use Rattle.outside.specs.Blocks.{Block}
use Rattle.outside.specs.Space.{SpaceView}
use Rattle.block_space.specs.Blocks.{Keeps, space_of}
use Rattle.block_space.specs.Catalogue.{blocks_of}
use Rattle.block_space.specs.declared.blocks.Blocks.{Blocks}
use Rattle.end_fields.specs.Field.{field_of}
use Rattle.super_codec.specs.declared.superblock.Superblock.{Superblock}
use Rattle.file_model.specs.RefusedTree.{super_block}
use Rattle.object_tree.specs.Sound.{IsSoundTree}
use Rattle.tree_nodes.specs.Entries.{superblock_of}
use Rattle.tree_places.specs.Kept.{HasPlaces}
use Rattle.session_model.specs.Runs.{Begins}
use Rattle.session_model.specs.State.{Setting, State, full_of}
use Rattle.group_lines.specs.States.{StandsFor, plain_setting}
use Rattle.h5_session.specs.declared.session.Session.{Session}

-- the space of a session
abbrev pub space_in : {V : Type 0} → Session V → V
space_in session = space_of session.blocks

-- what its run never changes
abbrev pub setting_in : {V : Type 0} → (V → SpaceView) → Session V → Setting
setting_in view session = plain_setting (view (space_in session))

-- two superblocks differ at most in the end that they tell
abbrev pub IsSameButEnd : Superblock → Superblock → Type 0
IsSameButEnd kept now = (end : ℕ) × (kept ≡ record now { end_at = end })

-- Whatever the space tells: the kept tree is sound, the catalogue lists blocks, and the superblock's is one of them.
-- Once a line that edits was done, a space without revisions is prepared for the end field, so that it can be written
-- without memory.
pub record IsSound {V : Type 0} (view : V → SpaceView) (session : Session V) : Type 0 where
  pub tree : IsSoundTree session.tree
  pub met : List Block
  pub keeps : Keeps view session.blocks met
  pub super : Contains met (super_block (superblock_of session.tree))
  pub closes : session.edited ≡ true → (view (space_in session)).committed ≡ None
      → Contains (blocks_of (view (space_in session)).prepared) (field_of (superblock_of session.tree).version)

-- The session is in this state: the space tells it, and the session keeps its tree. The catalogue has the tree's blocks
-- and those that were given up.
pub record IsIn {V : Type 0} (view : V → SpaceView) (session : Session V) (s : State) : Type 0 where
  pub met : List Block
  pub keeps : Keeps view session.blocks met
  pub stands : StandsFor (setting_in view session) (view (space_in session)) s met
  pub places : HasPlaces session.tree (full_of s)
  pub super : IsSameButEnd (superblock_of session.tree) s.super
  pub edited : session.edited ≡ s.edited

-- A session that begins: in a state with which a run begins over the space.
pub record IsBegun {V : Type 0} (view : V → SpaceView) (v : SpaceView) (session : Session V) : Type 0 where
  pub state : State
  pub begins : Begins v None state
  pub is_in : IsIn view session state
