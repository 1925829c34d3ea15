-- What doing the plan of an edit makes of a group. Cited by what does it.
use Rattle.std.specs.Prelude.{List, ◌++◌}
use Rattle.std.specs.List.Sorted.{IsPermutation}
use Rattle.outside.specs.Blocks.{Block, Agree}
use Rattle.outside.specs.Space.{SpaceView}
use Rattle.block_space.specs.Blocks.{Keeps, array_of}
use Rattle.block_space.specs.declared.blocks.Blocks.{Blocks}
use Rattle.block_space.specs.declared.plan.EditPlan.{EditPlan}
use Rattle.block_space.specs.declared.plan.Needs.{Needs}
use Rattle.file_model.specs.Groups.{Found}
use Rattle.object_model.specs.Tree.{Name}
use Rattle.group_facts.specs.Places.{taken_ahead}
use Rattle.group_rows.specs.declared.group.GroupAt.{GroupAt}
use Rattle.group_edit.specs.declared.target.NewTarget.{NewTarget}
use Rattle.group_edit.specs.Edited.{HasInserted, HasRemoved, Inserts, IsSince, Removes}
use Rattle.group_edit.specs.Links.{HoldsGroup}

-- the catalogue has these blocks, among others
pub record AreListed {V : Type 0} (view : V → SpaceView) (blocks : Blocks V) (bs : List Block) : Type 0 where
  pub met : List Block
  pub others : List Block
  pub keeps : Keeps view blocks met
  pub among : IsPermutation met (bs ++ others)

-- The group that a plan of one link more was made for has that link: wherever just what is ahead of it was taken since,
-- and the group's blocks are as they were.
abbrev pub InsertsNow : {V : Type 0} → (V → SpaceView) → (old new : Blocks V) → EditPlan → Type 0
InsertsNow view old new plan = (v : SpaceView) (g : GroupAt) (ahead : Needs) (name : Name) (target : NewTarget)
    → Inserts v g ahead name target plan → (fs : List Found) (bs : List Block) (was : HoldsGroup v.array g fs bs)
    → IsSince v ahead bs (view old.space) → AreListed view old bs
    → HasInserted v.array (array_of view new) g fs bs was name target (taken_ahead v ahead plan)

-- The group that a plan of one link fewer was made for lacks that link, wherever its blocks are as they were.
abbrev pub RemovesNow : {V : Type 0} → (V → SpaceView) → (old new : Blocks V) → EditPlan → Type 0
RemovesNow view old new plan = (v : SpaceView) (g : GroupAt) (name : Name) → Removes v g name plan → (fs : List Found)
    (bs : List Block) (was : HoldsGroup v.array g fs bs) → Agree v.array (array_of view old) bs → AreListed view old bs
    → HasRemoved v.array (array_of view new) g fs bs was name
