-- Where the blocks that an edit takes lie, behind what the same step takes before.
-- Cited by what plans an edit of a group.
use Rattle.std.specs.Prelude.{◌≡◌, ℕ, ◌+◌, ◌%◌, List, ◌∷◌, map, replicate}
use Rattle.h5_base.specs.declared.extent.MemClass.{MemClass}
use Rattle.outside.specs.Array.{Array, Ends}
use Rattle.outside.specs.Blocks.{Block}
use Rattle.outside.specs.Space.{SpaceView, AreRegions, raised}
use Rattle.block_space.specs.Plans.{need_of, needed, planned, rounded, taken_blocks}
use Rattle.block_space.specs.declared.plan.EditPlan.{EditPlan}
use Rattle.block_space.specs.declared.plan.Needs.{Needs}
use Rattle.block_space.specs.declared.plan.Take.{Take}
use Rattle.plan_pieces.specs.Plan.{IsWithBlock}
use Rattle.group_room.specs.Index.{addresses}

-- where the regions end once this is taken
abbrev pub ends_ahead : SpaceView → Needs → Ends
ends_ahead v ahead = λ c. v.ends c + need_of v.regions ahead c

-- Blocks of a plan that are taken behind what is ahead of it.
abbrev pub taken_ahead : SpaceView → Needs → EditPlan → List Block
taken_ahead v ahead plan = taken_blocks v.regions (ends_ahead v ahead) plan.takes

-- what a plan makes of an array once this is taken
abbrev pub planned_ahead : SpaceView → Needs → EditPlan → Array → Array
planned_ahead v ahead plan c = planned v.regions (ends_ahead v ahead) plan c

-- ---- laws

-- Where nothing is ahead, the regions end where they do.
abbrev pub NothingAhead : Type 0
NothingAhead = (v : SpaceView) (needs : Needs) → ((c : MemClass) → needed needs c ≡ 0) → ends_ahead v needs ≡ v.ends

-- One block more ahead is one block taken behind what is ahead.
abbrev pub OneAhead : Type 0
OneAhead = (v : SpaceView) (ahead needs : Needs) (class : MemClass) (len : ℕ) → AreRegions v.regions v.ends
    → IsWithBlock ahead class len needs
    → raised v.regions (ends_ahead v ahead) class (ends_ahead v ahead class + rounded len) ≡ ends_ahead v needs

-- Blocks of one class and length are taken one behind the other.
abbrev pub InARow : Type 0
InARow = (v : SpaceView) (ahead : Needs) (t : Take) (n : ℕ) → AreRegions v.regions v.ends → t.len % 8 ≡ 0
    → taken_blocks v.regions (ends_ahead v ahead) (replicate n t)
    ≡ map (λ (at : ℕ). record { start = at; len = t.len }) (addresses (ends_ahead v ahead t.class) t.len n)

-- What is taken behind some blocks is taken where the regions end then.
abbrev pub TakenBehind : Type 0
TakenBehind = (v : SpaceView) (ahead needs : Needs) (t : Take) (ts : List Take) → AreRegions v.regions v.ends
    → IsWithBlock ahead t.class t.len needs
    → taken_blocks v.regions (ends_ahead v ahead) (t ∷ ts)
    ≡ record { start = ends_ahead v ahead t.class; len = t.len } ∷ taken_blocks v.regions (ends_ahead v needs) ts
