-- Two plans as one, what it makes of an array, and when it fits. Cited by what plans an object and the link to it.
use Rattle.std.specs.Prelude.{◌≡◌, ◌+◌, ◌^◌, ◌<◌, List, [], ◌++◌, length, take, drop}
use Rattle.h5_base.specs.declared.extent.MemClass.{MemClass}
use Rattle.h5_base.specs.declared.extent.Region.{Region}
use Rattle.outside.specs.Array.{Array, Ends}
use Rattle.outside.specs.Blocks.{Block}
use Rattle.block_space.specs.Plans.{FitsCatalogue, all_needed, ends_after, needed, planned, taken_blocks}
use Rattle.block_space.specs.declared.plan.EditPlan.{EditPlan}
use Rattle.block_space.specs.declared.plan.Take.{Take}

-- The plan takes what the first one takes, and then what the second one takes, each block with its image; it writes
-- what the second one writes. Both are counted.
pub record IsJoined (own link joined : EditPlan) : Type 0 where
  pub takes : joined.takes ≡ own.takes ++ link.takes
  pub writes : joined.writes ≡ link.writes
  pub images : joined.images
      ≡ take (length link.writes) link.images ++ own.images ++ drop (length link.writes) link.images
  pub bytes : (c : MemClass) → needed joined.needs c ≡ needed own.needs c + needed link.needs c
  pub blocks : joined.needs.blocks ≡ own.needs.blocks + link.needs.blocks

-- ---- laws

-- What is taken behind some blocks lies where the regions end then.
abbrev pub TakenInParts : Type 0
TakenInParts = (regions : MemClass → Region) (ends : Ends) (ts us : List Take)
    → taken_blocks regions ends (ts ++ us)
    ≡ taken_blocks regions ends ts ++ taken_blocks regions (ends_after regions ends ts) us

-- Of an array it makes what the second plan makes of what the first one made.
abbrev pub JoinedMeans : Type 0
JoinedMeans = (regions : MemClass → Region) (ends : Ends) (met : List Block) (own link joined : EditPlan) (b : Array)
    → IsJoined own link joined → own.writes ≡ [] → FitsCatalogue met own → FitsCatalogue met link
    → planned regions ends joined b
    ≡ planned regions (ends_after regions ends own.takes) link (planned regions ends own b)

-- It fits each catalogue that both fit, where all that is needed is a number of 64 bits.
abbrev pub JoinedFits : Type 0
JoinedFits = (met : List Block) (own link joined : EditPlan) → IsJoined own link joined → own.writes ≡ []
    → FitsCatalogue met own → FitsCatalogue met link → all_needed own.needs + all_needed link.needs < 2 ^ 64
    → FitsCatalogue met joined
