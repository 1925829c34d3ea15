-- What is reserved of a space for a plan, where there is room for its ranges, is what applying it asks for.
use Rattle.std.proofs.Common.{ℕ, ◌≡◌, ◌+◌, ◌≤◌, ◌++◌, ◌∙◌, IsTrue, List, ap, sym, subst, arith}
use Rattle.std.specs.List.Sorted.{IsPermutation}
use Rattle.std.proofs.lemmas.List.Sorted.{IsPermutation-sym, IsPermutation-trans}
use Rattle.h5_base.specs.declared.extent.Extent.{Extent}
use Rattle.h5_base.specs.declared.extent.MemClass.{MemClass}
use Rattle.outside.specs.Array.{Array, Ends}
use Rattle.outside.specs.Blocks.{Block}
use Rattle.outside.specs.Space.{AreRegions, SpaceView, HasRoom}
use Rattle.block_space.specs.Catalogue.{blocks_of}
use Rattle.block_space.specs.Plans.{EndsBehindNeeds, FitsCatalogue, HasRoomFor, IsShort, ends_after, need_of, new_ranges}
use Rattle.block_space.specs.Plans.{planned}
use Rattle.block_space.specs.Reserved.{IsReserved, CoversAll, ReservedCovers, RoomInAnyOrder}
use Rattle.block_space.specs.declared.plan.Needs.{Needs}
use Rattle.block_space.specs.declared.plan.EditPlan.{EditPlan}

-- the space as it is prepared for these ranges
prepared_with : (v : SpaceView) (ranges writes : List Extent) (spare count : ℕ) (plan : EditPlan)
    → IsTrue v.writable → HasRoom v.committed ranges → HasRoomFor v count plan.needs → ReservedCovers
    → IsPermutation (blocks_of ranges) (blocks_of writes ++ new_ranges v plan.needs) → writes ≡ plan.writes
    → plan.needs.blocks ≤ spare → IsReserved (record v { prepared = ranges }) spare count plan
prepared_with v ranges writes spare count plan writable room fits covers all same enough =
    let covered : CoversAll v plan.needs plan.writes ranges =
    subst (λ (ws : List Extent). CoversAll v plan.needs ws ranges) same (covers v plan.needs writes ranges all) in
    record {
      writable = writable;
      fits = record { few = fits.few; below = fits.below };
      covered = record { writes = covered.writes; takes = covered.takes };
      room = room;
      enough = enough;
    }

-- the space that was prepared, which tells the same but for the ranges given
pub is_reserved : (v w : SpaceView) (writes : List Extent) (spare count : ℕ) (plan : EditPlan)
    → w ≡ record v { prepared = w.prepared }
    → IsTrue v.writable → HasRoom w.committed w.prepared → HasRoomFor v count plan.needs → ReservedCovers
    → IsPermutation (blocks_of w.prepared) (blocks_of writes ++ new_ranges v plan.needs) → writes ≡ plan.writes
    → plan.needs.blocks ≤ spare → IsReserved w spare count plan
is_reserved v w writes spare count plan alike writable room fits covers all same enough =
    subst (λ (u : SpaceView). IsReserved u spare count plan) (sym alike)
    (prepared_with v w.prepared writes spare count plan writable
    (subst (λ (u : SpaceView). HasRoom u.committed w.prepared) alike room) fits covers all same enough)

-- no region of it is too short
pub none_short : (v w : SpaceView) (count : ℕ) (needs : Needs) → w ≡ record v { prepared = w.prepared }
    → HasRoomFor v count needs → (c : MemClass) → IsShort w needs c → ⊥
none_short v w count needs alike fits c short =
    let here : IsShort v needs c = subst (λ (u : SpaceView). IsShort u needs c) alike short in
    omega (arith, here, fits.below c)

-- it has room for what it is prepared for, where it has for the ranges of the edit
pub room_prepared : (v w : SpaceView) (needs : Needs) (writes ranges : List Extent) → RoomInAnyOrder
    → w ≡ record v { prepared = w.prepared }
    → IsPermutation (blocks_of w.prepared) (blocks_of writes ++ new_ranges v needs)
    → IsPermutation (blocks_of ranges) (blocks_of writes ++ new_ranges w needs)
    → HasRoom w.committed ranges → HasRoom w.committed w.prepared
room_prepared v w needs writes ranges any alike prepared asked room =
    let all = blocks_of writes ++ new_ranges v needs in
    let same = ap (λ (u : SpaceView). new_ranges u needs) alike in
    any w.committed ranges w.prepared (IsPermutation-trans (blocks_of ranges) all (blocks_of w.prepared)
    (subst (λ (bs : List Block). IsPermutation (blocks_of ranges) (blocks_of writes ++ bs)) same asked)
    (IsPermutation-sym (blocks_of w.prepared) all prepared)) room

-- its ends behind the plan are those of the space before, and what is needed
pub ends_before : (v w : SpaceView) (met : List Block) (plan : EditPlan) (new : Ends) → EndsBehindNeeds
    → w ≡ record v { prepared = w.prepared } → AreRegions v.regions v.ends → FitsCatalogue met plan
    → new ≡ ends_after w.regions w.ends plan.takes
    → (c : MemClass) → new c ≡ v.ends c + need_of v.regions plan.needs c
ends_before v w met plan new law alike sound fits is c =
    let before : new ≡ ends_after v.regions v.ends plan.takes =
    subst (λ (u : SpaceView). new ≡ ends_after u.regions u.ends plan.takes) alike is in
    ap (λ (e : Ends). e c) before ∙ law v.regions v.ends met plan c sound fits

-- what a plan makes of the space that was prepared is what it makes of the space before
pub planned_before : (v w : SpaceView) (plan : EditPlan) (b : Array) → w ≡ record v { prepared = w.prepared }
    → b ≡ planned w.regions w.ends plan w.array → b ≡ planned v.regions v.ends plan v.array
planned_before v w plan b alike = subst (λ (u : SpaceView). b ≡ planned u.regions u.ends plan u.array) alike
