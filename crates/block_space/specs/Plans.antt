-- What is taken of a space for an edit, where it lies, and what the edit makes of the bytes.
-- Cited by `Blocks`, and by whatever plans an edit.
use Rattle.std.specs.Prelude.{◌≡◌, ℕ, ◌+◌, ◌*◌, ◌-◌, ◌/◌, ◌^◌, ◌<◌, ◌≤◌, ◌==◌, List, [], ◌∷◌, ◌++◌, length, replicate}
use Rattle.std.specs.Prelude.{slice_index, if◌then◌else◌, ◌⊎◌, drop}
use Rattle.std.specs.List.{Contains, flat_map, sum_by}
use Rattle.h5_base.specs.declared.extent.Extent.{Extent}
use Rattle.h5_base.specs.declared.extent.MemClass.{MemClass}
use Rattle.h5_base.specs.declared.extent.MemClass.TheVariants.{Super, Tree, Raw, GlobalHeap, LocalHeap, Header}
use Rattle.h5_base.specs.declared.extent.Region.{Region}
use Rattle.outside.specs.Array.{Array, Ends, over}
use Rattle.outside.specs.Blocks.{Block, most_blocks}
use Rattle.outside.specs.Space.{AreRegions, SpaceView, same_region, raised, Ascend}
use Rattle.block_space.specs.declared.plan.Needs.{Needs}
use Rattle.block_space.specs.declared.plan.Take.{Take}
use Rattle.block_space.specs.declared.plan.EditPlan.{EditPlan}
use Rattle.block_space.specs.declared.plan.ReserveStop.{ReserveStop}
use Rattle.block_space.specs.declared.plan.ReserveStop.TheVariants.{TooMany, Full, NoMemory}

-- ---- what is needed

-- the six classes in their order, and the number of each
abbrev pub classes : List MemClass
classes = Super ∷ Tree ∷ Raw ∷ GlobalHeap ∷ LocalHeap ∷ Header ∷ []

abbrev pub number_of : MemClass → ℕ
number_of Super = 0
number_of Tree = 1
number_of Raw = 2
number_of GlobalHeap = 3
number_of LocalHeap = 4
number_of Header = 5

-- the bytes of a class
abbrev pub needed : Needs → MemClass → ℕ
needed needs c = slice_index needs.bytes (number_of c)

-- all bytes
abbrev pub all_needed : Needs → ℕ
all_needed needs = sum_by (needed needs) classes

-- what a class d needs of the region of a class c: all that it needs, where it has this region
abbrev pub share : (MemClass → Region) → Needs → (c d : MemClass) → ℕ
share regions needs c d = if same_region (regions d) (regions c) then needed needs d else 0

-- the bytes of the region of a class: of all classes that have it
abbrev pub need_of : (MemClass → Region) → Needs → MemClass → ℕ
need_of regions needs c = sum_by (share regions needs c) classes

-- the region of a class is too short
abbrev pub IsShort : SpaceView → Needs → MemClass → Type 0
IsShort v needs c = (v.regions c).limit < v.ends c + need_of v.regions needs c

-- the first class whose region is too short
pub record IsFirstShort (v : SpaceView) (needs : Needs) (c : MemClass) : Type 0 where
  pub short : IsShort v needs c
  pub first : (d : MemClass) → number_of d < number_of c → ¬ IsShort v needs d

-- No region is too short, and the blocks aren't too many beside so many.
pub record HasRoomFor (v : SpaceView) (count : ℕ) (needs : Needs) : Type 0 where
  pub few : count + needs.blocks ≤ most_blocks
  pub below : (c : MemClass) → v.ends c + need_of v.regions needs c ≤ (v.regions c).limit

-- Why no room is made beside so many blocks: for the number of blocks, else for the first region that is too short.
abbrev pub IsNoRoom : SpaceView → (count : ℕ) → Needs → ReserveStop → Type 0
IsNoRoom v count needs TooMany = most_blocks < count + needs.blocks
IsNoRoom v count needs (Full end need) = (count + needs.blocks ≤ most_blocks) × (c : MemClass) × IsFirstShort v needs c
    × (end ≡ v.ends c) × (need ≡ need_of v.regions needs c)
IsNoRoom v count needs NoMemory = Unit {0}

-- ---- where it lies

-- a length rounded up to a multiple of 8
abbrev pub rounded : ℕ → ℕ
rounded n = (n + 7) / 8 * 8

-- The range behind the end for what is needed of a class, where something is: its whole region's.
abbrev pub new_range : SpaceView → Needs → MemClass → List Block
new_range v needs c =
    if needed needs c == 0 then [] else (record { start = v.ends c; len = need_of v.regions needs c } ∷ [])

-- the ranges behind the ends for what is needed
abbrev pub new_ranges : SpaceView → Needs → List Block
new_ranges v needs = flat_map (new_range v needs) classes

-- where the ends are once blocks are taken one after the other, each at its region's end
abbrev pub ends_after : (MemClass → Region) → Ends → List Take → Ends
ends_after regions ends [] = ends
ends_after regions ends (t ∷ ts) = ends_after regions (raised regions ends t.class (ends t.class + rounded t.len)) ts

-- What taking blocks leaves of the ends, whatever it answers: each lies between the one before and the one behind all.
pub record RisenInPart (regions : MemClass → Region) (old : Ends) (takes : List Take) (new : Ends) : Type 0 where
  pub low : (c : MemClass) → old c ≤ new c
  pub high : (c : MemClass) → new c ≤ ends_after regions old takes c

-- the blocks
abbrev pub taken_blocks : (MemClass → Region) → Ends → List Take → List Block
taken_blocks regions ends [] = []
taken_blocks regions ends (t ∷ ts) = record { start = ends t.class; len = t.len }
    ∷ taken_blocks regions (raised regions ends t.class (ends t.class + rounded t.len)) ts

-- ---- what it makes of the bytes

-- so many bytes that begin with an image, and are 0 behind it
abbrev pub padded_to : ℕ → List ℕ → List ℕ
padded_to n image = image ++ replicate (n - length image) 0

-- The array with each taken block's image at its place; what an image doesn't reach is 0.
abbrev pub with_takes : (MemClass → Region) → Ends → List Take → (images : List (List ℕ)) → Array → Array
with_takes regions ends [] images b = b
with_takes regions ends (t ∷ ts) [] b = b
with_takes regions ends (t ∷ ts) (i ∷ is) b =
    with_takes regions (raised regions ends t.class (ends t.class + rounded t.len)) ts is
    (over b (ends t.class) (padded_to (rounded t.len) i))

-- the array with each image at its range
abbrev pub with_writes : List Extent → (images : List (List ℕ)) → Array → Array
with_writes [] images b = b
with_writes (w ∷ ws) [] b = b
with_writes (w ∷ ws) (i ∷ is) b = with_writes ws is (over b w.start i)

-- What a plan makes of an array where the regions end so.
abbrev pub planned : (MemClass → Region) → Ends → EditPlan → Array → Array
planned regions ends plan b =
    with_writes plan.writes plan.images
    (with_takes regions ends plan.takes (drop (length plan.writes) plan.images) b)

-- ---- when a plan fits

-- each image is as long as its range
abbrev pub AreAsLong : List Extent → List (List ℕ) → Type 0
AreAsLong [] images = Unit {0}
AreAsLong (w ∷ ws) [] = ⊥
AreAsLong (w ∷ ws) (i ∷ is) = (length i ≡ w.len) × AreAsLong ws is

-- each image is as long as the block that is taken, or empty where the block is filled later
abbrev pub AreFilled : List Take → List (List ℕ) → Type 0
AreFilled [] images = images ≡ []
AreFilled (t ∷ ts) [] = ⊥
AreFilled (t ∷ ts) (i ∷ is) = (0 < t.len) × ((i ≡ []) ⊎ (length i ≡ t.len)) × AreFilled ts is

-- n bytes from an address on lie within one of the blocks
abbrev pub LiesInOne : List Block → (at n : ℕ) → Type 0
LiesInOne met at n = (x : Block) × Contains met x × (x.start ≤ at) × (at + n ≤ x.start + x.len)

-- the bytes of a class in a list of takes
abbrev pub sum_of : MemClass → List Take → ℕ
sum_of c = sum_by (λ t. if number_of t.class == number_of c then rounded t.len else 0)

-- A plan fits a catalogue with these blocks.
pub record FitsCatalogue (met : List Block) (plan : EditPlan) : Type 0 where
  pub ascend : Ascend plan.writes
  pub within : (w : Extent) → Contains plan.writes w → LiesInOne met w.start w.len
  pub as_long : AreAsLong plan.writes plan.images
  pub filled : AreFilled plan.takes (drop (length plan.writes) plan.images)
  pub bytes : (c : MemClass) → needed plan.needs c ≡ sum_of c plan.takes
  pub blocks : plan.needs.blocks ≡ length plan.takes
  pub small : all_needed plan.needs < 2 ^ 64

-- ---- laws

-- the address lies in no range that is written
abbrev pub LiesBesideWrites : List Extent → ℕ → Type 0
LiesBesideWrites writes a = (w : Extent) → Contains writes w → (a < w.start) ⊎ (w.start + w.len ≤ a)

-- the address lies in no block that is taken of the region of a class
abbrev pub LiesBesideTake : (MemClass → Region) → Ends → List Take → ℕ → MemClass → Type 0
LiesBesideTake regions ends takes a c = (a < ends c) ⊎ (ends_after regions ends takes c ≤ a)

-- the address lies in no range that is written, and in no block that is taken
pub record LiesBeside (regions : MemClass → Region) (ends : Ends) (plan : EditPlan) (a : ℕ) : Type 0 where
  pub writes : LiesBesideWrites plan.writes a
  pub takes : (c : MemClass) → LiesBesideTake regions ends plan.takes a c

-- what lies beside what a plan writes and takes stays
abbrev pub PlannedStays : Type 0
PlannedStays = (regions : MemClass → Region) (ends : Ends) (met : List Block) (plan : EditPlan) (b : Array) (a : ℕ)
    → FitsCatalogue met plan → LiesBeside regions ends plan a → planned regions ends plan b a ≡ b a

-- The ends behind the takes of a plan are those behind its needs.
abbrev pub EndsBehindNeeds : Type 0
EndsBehindNeeds = (regions : MemClass → Region) (ends : Ends) (met : List Block) (plan : EditPlan) (c : MemClass)
    → AreRegions regions ends → FitsCatalogue met plan
    → ends_after regions ends plan.takes c ≡ ends c + need_of regions plan.needs c
