-- A plan that is put together from images, and what it makes of the bytes.
-- Cited by what plans an edit.
use Rattle.std.specs.Prelude.{◌≡◌, ◌≢◌, ◌⊎◌, ℕ, ◌+◌, ◌%◌, ◌^◌, ◌<◌, List, [], ◌∷◌, ◌++◌, length, map, All}
use Rattle.std.specs.List.{Contains, sum_by}
use Rattle.std.specs.List.Sorted.{IsPermutation}
use Rattle.h5_base.specs.declared.extent.MemClass.{MemClass}
use Rattle.h5_base.specs.declared.extent.Region.{Region}
use Rattle.outside.specs.Array.{Array, Ends}
use Rattle.outside.specs.Blocks.{Block, IsApart, AllApart, Agree}
use Rattle.outside.specs.Space.{Ascend}
use Rattle.block_space.specs.Catalogue.{blocks_of}
use Rattle.block_space.specs.Plans.{all_needed, needed, number_of, rounded, sum_of, planned, taken_blocks}
use Rattle.block_space.specs.Plans.{FitsCatalogue, LiesInOne}
use Rattle.block_space.specs.declared.plan.EditPlan.{EditPlan}
use Rattle.block_space.specs.declared.plan.Needs.{Needs}
use Rattle.plan_pieces.specs.declared.image.Image.{Image}
use Rattle.plan_pieces.specs.declared.image.NewBlock.{NewBlock}
use Rattle.plan_pieces.specs.Images.{HaveImages, image_blocks, images_of, takes_of}

-- what is needed with one block more of a class, of so many bytes
pub record IsWithBlock (old : Needs) (class : MemClass) (len : ℕ) (new : Needs) : Type 0 where
  pub own : needed new class ≡ needed old class + rounded len
  pub others : (c : MemClass) → number_of c ≢ number_of class → needed new c ≡ needed old c
  pub blocks : new.blocks ≡ old.blocks + 1

-- what is ahead leaves room to count on
pub record NeedsSmall (needs : Needs) : Type 0 where
  pub bytes : all_needed needs < 2 ^ 63
  pub blocks : needs.blocks < 2 ^ 31

-- the address behind an image is a number of 64 bits
abbrev pub EndsBelow : Image → Type 0
EndsBelow i = i.at + length i.bytes < 2 ^ 64

-- All bytes that are taken are a number of 64 bits.
abbrev pub NeedsBelow : List NewBlock → Type 0
NeedsBelow fills = sum_by (λ t. rounded t.len) (takes_of fills) < 2 ^ 64

-- these are the images but for some that stand already
pub record AreChanged (old images changed : List Image) : Type 0 where
  pub same : List Image
  pub all : IsPermutation images (changed ++ same)
  pub stand : (i : Image) → Contains same i → Contains old i

-- an image joins those that change, or it stands already
abbrev pub Joins : (old : List Image) → Image → (before now : List Image) → Type 0
Joins old i before now = (now ≡ before ++ i ∷ []) ⊎ (Contains old i × (now ≡ before))

abbrev pub bytes_in : List Image → List (List ℕ)
bytes_in = map (λ i. i.bytes)

-- The plan writes the images in ascending order, of which it may leave out some that stand already, and takes the
-- blocks.
pub record IsPlanOf (old writes : List Image) (fills : List NewBlock) (plan : EditPlan) : Type 0 where
  pub images : List Image
  pub changed : AreChanged old writes images
  pub ranges : blocks_of plan.writes ≡ image_blocks images
  pub ascend : Ascend plan.writes
  pub takes : plan.takes ≡ takes_of fills
  pub bytes : plan.images ≡ bytes_in images ++ bytes_in (images_of fills)
  pub needs : (c : MemClass) → needed plan.needs c ≡ sum_of c plan.takes
  pub count : plan.needs.blocks ≡ length plan.takes
  pub small : all_needed plan.needs < 2 ^ 64

-- a block that is taken has bytes, and their number is a multiple of 8
pub record IsWhole (n : NewBlock) : Type 0 where
  pub some : 0 < length n.image.bytes
  pub eights : length n.image.bytes % 8 ≡ 0

-- the plan takes its blocks where their images are to stand
abbrev pub TakesThere : (MemClass → Region) → Ends → EditPlan → List NewBlock → Type 0
TakesThere regions ends plan fills = taken_blocks regions ends plan.takes ≡ image_blocks (images_of fills)

-- Where no address lies in two of the blocks that are written and taken, all images stand once the plan is done.
abbrev pub PlanHas : Type 0
PlanHas = (regions : MemClass → Region) (ends : Ends) (b c : Array) (old writes : List Image) (fills : List NewBlock)
    (plan : EditPlan) → IsPlanOf old writes fills plan → HaveImages b old → Agree b c (image_blocks writes)
    → All IsWhole fills → TakesThere regions ends plan fills
    → AllApart (image_blocks writes ++ image_blocks (images_of fills))
    → HaveImages (planned regions ends plan c) (writes ++ images_of fills)

-- What is apart from these blocks stays.
abbrev pub PlanStays : Type 0
PlanStays = (regions : MemClass → Region) (ends : Ends) (c : Array) (old writes : List Image) (fills : List NewBlock)
    (plan : EditPlan) → IsPlanOf old writes fills plan
    → All IsWhole fills → TakesThere regions ends plan fills → (x : Block)
    → IsApart x (image_blocks writes ++ image_blocks (images_of fills))
    → Agree c (planned regions ends plan c) (x ∷ [])

-- each range lies within one of the blocks
abbrev pub LieWithin : List Block → List Block → Type 0
LieWithin met xs = (x : Block) → Contains xs x → LiesInOne met x.start x.len

-- The plan fits a catalogue whose blocks hold all that is written.
abbrev pub PlanFits : Type 0
PlanFits = (met : List Block) (old writes : List Image) (fills : List NewBlock) (plan : EditPlan)
    → IsPlanOf old writes fills plan → All IsWhole fills → LieWithin met (image_blocks writes)
    → FitsCatalogue met plan
