-- What a catalogue of the blocks of a file holds, and when it takes a further block.
-- Cited by `Blocks`, and by whatever reads a file through it.
use Rattle.std.specs.Prelude.{ℕ, ◌<◌, ◌≤◌, ◌++◌, List, length, Option, IfSome}
use Rattle.std.specs.Prelude.{vec_len, vec_capacity, ◌-◌}
use Rattle.h5_base.specs.declared.refusal.Refusal.{Refusal}
use Rattle.h5_base.specs.declared.refusal.Stop.{Stop}
use Rattle.h5_base.specs.Refusals.{refusal_of}
use Rattle.outside.specs.Array.{Array}
use Rattle.outside.specs.Blocks.{Block, Bounds, BeginsOne, IsApart, IsInside, AllInside, most_blocks}
use Rattle.outside.specs.Space.{HasRoom, SpaceView, bounds_of}
use Rattle.block_space.specs.declared.blocks.Blocks.{Blocks}
use Rattle.block_space.specs.declared.catalogue.Catalogue.{Catalogue}
use Rattle.block_space.specs.Catalogue.{IsListed}

-- the space whose blocks they are
abbrev pub space_of : {V : Type 0} → Blocks V → V
space_of blocks = blocks.space

-- A catalogue has just the blocks of the list: each lies below an end of what a space tells, no address lies in two,
-- and they are no more than a file may have.
pub record AreListed (v : SpaceView) (c : Catalogue) (met : List Block) : Type 0 where
  pub lists : IsListed c met
  pub few : length met ≤ most_blocks
  pub inside : (own : Option (List ℕ)) → AllInside (bounds_of v own) met

-- the catalogue of a space has just these blocks
abbrev pub Keeps : {V : Type 0} → (V → SpaceView) → Blocks V → List Block → Type 0
Keeps view blocks met = AreListed (view blocks.space) blocks.catalogue met

-- the bytes of the space
abbrev pub array_of : {V : Type 0} → (V → SpaceView) → Blocks V → Array
array_of view blocks = (view blocks.space).array

-- The blocks of a part were taken into the catalogue, after those that were met before.
abbrev pub Takes : {V : Type 0} → (V → SpaceView) → (old new : Blocks V) → (List Block → Type 0) → Type 0
Takes view old new Part = (met : List Block) → Keeps view old met → (bs : List Block) × Part bs
    × Keeps view new (met ++ bs)

-- A stop is one of these refusals of a file, after the blocks that were met before, or none of a file.
abbrev pub Refuses : {V : Type 0} → (V → SpaceView) → Blocks V → (Bounds → List Block → Refusal → Type 0) → Stop
    → Type 0
Refuses view old IsRefused stop = (met : List Block) (own : Option (List ℕ)) → Keeps view old met
    → IfSome (refusal_of stop) (IsRefused (bounds_of (view old.space) own) met)

-- a catalogue that was set aside has just these blocks
abbrev pub IsSetAside : SpaceView → Catalogue → List Block → Type 0
IsSetAside v kept met = AreListed v kept met

-- a block may be taken into the catalogue
pub record MayJoin {V : Type 0} (view : V → SpaceView) (blocks : Blocks V) (met : List Block) (x : Block) : Type 0 where
  pub few : length met < most_blocks
  pub begins : ¬ BeginsOne met x.start
  pub apart : IsApart x met
  pub inside : (own : Option (List ℕ)) → IsInside (bounds_of (view blocks.space) own) x

-- how many more blocks are taken without memory
abbrev pub spare_of : {V : Type 0} → Blocks V → ℕ
spare_of blocks = vec_capacity blocks.catalogue.taken - vec_len blocks.catalogue.taken

-- there is room for all that the space is prepared for
abbrev pub HasRoomNow : {V : Type 0} → (V → SpaceView) → Blocks V → Type 0
HasRoomNow view blocks = HasRoom (view blocks.space).committed (view blocks.space).prepared
