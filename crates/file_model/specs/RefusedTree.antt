-- Why a file is refused when the tree of its objects is read: its superblock, its driver information block, and its
-- objects, depth first in the order of names. Cited by what opens a file.
use Rattle.std.specs.Prelude.{◌≡◌, ◌≢◌, ◌⊎◌, ℕ, zero, suc, ◌+◌, ◌<◌, ◌≤◌, true, false, List, [], ◌∷◌, ◌++◌}
use Rattle.std.specs.Prelude.{slice_index, Some}
use Rattle.outside.specs.Array.{Array, bytes_of}
use Rattle.outside.specs.Blocks.{Block, Bounds}
use Rattle.h5_base.specs.declared.kinds.BlockKind.TheVariants as kind
use Rattle.h5_base.specs.declared.kinds.What.TheVariants as what
use Rattle.h5_base.specs.Fields.{bytes_at, u32_at, undefined}
use Rattle.super_codec.specs.Super.{Spells, stop_of, super_len}
use Rattle.super_codec.specs.declared.superblock.Superblock.{Superblock}
use Rattle.super_codec.specs.declared.superblock.SuperStop.{SuperStop}
use Rattle.super_codec.specs.declared.superblock.SuperStop.TheVariants as stop
use Rattle.header_codec.specs.declared.types.Prefix.{Prefix}
use Rattle.file_model.specs.Headers.{Part, IsHeader, header_blocks, messages_of, later_header}
use Rattle.file_model.specs.Objects.{DataInfo, IsGroupHeader, IsDataHeader, has}
use Rattle.file_model.specs.Groups.{Ks, Found, Target, Header, Text}
use Rattle.file_model.specs.Holds.{GroupAt, Full, IsGroup, IsHeld, target_of, blocks_of, ks_of, HasDriver, IsDriver}
use Rattle.file_model.specs.Holds.{super_bytes_of}
use Rattle.file_model.specs.Limits.{most_depth, most_objects, objects_of, depth_to, Fits, IsShort, IsSmallHeap}
use Rattle.h5_base.specs.declared.refusal.Refusal.{Refusal}
use Rattle.h5_base.specs.declared.refusal.Refusal.TheVariants.{Malformed, Unsupported, TooDeep, TooMany}
use Rattle.outside.specs.Blocks.{IsBlockRefused, AreTaken}
use Rattle.file_model.specs.Refusals.{IsHeaderRefused, AreHeaderBlocks}
use Rattle.file_model.specs.RefusedGroups.{IsTableRefused}
use Rattle.file_model.specs.RefusedChunks.{IsStorageRefused}

-- an object at an address is refused, after so many objects and these blocks
abbrev pub RefusedObject : Type 1
RefusedObject = (objects : ℕ) → List Block → ℕ → Refusal → Type 0

abbrev pub IsTargetRefused : RefusedObject → ℕ → List Block → Target → Refusal → Type 0
IsTargetRefused Refused objects met (Header at) r = Refused objects met at r
IsTargetRefused Refused objects met (Text text) r = ⊥

-- What a link leads to was read with all below it, within the limits, and its blocks were taken: so many objects were
-- met before it, and so many levels are left for it.
pub record WasOpened (b : Array) (e : Bounds) (ks : Ks) (levels objects : ℕ) (met : List Block)
    (t : Full) : Type 0 where
  pub held : IsHeld b ks t
  pub taken : AreTaken e met (blocks_of t)
  pub depth : depth_to t ≤ levels
  pub few : objects + objects_of t ≤ most_objects
  pub fits : Fits b t

-- One of the objects that links lead to is refused, when those before it were read with all below them.
abbrev pub AreLinksRefused : RefusedObject → Array → Bounds → Ks → (levels objects : ℕ) → List Block → List Found
    → Refusal → Type 0
AreLinksRefused Refused b e ks levels objects met [] r = ⊥
AreLinksRefused Refused b e ks levels objects met (f ∷ fs) r =
    IsTargetRefused Refused objects met f.target r
    ⊎ ((t : Full) × WasOpened b e ks levels objects met t × (target_of t ≡ f.target)
    × AreLinksRefused Refused b e ks levels (objects + objects_of t) (met ++ blocks_of t) fs r)

-- The header of an object was read, within the limit, and its blocks were taken.
pub record WasRead (b : Array) (e : Bounds) (met : List Block) (at : ℕ) (prefix : Prefix) (parts : List Part) : Type 0
  where
    pub header : IsHeader b at prefix parts
    pub blocks : AreHeaderBlocks e met (header_blocks at prefix parts)

-- An object is refused: as one too many, else by its header, else by what its kind wants, else by an object below it.
pub data IsRefusedWith (Refused : RefusedObject) (b : Array) (e : Bounds) (ks : Ks) (levels objects : ℕ)
    (met : List Block) (at : ℕ) (r : Refusal) : Type 0 where
  ObjectTooMany : most_objects ≤ objects → r ≡ TooMany → IsRefusedWith Refused b e ks levels objects met at r
  InHeader : objects < most_objects → IsHeaderRefused b e met at r
      → IsRefusedWith Refused b e ks levels objects met at r
  InTable : (prefix : Prefix) (parts : List Part) (tree heap : ℕ) → objects < most_objects
      → WasRead b e met at prefix parts → IsGroupHeader (messages_of parts) tree heap
      → IsTableRefused b e ks (met ++ header_blocks at prefix parts) tree heap r
      → IsRefusedWith Refused b e ks levels objects met at r
  InStorage : (prefix : Prefix) (parts : List Part) (i : DataInfo) → objects < most_objects
      → WasRead b e met at prefix parts → IsDataHeader (messages_of parts) i
      → IsStorageRefused b e ks.chunk i (met ++ header_blocks at prefix parts) r
      → IsRefusedWith Refused b e ks levels objects met at r
  InLinks : (g : GroupAt) (fs : List Found) → objects < most_objects → g.header_at ≡ at → IsGroup b ks g fs
      → AreTaken e met g.own → IsShort b g.header_at → IsSmallHeap b g.heap_at
      → AreLinksRefused Refused b e ks levels (objects + 1) (met ++ g.own) fs r
      → IsRefusedWith Refused b e ks levels objects met at r

-- An object with so many levels left for it and all below it. With none left it is too deep, before anything else of
-- it is judged.
abbrev pub IsObjectRefused : Array → Bounds → Ks → (levels : ℕ) → RefusedObject
IsObjectRefused b e ks zero objects met at r = r ≡ TooDeep
IsObjectRefused b e ks (suc levels) objects met at r = IsRefusedWith
    (IsObjectRefused b e ks levels) b e ks levels objects met at r

-- ---- the file

-- why bytes that spell no superblock are refused
abbrev pub of_super : SuperStop → Refusal
of_super stop.NotThis = Malformed 0 kind.Super
of_super (stop.Unsupported w) = Unsupported w

-- The driver information block at an address is refused, where the stack's own kind has this identification: its first
-- 16 bytes as a block, else by its version, else by its identification, else its whole block.
pub data IsDriverRefused (b : Array) (e : Bounds) (met : List Block) (at : ℕ) (ident : List ℕ)
    (r : Refusal) : Type 0 where
  DriverBegin : IsBlockRefused e met (record { start = at; len = 16 }) kind.Driver r
      → IsDriverRefused b e met at ident r
  NoDriver : AreTaken e met (record { start = at; len = 16 } ∷ []) → slice_index (bytes_of b at 16) 0 ≢ 0
      → r ≡ Malformed at kind.Driver → IsDriverRefused b e met at ident r
  OtherDriver : AreTaken e met (record { start = at; len = 16 } ∷ []) → slice_index (bytes_of b at 16) 0 ≡ 0
      → bytes_at (bytes_of b at 16) 8 8 ≢ ident → r ≡ Unsupported what.Driver
      → IsDriverRefused b e met at ident r
  DriverBlock : AreTaken e met (record { start = at; len = 16 } ∷ []) → IsDriver b at ident
      → IsBlockRefused e met (record { start = at; len = 16 + u32_at (bytes_of b at 16) 4 }) kind.Driver r
      → IsDriverRefused b e met at ident r

abbrev pub super_block : Superblock → Block
super_block s = record { start = 0; len = super_len s.version }

-- The root is refused, after these blocks: by its header, which may be of a later version or no group's; else as a
-- group.
pub data IsRootRefused (b : Array) (e : Bounds) (ks : Ks) (met : List Block) (at : ℕ) (r : Refusal) : Type 0 where
  RootHeader : IsHeaderRefused b e met at r → IsRootRefused b e ks met at r
  LaterRoot : AreTaken e met (record { start = at; len = 4 } ∷ []) → bytes_of b at 4 ≡ later_header
      → r ≡ Unsupported what.Header → IsRootRefused b e ks met at r
  NoGroup : (prefix : Prefix) (parts : List Part) → WasRead b e met at prefix parts
      → has 0x11 (messages_of parts) ≡ false → r ≡ Unsupported what.Root → IsRootRefused b e ks met at r
  InGroup : (prefix : Prefix) (parts : List Part) → WasRead b e met at prefix parts
      → has 0x11 (messages_of parts) ≡ true → IsObjectRefused b e ks (most_depth + 1) 0 met at r
      → IsRootRefused b e ks met at r

-- The file is refused when its tree is read: by its superblock, else by the driver information block of the stack's own
-- kind, else by the root or an object below it.
pub data IsFileRefused (b : Array) (e : Bounds) (r : Refusal) : Type 0 where
  NoSuper : ((s : Superblock) → Spells s (super_bytes_of b e) → ⊥) → r ≡ of_super (stop_of (super_bytes_of b e))
      → IsFileRefused b e r
  InDriver : (s : Superblock) (ident : List ℕ) → Spells s (super_bytes_of b e) → e.own ≡ Some ident
      → s.driver_at ≢ undefined
      → IsDriverRefused b e (super_block s ∷ []) s.driver_at ident r → IsFileRefused b e r
  InTree : (s : Superblock) (driver : List Block) → Spells s (super_bytes_of b e) → HasDriver b e.own s.driver_at driver
      → AreTaken e [] (super_block s ∷ driver)
      → IsRootRefused b e (ks_of s) (super_block s ∷ driver) s.root.header_at r → IsFileRefused b e r
