-- Where the blocks of a file lie: blocks, and the regions with their ends.
-- Cited by what says which tree a file's bytes hold, and by what takes, reads and writes blocks.
use Rattle.std.specs.Prelude.{◌≡◌, ℕ, ◌+◌, ◌≤◌, ◌<◌, ◌==◌, ◌⊎◌, max, List, [], ◌∷◌, ◌++◌, length, Option, if◌then◌else◌}
use Rattle.std.specs.List.{Contains}
use Rattle.outside.specs.Array.{Array, Ends}
use Rattle.h5_base.specs.declared.extent.MemClass.{MemClass}
use Rattle.h5_base.specs.declared.kinds.BlockKind.{BlockKind}
use Rattle.h5_base.specs.declared.refusal.Refusal.{Refusal}
use Rattle.h5_base.specs.declared.refusal.Refusal.TheVariants.{Malformed, LinkedTwice, Overlap, TooMany}

pub record Block : Type 0 where
  pub start : ℕ
  pub len : ℕ

-- The regions of a stack: where each class begins, and where it ends. Classes of one region have one start and one end.
-- Beside them the identification of the stack's own kind of driver information block, where it has one.
pub record Bounds : Type 0 where
  pub starts : MemClass → ℕ
  pub ends : Ends
  pub own : Option (List ℕ)

-- no address lies in both
abbrev pub AreApart : Block → Block → Type 0
AreApart x y = (x.start + x.len ≤ y.start) ⊎ (y.start + y.len ≤ x.start)

-- apart from each of a list
abbrev pub IsApart : Block → List Block → Type 0
IsApart x [] = Unit {0}
IsApart x (y ∷ ys) = AreApart x y × IsApart x ys

-- no address lies in two of them
abbrev pub AllApart : List Block → Type 0
AllApart [] = Unit {0}
AllApart (x ∷ xs) = IsApart x xs × AllApart xs

-- the block lies whole in one region, below its end
abbrev pub IsInside : Bounds → Block → Type 0
IsInside e x = (c : MemClass) × (e.starts c ≤ x.start) × (x.start + x.len ≤ e.ends c)

abbrev pub AllInside : Bounds → List Block → Type 0
AllInside e [] = Unit {0}
AllInside e (x ∷ xs) = IsInside e x × AllInside e xs

-- each has at least one byte
abbrev pub AllSome : List Block → Type 0
AllSome [] = Unit {0}
AllSome (x ∷ xs) = (0 < x.len) × AllSome xs

-- each block has bytes and lies below an end, and no address lies in two
pub record AreKept (e : Bounds) (blocks : List Block) : Type 0 where
  pub some : AllSome blocks
  pub apart : AllApart blocks
  pub inside : AllInside e blocks

-- an empty block has no place
abbrev pub placed : ℕ → ℕ → List Block
placed start len = if len == 0 then [] else (record { start = start; len = len } ∷ [])

-- the two arrays have the same bytes in the blocks
abbrev pub Agree : Array → Array → List Block → Type 0
Agree b c [] = Unit {0}
Agree b c (x ∷ xs) = ((i : ℕ) → x.start ≤ i → i < x.start + x.len → b i ≡ c i) × Agree b c xs

-- ---- why a block is refused beside others

-- so many blocks a file has at most
abbrev pub most_blocks : ℕ
most_blocks = 1048576

-- one of the blocks begins there
abbrev pub BeginsOne : List Block → ℕ → Type 0
BeginsOne blocks at = (y : Block) × Contains blocks y × (y.start ≡ at)

-- two blocks share an address, and this is the greater of their beginnings
pub record Share (x y : Block) (at : ℕ) : Type 0 where
  pub greater : at ≡ max x.start y.start
  pub in_first : at < x.start + x.len
  pub in_second : at < y.start + y.len

-- where a block first shares an address with one of the others
pub record IsOverlap (blocks : List Block) (x : Block) (at : ℕ) : Type 0 where
  pub other : Block
  pub one : Contains blocks other
  pub share : Share x other at
  pub least : (y : Block) (n : ℕ) → Contains blocks y → Share x y n → at ≤ n

-- Why a block of at least one byte is refused beside the blocks that were met before it: the first of these reasons. A
-- block that leaves its region's end is malformed as its kind.
pub data IsBlockRefused (e : Bounds) (met : List Block) (x : Block) (kind : BlockKind) (r : Refusal) : Type 0 where
  Again : BeginsOne met x.start → r ≡ LinkedTwice x.start → IsBlockRefused e met x kind r
  Shares : (at : ℕ) → ¬ BeginsOne met x.start → IsOverlap met x at → r ≡ Overlap at → IsBlockRefused e met x kind r
  Outside : ¬ BeginsOne met x.start → IsApart x met → ¬ IsInside e x → r ≡ Malformed x.start kind
      → IsBlockRefused e met x kind r
  OneMore : ¬ BeginsOne met x.start → IsApart x met → IsInside e x → most_blocks ≤ length met → r ≡ TooMany
      → IsBlockRefused e met x kind r

-- an empty block has no place, and isn't refused
pub record IsPlacedRefused (e : Bounds) (met : List Block) (at len : ℕ) (kind : BlockKind) (r : Refusal) : Type 0 where
  pub some : 0 < len
  pub refused : IsBlockRefused e met (record { start = at; len = len }) kind r

-- ---- what was taken before

-- The blocks are taken after those that were met before: all are kept together, and they aren't too many. A refusal
-- comes only behind blocks that were taken.
pub record AreTaken (e : Bounds) (met own : List Block) : Type 0 where
  pub kept : AreKept e (met ++ own)
  pub few : length (met ++ own) ≤ most_blocks
