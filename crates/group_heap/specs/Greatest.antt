-- The used length of a heap's segment, by the greatest offset in use. Of two texts that begin in one segment the one
-- that begins later ends last, since each ends at the first NUL.
-- Cited by what edits a heap, and by what finds the offsets of a group's index.
use Rattle.std.specs.Prelude.{◌≡◌, ℕ, ◌+◌, ◌≤◌, max, List, length}
use Rattle.std.specs.List.{Contains}
use Rattle.std.specs.declared.option.Option.{Option}
use Rattle.std.specs.declared.option.Option.TheVariants.{Some, None}
use Rattle.block_space.specs.Plans.{rounded}
use Rattle.file_model.specs.Groups.{HasText}
use Rattle.group_room.specs.Used.{IsUsedLen}

-- the greatest of some offsets, none where there are none
abbrev pub IsGreatest : List ℕ → Option ℕ → Type 0
IsGreatest offsets None = (at : ℕ) → Contains offsets at → ⊥
IsGreatest offsets (Some last) = Contains offsets last × ((at : ℕ) → Contains offsets at → at ≤ last)

-- a text stands at each of the offsets
abbrev pub HaveTexts : (segment offsets : List ℕ) → Type 0
HaveTexts segment offsets = (at : ℕ) → Contains offsets at → (text : List ℕ) × HasText segment at text

-- The used length that the text at the last offset gives: 8 where there is no offset.
pub record IsUsedBy (segment : List ℕ) (last : Option ℕ) (n : ℕ) : Type 0 where
  pub none : last ≡ None → n ≡ 8
  pub some : (at : ℕ) (text : List ℕ) → last ≡ Some at → HasText segment at text
      → n ≡ max 8 (rounded (at + length text + 1))

-- Where the last offset is the greatest of those in use, and each of them has a text, it is the used length.
abbrev pub UsedByLast : Type 0
UsedByLast = (segment offsets : List ℕ) (last : Option ℕ) (n : ℕ) → IsGreatest offsets last
    → HaveTexts segment offsets → IsUsedBy segment last n → IsUsedLen segment offsets n
