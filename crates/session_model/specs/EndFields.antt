-- The end fields of a file: the superblock's, and the member ends of a driver information block of several members.
-- HDF5 File Format Specification 3.0, II.A and II.B. Cited by what flushes, commits and closes.
use Rattle.std.specs.Prelude.{◌≡◌, ◌≢◌, ◌⊎◌, ℕ, ◌+◌, ◌-◌, ◌*◌, ◌<◌, ◌≤◌, ◌==◌, nat_lt, ◌&&◌, List, [], ◌∷◌, length}
use Rattle.std.specs.Prelude.{filter, codes, Option, Some}
use Rattle.std.specs.List.{list_any}
use Rattle.h5_base.specs.declared.extent.MemClass.{MemClass}
use Rattle.h5_base.specs.declared.extent.Region.{Region}
use Rattle.h5_base.specs.Fields.{u64_at, undefined}
use Rattle.outside.specs.Array.{Array, Ends, bytes_of}
use Rattle.outside.specs.Revisions.{IsLogicalEnd}
use Rattle.block_space.specs.Plans.{classes, number_of}
use Rattle.super_codec.specs.declared.superblock.Superblock.{Superblock}
use Rattle.file_model.specs.EditLaws.{end_place}

-- The stack's own kind of driver information block tells ends of members, and the file has such a block.
pub record TellsMembers (own : Option (List ℕ)) (s : Superblock) : Type 0 where
  pub own_is : own ≡ Some (codes "NCSAmult")
  pub there : s.driver_at ≢ undefined

-- the number of the member that a class lies in, as the block tells it
abbrev pub member_of : Array → ℕ → MemClass → ℕ
member_of b driver class = b (driver + 16 + number_of class)

-- how many members have a smaller number
abbrev pub members_before : Array → ℕ → MemClass → ℕ
members_before b driver class =
    length (filter (λ n. nat_lt n (member_of b driver class) && list_any (λ c. member_of b driver c == n) classes)
    (1 ∷ 2 ∷ 3 ∷ 4 ∷ 5 ∷ 6 ∷ []))

-- where the block tells the end of a class's member: members stand in the order of their numbers, each with its start
-- and its end
abbrev pub member_end_at : Array → ℕ → MemClass → ℕ
member_end_at b driver class = driver + 24 + 16 * members_before b driver class + 8

abbrev pub number_at : Array → ℕ → ℕ
number_at b at = u64_at (bytes_of b at 8) 0

-- The end fields tell these ends: the superblock's is the greatest end of a region that isn't empty, and a member's
-- counts from the member's start.
pub record HasEndFields (regions : MemClass → Region) (own : Option (List ℕ)) (s : Superblock) (ends : Ends)
    (b : Array) : Type 0 where
  pub end : IsLogicalEnd regions ends (number_at b (end_place s.version))
  pub members : TellsMembers own s → (c : MemClass)
      → number_at b (member_end_at b s.driver_at c) ≡ ends c - (regions c).start

-- one of 8 addresses from there on
abbrev pub IsOfNumber : ℕ → ℕ → Type 0
IsOfNumber at a = (at ≤ a) × (a < at + 8)

-- An address of a field that tells another end.
pub data InWrongField (regions : MemClass → Region) (own : Option (List ℕ)) (s : Superblock) (ends : Ends) (b : Array)
    (a : ℕ) : Type 0 where
  OfSuper : IsOfNumber (end_place s.version) a → ¬ IsLogicalEnd regions ends (number_at b (end_place s.version))
      → InWrongField regions own s ends b a
  OfMember : (c : MemClass) → TellsMembers own s → IsOfNumber (member_end_at b s.driver_at c) a
      → number_at b (member_end_at b s.driver_at c) ≢ ends c - (regions c).start → InWrongField regions own s ends b a

-- an address of the end fields
abbrev pub InEndFields : Option (List ℕ) → Superblock → Array → ℕ → Type 0
InEndFields own s b a =
    IsOfNumber (end_place s.version) a
    ⊎ (TellsMembers own s × ((c : MemClass) × IsOfNumber (member_end_at b s.driver_at c) a))
