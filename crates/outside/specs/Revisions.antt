-- The revisions that a space has committed, and what one more commit makes of them.
-- Cited by `Space`, and by whatever commits, opens or lists revisions.
use Rattle.std.specs.Prelude.{◌≡◌, ◌⊎◌, ℕ, ◌+◌, ◌*◌, ◌<◌, ◌≤◌, min, ℤ, pos, List, [], ◌∷◌, ◌++◌, length}
use Rattle.std.specs.List.{Contains}
use Rattle.h5_base.specs.declared.extent.MemClass.{MemClass}
use Rattle.h5_base.specs.declared.extent.Region.{Region}
use Rattle.outside.specs.Array.{Array, Ends}
use Rattle.outside.specs.Moments.{IsTimeOf}
use Rattle.outside.specs.Pages.{ArePages, OfEither}

-- a revision: its number, comment and time, the end of all that it holds, the end of each class, and its bytes
pub record Revision : Type 0 where
  pub number : ℕ
  pub comment : List ℕ
  pub time : List ℕ
  pub end : ℕ
  pub ends : Ends
  pub array : Array

-- a revision whose bytes are whole, or one that is damaged at an address of the file that keeps it
pub data Stored : Type 0 where
  Whole : Revision → Stored
  Damaged : ℕ → Stored

-- What a space with revisions always tells of them: how many are committed, revision 0 among them, the size of a page,
-- where the committed bytes of the file with the revisions end, the pages of the last record, and the pages that were
-- written since the last commit.
pub record Committed : Type 0 where
  pub count : ℕ
  pub page : ℕ
  pub committed_end : ℕ
  pub recorded : List ℕ
  pub written : List ℕ

-- What it tells of them where it tells its bytes: the revisions committed so far, from 0 on, and where the classes end
-- in revision 0.
pub record History : Type 0 where
  pub revisions : List Stored
  pub origin : Ends

-- the greatest end of a region that isn't empty, or 0
pub record IsLogicalEnd (regions : MemClass → Region) (ends : Ends) (end : ℕ) : Type 0 where
  pub above : (c : MemClass) → (regions c).start < ends c → ends c ≤ end
  pub met : (end ≡ 0) ⊎ ((c : MemClass) × ((regions c).start < ends c) × (end ≡ ends c))

-- a page meets the region of a class
pub record MeetsRegion (r : Region) (page p : ℕ) : Type 0 where
  pub before : p < r.limit
  pub behind : r.start < p + page

-- a bound of a class's end: the region's start, the end in revision 0, or where a page of the record ends within the
-- region and below the logical end
pub data Reaches (r : Region) (origin page end : ℕ) (pages : List ℕ) (n : ℕ) : Type 0 where
  Start : n ≡ r.start → Reaches r origin page end pages n
  Origin : n ≡ origin → Reaches r origin page end pages n
  Page : (p : ℕ) → Contains pages p → MeetsRegion r page p → n ≡ min (p + page) (min r.limit end)
      → Reaches r origin page end pages n

-- the end of a class in a revision: the greatest of these
pub record IsEndOf (r : Region) (origin page end : ℕ) (pages : List ℕ) (n : ℕ) : Type 0 where
  pub met : Reaches r origin page end pages n
  pub above : (m : ℕ) → Reaches r origin page end pages m → m ≤ n

-- The revision of this number that a commit of these bytes makes, with these pages in its record.
pub record IsNext (number : ℕ) (origin : Ends) (page : ℕ) (regions : MemClass → Region) (ends : Ends) (array : Array)
    (comment : List ℕ) (moment : ℕ) (pages : List ℕ) (r : Revision) : Type 0 where
  pub follows : r.number ≡ number
  pub comment_is : r.comment ≡ comment
  pub time : IsTimeOf moment r.time
  pub end : IsLogicalEnd regions ends r.end
  pub ends_are : (class : MemClass) → IsEndOf (regions class) (origin class) page r.end pages (r.ends class)
  pub array_is : r.array ≡ array

-- how many bytes a record of so many pages with a comment takes, and a history of so many records
abbrev pub record_len : ℕ → ℕ → ℕ
record_len pages comment = 68 + 20 * pages + comment

abbrev pub history_len : ℕ → ℕ
history_len records = 20 + 20 * records

-- where the committed bytes end after a commit with these pages in its record, of which so many were written
abbrev pub end_after : Committed → ℕ → ℕ → ℕ → ℕ
end_after c written recorded comment =
    c.committed_end + c.page * written + record_len recorded comment + history_len c.count

-- What a commit that is done makes of what is always told: one more revision, the pages of its record, and no page
-- written since.
pub record Commits (old : Committed) (comment : List ℕ) (rev pages : ℕ) (new : Committed) : Type 0 where
  pub rev_is : rev ≡ old.count
  pub count : new.count ≡ old.count + 1
  pub pages_are : pages ≡ length old.written
  pub recorded : ArePages (OfEither old.recorded old.written) new.recorded
  pub written : new.written ≡ []
  pub end : new.committed_end ≡ end_after old pages (length new.recorded) (length comment)
  pub page : new.page ≡ old.page

-- And what it makes of the revisions, where they are told: one more, of these bytes, with these pages in its record.
pub record Appends (old : History) (page : ℕ) (regions : MemClass → Region) (ends : Ends) (array : Array)
    (comment : List ℕ) (secs : ℤ) (pages : List ℕ) (new : History) : Type 0 where
  pub moment : ℕ
  pub moment_is : secs ≡ pos moment
  pub revision : Revision
  pub next : IsNext (length old.revisions) old.origin page regions ends array comment moment pages revision
  pub list : new.revisions ≡ old.revisions ++ Whole revision ∷ []
  pub origin : new.origin ≡ old.origin
