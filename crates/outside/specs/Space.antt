-- What a space tells, and what each of its calls leaves of it.
-- Cited by `Space`, by each space, and by whatever works on one.
use Rattle.std.specs.Prelude.{◌≡◌, ◌⊎◌, ◌↔◌, ℕ, ◌+◌, ◌-◌, ◌*◌, ◌%◌, ◌^◌, ◌<◌, ◌≤◌, ◌==◌, ◌&&◌, Bool}
use Rattle.std.specs.Prelude.{IsTrue, ℤ, List, [], ◌∷◌, length, replicate, Option, Some, None, Result}
use Rattle.std.specs.Prelude.{IsErrOf, if◌then◌else◌}
use Rattle.std.specs.List.{Contains}
use Rattle.std.specs.List.Sorted.{IsStrictlyIncreasing}
use Rattle.h5_base.specs.declared.extent.MemClass.{MemClass}
use Rattle.h5_base.specs.declared.extent.Region.{Region}
use Rattle.h5_base.specs.declared.extent.Extent.{Extent}
use Rattle.outside.specs.Array.{Array, Ends, over}
use Rattle.outside.specs.Blocks.{Bounds}
use Rattle.outside.specs.Causes.{Counts, OneRose}
use Rattle.outside.specs.Moments.{HasTime}
use Rattle.outside.specs.Pages.{ArePages, OrMet, OrMetByOne, OfEither}
use Rattle.outside.specs.Revisions.{Stored, Committed, History, end_after, Commits, Appends}
use Rattle.outside.specs.declared.space.WriteStop.{WriteStop}
use Rattle.outside.specs.declared.space.WriteStop.TheVariants as stop
use Rattle.outside.specs.declared.space.CommitStop.{CommitStop}
use Rattle.outside.specs.declared.space.CommitStop.TheVariants as commit_stop
use Rattle.outside.specs.declared.space.CommitAnswer.{CommitAnswer}
use Rattle.outside.specs.declared.space.CommitAnswer.TheVariants as answer

-- What a space tells: its bytes and where each class ends, its regions, whether it can be written, the ranges that it
-- is prepared for, and, where it has revisions, how many with their pages. The bytes and the revisions themselves mean
-- something only where it tells its bytes; all else is always told.
pub record SpaceView : Type 0 where
  pub array : Array
  pub ends : Ends
  pub regions : MemClass → Region
  pub writable : Bool
  pub prepared : List Extent
  pub committed : Option Committed
  pub history : History

-- where its classes begin and end, for a stack with this kind of driver information block
abbrev pub bounds_of : SpaceView → Option (List ℕ) → Bounds
bounds_of v own = record { starts = λ c. (v.regions c).start; ends = v.ends; own = own }

-- Each end lies between the start and the limit of its region, of at most 2^48 bytes below 2^64, and two regions are
-- equal or apart.
pub record AreRegions (regions : MemClass → Region) (ends : Ends) : Type 0 where
  pub low : (c : MemClass) → (regions c).start ≤ ends c
  pub high : (c : MemClass) → ends c ≤ (regions c).limit
  pub small : (c : MemClass) → (regions c).limit ≤ (regions c).start + 2 ^ 48
  pub fits : (c : MemClass) → (regions c).limit < 2 ^ 64
  pub apart : (c d : MemClass) → ((regions c ≡ regions d) × (ends c ≡ ends d))
      ⊎ ((regions c).limit ≤ (regions d).start) ⊎ ((regions d).limit ≤ (regions c).start)

-- What is told of revisions is sound: a page has 2^6 to 2^20 bytes, there is revision 0 and at most 65,535 behind it,
-- in at most 2^48 bytes, and the pages ascend, each at a multiple of their size.
pub record AreSound (c : Committed) : Type 0 where
  pub power : (k : ℕ) × (6 ≤ k) × (k ≤ 20) × (c.page ≡ 2 ^ k)
  pub first : 1 ≤ c.count
  pub most : c.count ≤ 65536
  pub short : c.committed_end ≤ 2 ^ 48
  pub recorded : IsStrictlyIncreasing c.recorded
  pub written : IsStrictlyIncreasing c.written
  pub whole : (p : ℕ) → Contains c.recorded p ⊎ Contains c.written p → p % c.page ≡ 0

-- What a space tells is sound: its regions are, and what it tells of its revisions; and where its bytes are told, it
-- has as many revisions as it counts.
pub record IsSound (tells : Bool) (v : SpaceView) : Type 0 where
  pub regions : AreRegions v.regions v.ends
  pub revisions : (c : Committed) → v.committed ≡ Some c → AreSound c
  pub counted : IsTrue tells → (c : Committed) → v.committed ≡ Some c → c.count ≡ length v.history.revisions

-- n bytes from an address on lie in the region of a class, below its end
pub record LiesIn (regions : MemClass → Region) (ends : Ends) (class : MemClass) (at n : ℕ) : Type 0 where
  pub low : (regions class).start ≤ at
  pub high : at + n ≤ ends class

-- each of the n addresses is in one of the ranges
abbrev pub AreCovered : List Extent → ℕ → ℕ → Type 0
AreCovered ranges at n = (a : ℕ) → at ≤ a → a < at + n → (r : Extent) × Contains ranges r × (r.start ≤ a)
    × (a < r.start + r.len)

-- the ranges stand in ascending order of their starts
abbrev pub Ascend : List Extent → Type 0
Ascend [] = Unit {0}
Ascend (r ∷ []) = Unit {0}
Ascend (r ∷ s ∷ rs) = (r.start ≤ s.start) × Ascend (s ∷ rs)

-- the file with the revisions stays within 2^48 bytes when the ranges are written
abbrev pub HasRoom : Option Committed → List Extent → Type 0
HasRoom None ranges = Unit {0}
HasRoom (Some c) ranges = (pages : List ℕ) → ArePages (OrMetByOne c.page c.written ranges) pages
    → c.committed_end + c.page * length pages ≤ 2 ^ 48

-- A write or a raise may be done.
pub record IsReady (v : SpaceView) (at n : ℕ) : Type 0 where
  pub writable : IsTrue v.writable
  pub covered : AreCovered v.prepared at n
  pub room : HasRoom v.committed v.prepared

-- ---- what calls leave

-- the pages that a range meets are written from now on, and nothing else changes of what is committed
pub record Writes (at n : ℕ) (old new : Committed) : Type 0 where
  pub pages : ArePages (OrMet old.page old.written at n) new.written
  pub others : new ≡ record old { written = new.written }

abbrev pub TellsWritten : ℕ → ℕ → Option Committed → Option Committed → Type 0
TellsWritten at n None new = new ≡ None
TellsWritten at n (Some old) None = ⊥
TellsWritten at n (Some old) (Some new) = Writes at n old new

-- regions, whether it can be written and whether it has revisions never change
pub record SameKind (old new : SpaceView) : Type 0 where
  pub regions : new.regions ≡ old.regions
  pub writable : new.writable ≡ old.writable
  pub revisions : (new.committed ≡ None) ↔ (old.committed ≡ None)

-- these bytes were written from `at` on, and no revision changed
pub record Wrote (at : ℕ) (bytes : List ℕ) (old new : SpaceView) : Type 0 where
  pub array : new.array ≡ over old.array at bytes
  pub history : new.history ≡ old.history

-- A write that was done leaves this: the bytes, where they are told, and how far the space with revisions has grown.
pub record IsWritten (tells : Bool) (at : ℕ) (bytes : List ℕ) (old new : SpaceView) : Type 0 where
  pub wrote : IsTrue tells → Wrote at bytes old new
  pub pages : TellsWritten at (length bytes) old.committed new.committed
  pub ends : new.ends ≡ old.ends
  pub prepared : new.prepared ≡ old.prepared

abbrev pub same_region : Region → Region → Bool
same_region r s = r.start == s.start && r.limit == s.limit

-- the ends after the end of a class was raised: classes of one region have one end
abbrev pub raised : (MemClass → Region) → Ends → MemClass → ℕ → Ends
raised regions ends class end = λ d. if same_region (regions d) (regions class) then end else ends d

-- the new bytes below an end that was raised
abbrev pub new_bytes : Ends → MemClass → ℕ → List ℕ
new_bytes ends class end = replicate (end - ends class) 0

-- a raise that was done
pub record IsRaised (tells : Bool) (class : MemClass) (end : ℕ) (old new : SpaceView) : Type 0 where
  pub wrote : IsTrue tells → Wrote (old.ends class) (new_bytes old.ends class end) old new
  pub pages : TellsWritten (old.ends class) (end - old.ends class) old.committed new.committed
  pub ends : new.ends ≡ raised old.regions old.ends class end
  pub prepared : new.prepared ≡ old.prepared

-- What a raise leaves of the ends, whatever it answers: each lies between the one before and the one asked for.
pub record RaisedInPart (regions : MemClass → Region) (old : Ends) (class : MemClass) (end : ℕ) (new : Ends) : Type 0
  where
    pub low : (c : MemClass) → old c ≤ new c
    pub high : (c : MemClass) → new c ≤ raised regions old class end c

-- each range that was given before, and is asked for again, stays given
abbrev pub StaysGiven : List Extent → SpaceView → SpaceView → Type 0
StaysGiven asked old new = (r : Extent) → Contains old.prepared r → Contains asked r → Contains new.prepared r

-- ---- causes

-- Each fault comes only where one of its own counts rose, and no fault is passed over: where none is answered, all of
-- these counts are as they were.
pub record HasCauses {T : Type 0} (before now copy_before copy_now : Counts) (result : Result T WriteStop) : Type 0
  where
    pub failed : IsErrOf result stop.Failed → OneRose before now
    pub copy_failed : IsErrOf result stop.WoFailed → OneRose copy_before copy_now
    pub calm : ¬ IsErrOf result stop.Failed → now ≡ before
    pub copy_calm : ¬ IsErrOf result stop.WoFailed → copy_now ≡ copy_before

pub record CommitCauses {T : Type 0} (before now copy_before copy_now : Counts) (result : Result T CommitStop) : Type 0
  where
    pub failed : IsErrOf result commit_stop.Failed → OneRose before now
    pub copy_failed : IsErrOf result commit_stop.WoFailed → OneRose copy_before copy_now
    pub calm : ¬ IsErrOf result commit_stop.Failed → now ≡ before
    pub copy_calm : ¬ IsErrOf result commit_stop.WoFailed → copy_now ≡ copy_before

-- ---- commits

-- A commit passes a limit: 65,535 revisions, or 2^48 bytes, when the ranges are written before it.
pub data PassesLimit (c : Committed) (ranges : List Extent) (comment : List ℕ) : Type 0 where
  Count : 65536 ≤ c.count → PassesLimit c ranges comment
  Bytes : (written recorded : List ℕ) → ArePages (OrMetByOne c.page c.written ranges) written
      → ArePages (OfEither c.recorded written) recorded
      → 2 ^ 48 < end_after c (length written) (length recorded) (length comment) → PassesLimit c ranges comment

-- Why a commit after writes in the ranges is refused: the first reason in this order, or none.
abbrev pub IsRefusal : Option Committed → List Extent → List ℕ → ℤ → Option CommitAnswer → Type 0
IsRefusal None ranges comment secs refusal = refusal ≡ Some answer.NoOnion
IsRefusal (Some c) ranges comment secs refusal =
    (PassesLimit c ranges comment × (refusal ≡ Some answer.Limit))
    ⊎ ((¬ PassesLimit c ranges comment) × (¬ HasTime secs) × (refusal ≡ Some answer.Clock))
    ⊎ ((¬ PassesLimit c ranges comment) × HasTime secs × (refusal ≡ None))

-- what a commit that is done leaves: one more revision, and no range given
pub record Committing (tells : Bool) (comment : List ℕ) (secs : ℤ) (rev pages : ℕ) (old new : SpaceView) : Type 0 where
  pub before : Committed
  pub after : Committed
  pub had : old.committed ≡ Some before
  pub commits : Commits before comment rev pages after
  pub appends : IsTrue tells → Appends old.history before.page old.regions old.ends old.array comment secs
      after.recorded new.history
  pub array : IsTrue tells → new.array ≡ old.array
  pub others : new ≡ record old { array = new.array; prepared = []; committed = Some after; history = new.history }

-- the answer of a commit, and what it leaves
abbrev pub IsCommitted : Bool → List ℕ → ℤ → SpaceView → SpaceView → CommitAnswer → Type 0
IsCommitted tells comment secs old new (answer.Done rev pages) = IsRefusal old.committed [] comment secs None
    × Committing tells comment secs rev pages old new
IsCommitted tells comment secs old new a = IsRefusal old.committed [] comment secs (Some a) × (new ≡ old)

-- ---- stops

-- the lists of revisions that the snapshots of a moment leave, by a test of the moment and a list
abbrev pub Lists : Type 1
Lists = ℕ → List Stored → Type 0

-- Time goes on: what the snapshots of a moment leave was left by those of that moment before, unless the moment came
-- since the call began.
abbrev pub Continue : ℕ → Lists → Lists → Type 0
Continue began old new = (m : ℕ) (list : List Stored) → new m list → old m list ⊎ (began ≤ m)

-- Every snapshot since a moment leaves a list that is told of.
abbrev pub LeaveOnly : ℕ → (List Stored → Type 0) → Lists → Type 0
LeaveOnly began Told new = (m : ℕ) (list : List Stored) → began ≤ m → new m list → Told list

-- A call that commits nothing, over snapshots: those of earlier moments leave what they left, and all since the call
-- began leave just these revisions.
pub record LeavesSame (began : ℕ) (revisions : List Stored) (old new : Lists) : Type 0 where
  pub goes : Continue began old new
  pub only : LeaveOnly began (λ list. list ≡ revisions) new

-- the list as it was, or with the revision that the commit makes, where it isn't refused
pub data MayBeMade (comment : List ℕ) (secs : ℤ) (v : SpaceView) (list : List Stored) : Type 0 where
  Same : list ≡ v.history.revisions → MayBeMade comment secs v list
  More : (before : Committed) (pages : List ℕ) (made : History) → v.committed ≡ Some before
      → IsRefusal v.committed [] comment secs None
      → ArePages (OfEither before.recorded before.written) pages
      → Appends v.history before.page v.regions v.ends v.array comment secs pages made → list ≡ made.revisions
      → MayBeMade comment secs v list
