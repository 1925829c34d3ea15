-- Laws of the end field: it lies in the superblock, what is held stays held where it is written, and which plan a flush
-- and a commit have, and what they leave. Each is the clause of a small public function of this crate.
use Rattle.std.specs.Prelude.{◌≡◌, ◌⊎◌, ◌≤◌, ℕ, ℤ, Bool, IsTrue, List, [], ◌∷◌, ◌++◌, Option, Some, None}
use Rattle.h5_base.specs.declared.extent.Extent.{Extent}
use Rattle.h5_base.specs.declared.extent.MemClass.{MemClass}
use Rattle.h5_base.specs.declared.extent.Region.{Region}
use Rattle.outside.specs.Array.{Array, Ends, SameOutside}
use Rattle.outside.specs.Blocks.{Agree, Block, Bounds, most_blocks}
use Rattle.outside.specs.Revisions.{Committed, IsLogicalEnd}
use Rattle.outside.specs.Space.{AreSound, HasRoom, IsSound, SpaceView, bounds_of}
use Rattle.block_space.specs.Plans.{LiesInOne}
use Rattle.super_codec.specs.declared.superblock.Superblock.{Superblock}
use Rattle.object_model.specs.declared.command.Command.{Command}
use Rattle.object_model.specs.declared.command.Command.TheVariants as command
use Rattle.object_model.specs.declared.answer.Answer.TheVariants as answer
use Rattle.object_model.specs.declared.answer.Code.TheVariants as code
use Rattle.object_model.specs.Tree.{Group}
use Rattle.file_model.specs.EditLaws.{end_place}
use Rattle.file_model.specs.Holds.{FullLinks, GroupAt, HoldsFull, blocks_of}
use Rattle.file_model.specs.Laws.{all_blocks}
use Rattle.file_model.specs.Limits.{IsWithinLimits}
use Rattle.session_model.specs.EndFields.{HasEndFields, number_at}
use Rattle.session_model.specs.Line.{Does, Line}
use Rattle.session_model.specs.Runs.{ClosesFile}
use Rattle.session_model.specs.State.{IsHeld, IsToldBy, IsUnwritten, Plan, Setting, State, setting_of, tree_of}
use Rattle.end_fields.specs.Field.{IsTold, PutsEnd, TellsEnd}

-- there is one end to tell
abbrev pub OneEnd : Type 0
OneEnd = (regions : MemClass → Region) (ends : Ends) (m n : ℕ) → IsLogicalEnd regions ends m
    → IsLogicalEnd regions ends n → m ≡ n

-- ---- what is held

-- the end field of a file lies in the block of its superblock
abbrev pub FieldInSuper : Type 0
FieldInSuper = (b : Array) (e : Bounds) (s : Superblock) (g : GroupAt) (ls : FullLinks) (h : HoldsFull b e s g ls)
    → LiesInOne (all_blocks s h.driver (Group g ls)) (end_place s.version) 8

-- so all other blocks stay where it changes
abbrev pub FieldBeside : Type 0
FieldBeside = (b c : Array) (e : Bounds) (s : Superblock) (g : GroupAt) (ls : FullLinks) (h : HoldsFull b e s g ls)
    → SameOutside (end_place s.version) 8 b c → Agree b c (h.driver ++ blocks_of (Group g ls))

-- the superblock with the end that the field of these bytes tells
abbrev pub retold : Superblock → Array → Superblock
retold s b = record s { end_at = number_at b (end_place s.version) }

-- once the field tells the end the file has the same tree in the same places, and the superblock tells that end
abbrev pub EndHeld : Type 0
EndHeld = (v w : SpaceView) (own : Option (List ℕ)) (s : Superblock) (g : GroupAt) (ls : FullLinks)
    → HoldsFull v.array (bounds_of v own) s g ls → TellsEnd s.version v w
    → HoldsFull w.array (bounds_of v own) (retold s w.array) g ls

-- its blocks are the same
abbrev pub BlocksStay : Type 0
BlocksStay = (b c : Array) (e : Bounds) (s : Superblock) (n : ℕ) (g : GroupAt) (ls : FullLinks)
    (h : HoldsFull b e s g ls) (h' : HoldsFull c e (record s { end_at = n }) g ls)
    → SameOutside (end_place s.version) 8 b c
    → all_blocks (record s { end_at = n }) h'.driver (Group g ls) ≡ all_blocks s h.driver (Group g ls)

-- and the tree stays within the limits
abbrev pub LimitsStay : Type 0
LimitsStay = (b c : Array) (e : Bounds) (s : Superblock) (g : GroupAt) (ls : FullLinks) (blocks : List Block)
    → HoldsFull b e s g ls → SameOutside (end_place s.version) 8 b c → IsWithinLimits b blocks (Group g ls)
    → IsWithinLimits c blocks (Group g ls)

-- The end fields are right, where the stack has no kind of driver information block of its own.
abbrev pub FieldsTold : Type 0
FieldsTold = (v w : SpaceView) (s : Superblock) → TellsEnd s.version v w
    → HasEndFields v.regions None s v.ends w.array

-- ---- what a flush and a commit write

-- The ranges that put the field right: none where it tells the end, else the field itself.
pub data ArePut (version : ℕ) (v : SpaceView) (ranges : List Extent) : Type 0 where
  Right : IsTold version v v.array → ranges ≡ [] → ArePut version v ranges
  Wrong : (r : Extent) → ¬ IsTold version v v.array → r.start ≡ end_place version → r.len ≡ 8 → ranges ≡ r ∷ []
      → ArePut version v ranges

-- a plan that takes nothing, and touches just the ranges
pub record IsOfRanges {k : Setting} {s : State} {c : Command} (p : Plan k s c) (ranges : List Extent) : Type 0 where
  pub takes : p.takes ≡ []
  pub ranges_are : p.ranges ≡ ranges

-- a flush has such a plan
abbrev pub FlushPlan : Type 0
FlushPlan = (v : SpaceView) (own : Option (List ℕ)) (s : State) (ranges : List Extent) → IsToldBy v s
    → ArePut s.super.version v ranges → (p : Plan (setting_of v own) s command.Flush) × IsOfRanges p ranges

-- and so has a commit, where pages were written since the last one; else it has one that touches nothing
abbrev pub CommitPlan : Type 0
CommitPlan = (v : SpaceView) (own : Option (List ℕ)) (s : State) (ranges : List Extent) (comment : List ℕ)
    → IsToldBy v s → (ranges ≡ []) ⊎ (ArePut s.super.version v ranges × ¬ IsUnwritten s.committed)
    → (p : Plan (setting_of v own) s (command.Commit comment)) × IsOfRanges p ranges

-- the state with the bytes and pages that a space tells once the field was put right
abbrev pub state_with : State → SpaceView → State
state_with s w = record s { array = w.array; committed = w.committed; super = retold s.super w.array }

-- and it leaves what a flush leaves that is done
abbrev pub FlushDoes : Type 0
FlushDoes = (v w : SpaceView) (s : State) (ranges : List Extent) (p : Plan (setting_of v None) s command.Flush)
    → IsToldBy v s → ((c : Committed) → v.committed ≡ Some c → AreSound c) → IsHeld (setting_of v None) s
    → ArePut s.super.version v ranges → IsOfRanges p ranges → PutsEnd s.super.version v w
    → Does (setting_of v None) s command.Flush p (tree_of s) (state_with s w)

-- What is known before a flush: the space tells the state and may be written, the bytes hold the tree, the blocks
-- aren't too many, and these ranges put the field right.
pub record MayFlush (v : SpaceView) (s : State) (ranges : List Extent) : Type 0 where
  pub told : IsToldBy v s
  pub writable : IsTrue v.writable
  pub held : IsHeld (setting_of v None) s
  pub few : s.blocks ≤ most_blocks
  pub are : ArePut s.super.version v ranges

-- so the line of a script is done, where there is room for the pages
abbrev pub FlushIsDone : Type 0
FlushIsDone = (tells : Bool) (v w : SpaceView) (s : State) (ranges : List Extent) (secs : ℤ) → IsSound tells v
    → MayFlush v s ranges → HasRoom v.committed ranges → PutsEnd s.super.version v w
    → Line (setting_of v None) s command.Flush secs (state_with s w) answer.Done

-- and else it is answered that a limit is passed, with the state as it was
abbrev pub FlushIsOver : Type 0
FlushIsOver = (v : SpaceView) (s : State) (ranges : List Extent) (secs : ℤ) → MayFlush v s ranges
    → ¬ HasRoom v.committed ranges → Line (setting_of v None) s command.Flush secs s (answer.No code.Limit)

-- What the end of a run leaves that edited a file without revisions.
abbrev pub FieldCloses : Type 0
FieldCloses = (v w : SpaceView) (s : State) → IsToldBy v s → IsHeld (setting_of v None) s → IsTrue s.edited
    → w.ends ≡ v.ends → PutsEnd s.super.version v w
    → ClosesFile (setting_of v None) s (record { array = w.array; ends = w.ends; revisions = [] })
