-- `run plain=F`: what the run of a script over a file leaves and prints, by how it ends.
-- Cited by `run`, and by the run over any space.
use Rattle.std.specs.Prelude.{◌≡◌, ◌⊎◌, ℕ, ◌+◌, ◌^◌, Bool, IsTrue, List, [], length}
use Rattle.outside.specs.Array.{Array}
use Rattle.outside.specs.Blocks.{Bounds}
use Rattle.outside.specs.Files.{RestsAt}
use Rattle.outside.specs.Store.{GoesOver}
use Rattle.super_codec.specs.declared.superblock.Superblock.{Superblock}
use Rattle.object_model.specs.Tree.{Group}
use Rattle.object_model.specs.Step.{Plain}
use Rattle.file_model.specs.Holds.{GroupAt, FullLinks, HoldsFull, plain}
use Rattle.file_model.specs.Limits.{IsWithinLimits}
use Rattle.file_model.specs.Laws.{all_blocks}
use Rattle.file_model.specs.RefusedTree.{IsFileRefused}
use Rattle.script_run.specs.Run.{IsAnswered, IsStopped, IsInPart}
use Rattle.script_run.specs.declared.stop.Ended.{Ended}
use Rattle.script_run.specs.declared.stop.Ended.TheVariants as ended
use Rattle.h5stack_core.specs.Stores.{Telling, Moment, SameFiles}
use Rattle.h5_base.specs.declared.refusal.Refusal.{Refusal}
use Rattle.h5stack_core.specs.declared.ending.Ending.{Ending}
use Rattle.h5stack_core.specs.declared.ending.Ending.TheVariants.{Done, SomeNot, Words, Store, Refused, Input, Output}
use Rattle.h5stack_core.specs.declared.ending.Ending.TheVariants.{Memory, ScriptMemory, Limit}

-- ---- files that are opened, and files that are refused

-- The bytes and ends hold this tree, within the limits of what is opened.
pub record HoldsWithin (b : Array) (e : Bounds) (t : Plain) : Type 0 where
  pub superblock : Superblock
  pub root : GroupAt
  pub links : FullLinks
  pub full : HoldsFull b e superblock root links
  pub within : IsWithinLimits b (all_blocks superblock full.driver (Group root links)) (Group root links)
  pub tree : t ≡ plain (Group root links)

-- the bytes show this refusal when their tree is read
abbrev pub IsRefusedTree : Array → Bounds → Refusal → Type 0
IsRefusedTree b e reason = IsFileRefused b e reason

-- ---- what is read and printed

-- The script's bytes, those that weren't taken in the end, and what stands on the output before and after, each where
-- it is told.
pub record Transcript : Type 0 where
  -- the source tells the script, the output what is written
  pub reads : Bool
  pub prints : Bool
  pub script : List ℕ
  pub left : List ℕ
  pub old : List ℕ
  pub new : List ℕ

abbrev pub is_all : Ended → Ending
is_all ended.AllDone = Done
is_all ended.SomeNot = SomeNot

-- The whole script was read, and each line is answered by the opened tree. It ends as done exactly where each line was.
pub record Ran (Opens : Plain → Type 0) (x : Transcript) (ending : Ending) : Type 0 where
  pub tree : Plain
  pub opens : Opens tree
  pub ended : Ended
  pub ending_is : ending ≡ is_all ended
  pub answered : IsTrue x.reads → IsAnswered x.prints tree x.script ended x.old x.new
  pub read : IsTrue x.reads → x.left ≡ []

-- Just the lines whose LF was taken are answered.
pub record Stopped (Opens : Plain → Type 0) (x : Transcript) : Type 0 where
  pub tree : Plain
  pub opens : Opens tree
  pub answered : IsTrue x.reads → IsStopped x.prints tree x.script x.left x.old x.new

-- Some first lines are answered, the last of them perhaps in part.
pub record CutShort (Opens : Plain → Type 0) (x : Transcript) : Type 0 where
  pub tree : Plain
  pub opens : Opens tree
  pub answered : IsTrue x.reads → IsInPart x.prints tree x.script x.old x.new

-- nothing is read or printed
pub record IsUntouched (x : Transcript) : Type 0 where
  pub unread : x.left ≡ x.script
  pub silent : IsTrue x.prints → x.new ≡ x.old

-- so many bytes of the script were taken
abbrev pub IsFull : Transcript → Type 0
IsFull x = length x.script ≡ 2 ^ 32 + length x.left

-- What a run reads and prints, by how it ends. `Opens` says which tree is opened, `IsRefused` which refusals the file
-- shows.
abbrev pub Answers : (Opens : Plain → Type 0) (IsRefused : Refusal → Type 0) → Transcript → Ending → Type 0
Answers Opens IsRefused x Done = Ran Opens x Done
Answers Opens IsRefused x SomeNot = Ran Opens x SomeNot
Answers Opens IsRefused x (Words fault) = ⊥
Answers Opens IsRefused x Store = IsUntouched x ⊎ CutShort Opens x
Answers Opens IsRefused x (Refused reason) = IsRefused reason
Answers Opens IsRefused x Input = Stopped Opens x
Answers Opens IsRefused x Output = CutShort Opens x
Answers Opens IsRefused x Memory = Unit {0}
Answers Opens IsRefused x ScriptMemory = CutShort Opens x
Answers Opens IsRefused x Limit = Stopped Opens x × (IsTrue x.reads → IsFull x)

-- the answers to the lines of a script over a tree
abbrev pub TreeAnswers : Plain → Transcript → Ending → Type 0
TreeAnswers t x ending = Answers (λ u. u ≡ t) (λ reason. ⊥) x ending

-- the run of a script over an opened tree ends so
abbrev pub IsOfScript : Ending → Type 0
IsOfScript Done = Unit {0}
IsOfScript SomeNot = Unit {0}
IsOfScript (Words fault) = ⊥
IsOfScript Store = ⊥
IsOfScript (Refused reason) = ⊥
IsOfScript Input = Unit {0}
IsOfScript Output = Unit {0}
IsOfScript Memory = ⊥
IsOfScript ScriptMemory = Unit {0}
IsOfScript Limit = Unit {0}

-- where a run closed its file: `Lasts` says that it lasts
abbrev pub IfClosed : Ending → Type 0 → Type 0
IfClosed Done Lasts = Lasts
IfClosed SomeNot Lasts = Lasts
IfClosed (Words fault) Lasts = Unit {0}
IfClosed Store Lasts = Unit {0}
IfClosed (Refused reason) Lasts = Unit {0}
IfClosed Input Lasts = Lasts
IfClosed Output Lasts = Lasts
IfClosed Memory Lasts = Unit {0}
IfClosed ScriptMemory Lasts = Lasts
IfClosed Limit Lasts = Lasts

-- ---- the run over a file

-- No file changes, and no stop leaves of another file what it couldn't leave before. Where the run closed the file, or
-- where it lasted before, over an honest store each stop leaves its bytes.
pub record Runs (tells : Telling) (file : List ℕ) (before after : Moment) (Opens : Plain → Type 0)
    (IsRefused : Refusal → Type 0) (x : Transcript) (ending : Ending) : Type 0 where
  pub same : SameFiles tells.files before.view after.view
  pub images : IsTrue tells.images → GoesOver (λ q. q ≡ file) before.leaves after.leaves before.past after.past
  pub lasts : IsTrue tells.files → IsTrue tells.images → IsTrue before.view.honest
      → IfClosed ending (RestsAt file (before.view.files file) after.leaves)
  pub rested : IsTrue tells.files → IsTrue tells.images → IsTrue before.view.honest
      → RestsAt file (before.view.files file) before.leaves → RestsAt file (before.view.files file) after.leaves
  pub answers : IsTrue tells.files → Answers Opens IsRefused x ending
