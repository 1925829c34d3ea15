-- How a line is answered, and which state it leads to.
-- Cited by a session's step, and by the run of a script.
use Rattle.std.specs.Prelude.{◌≡◌, ℕ, ◌+◌, ◌≤◌, Bool, true, false, ◌||◌, MatchBool, ℤ, List, length, Option, Some, None}
use Rattle.std.specs.Prelude.{Ok, Err}
use Rattle.std.specs.List.{Contains, AllZip}
use Rattle.h5_base.specs.declared.extent.Extent.{Extent}
use Rattle.outside.specs.Array.{Array, Ends}
use Rattle.outside.specs.Blocks.{Block, AllApart}
use Rattle.outside.specs.Moments.{HasTime}
use Rattle.outside.specs.Revisions.{Committed, Commits, Appends}
use Rattle.block_space.specs.Catalogue.{blocks_of as ranges_of}
use Rattle.block_space.specs.Plans.{rounded, IsNoRoom}
use Rattle.block_space.specs.Written.{TellsAllWritten}
use Rattle.block_space.specs.declared.plan.ReserveStop.TheVariants as stop
use Rattle.block_space.specs.declared.plan.Take.{Take}
use Rattle.object_model.specs.declared.command.Command.{Command}
use Rattle.object_model.specs.declared.command.Command.TheVariants as command
use Rattle.object_model.specs.declared.answer.Answer.{Answer}
use Rattle.object_model.specs.declared.answer.Answer.TheVariants as answer
use Rattle.object_model.specs.declared.answer.Code.{Code}
use Rattle.object_model.specs.declared.answer.Code.TheVariants as code
use Rattle.object_model.specs.Step.{Plain, Reply, Gives, step}
use Rattle.object_model.specs.Step.Reply.{Commits as MakesRevision}
use Rattle.file_model.specs.Holds.{HoldsFull}
use Rattle.session_model.specs.EndFields.{HasEndFields}
use Rattle.session_model.specs.TooLarge.{IsTooLarge}
use Rattle.session_model.specs.State.{Setting, State, Plan, IsOver, IsUnder, Goes, IsHeld, IsTouched, IsUnwritten}
use Rattle.session_model.specs.State.{full_of, tree_of, view_of, blocks_of, bounds, stack_of, needs_of, risen}

-- the lines that edit
abbrev pub is_edit : Command → Bool
is_edit (command.Mkgroup p) = true
is_edit (command.Mkdata p elem dims chunk max fill) = true
is_edit (command.Write p start count values) = true
is_edit (command.Extend p dims) = true
is_edit (command.Rm p) = true
is_edit c = false

-- the answers of lines that are done
abbrev pub is_done : Answer → Bool
is_done (answer.Full end need) = false
is_done (answer.No why) = false
is_done a = true

-- ---- a line that is done

-- A block that was taken is this block of the new tree, behind the old end of its region.
pub record IsBuilt (k : Setting) (ends : Ends) (ts : List Take) (blocks : List Block) (x : Take)
    (y : Block) : Type 0 where
  pub one : Contains blocks y
  pub len : rounded y.len ≡ rounded x.len
  pub behind : ends x.class ≤ y.start
  pub before : y.start + rounded x.len ≤ risen k ends ts x.class

-- Each block that was taken is a block of the new tree, and no address lies in two.
pub record AreBuilt (k : Setting) (ends : Ends) (ts : List Take) (blocks : List Block) : Type 0 where
  pub built : List Block
  pub are : AllZip (IsBuilt k ends ts blocks) ts built
  pub apart : AllApart built

-- bytes outside the ranges stay
abbrev pub SameBeside : List Extent → Array → Array → Type 0
SameBeside ranges old new = (a : ℕ) → ¬ IsTouched ranges a → new a ≡ old a

-- after a flush the end fields are right
abbrev pub IsFlushed : Command → (right : Type 0) → Type 0
IsFlushed command.Flush right = right
IsFlushed c right = Unit {0}

-- The new bytes and ends hold the new tree, each taken block is one of its blocks, and what isn't touched stays.
pub record Does (k : Setting) (s : State) (c : Command) (p : Plan k s c) (t : Plain) (new : State) : Type 0 where
  pub tree : tree_of new ≡ t
  pub held : IsHeld k new
  pub ends : new.ends ≡ risen k s.ends p.takes
  pub built : AreBuilt k s.ends p.takes (blocks_of k new held)
  pub stays : SameBeside p.ranges s.array new.array
  pub flushed : IsFlushed c (HasEndFields k.regions k.own s.super s.ends new.array)
  pub blocks : new.blocks ≡ s.blocks + length p.takes
  pub pages : TellsAllWritten (ranges_of p.ranges) s.committed new.committed
  pub history : new.history ≡ s.history
  pub edited : new.edited ≡ (s.edited || is_edit c)

-- ---- a commit

-- The end fields are written where anything was since the last commit; then one more revision is there, which holds the
-- tree with its own ends. The state keeps its ends and its tree.
pub record MakesOne (k : Setting) (s : State) (c : Command) (p : Plan k s c) (t : Plain) (comment : List ℕ) (secs : ℤ)
    (rev pages : ℕ) (new : State) : Type 0 where
  pub fields : ¬ IsUnwritten s.committed → HasEndFields k.regions k.own s.super s.ends new.array
  pub stays : SameBeside p.ranges s.array new.array
  pub between : Committed
  pub written : TellsAllWritten (ranges_of p.ranges) s.committed (Some between)
  pub after : Committed
  pub commits : Commits between comment rev pages after
  pub appends : Appends s.history between.page k.regions s.ends new.array comment secs after.recorded new.history
  pub others : new ≡ record s {
    array = new.array;
    committed = Some after;
    history = new.history;
    super = new.super;
  }
  pub tree : tree_of new ≡ t
  pub held : IsHeld k new
  pub held_again : HoldsFull new.array (bounds k appends.revision.ends) new.super new.root new.links

-- ---- a line

-- The answer of a line and the state after it: the first refusal in the command's order, with the state as it was; else
-- what the tree answers, or the revision made.
pub data Line (k : Setting) (s : State) (c : Command) (secs : ℤ) (new : State) (a : Answer) : Type 0 where
  Refused : (why : Code) → step (stack_of k s) (tree_of s) c ≡ Err why → a ≡ answer.No why → new ≡ s
      → Line k s c secs new a
  TooLarge : (t : Plain) (r : Reply) → step (stack_of k s) (tree_of s) c ≡ Ok (t, r) → IsTooLarge (full_of s) c
      → a ≡ answer.No code.Limit → new ≡ s → Line k s c secs new a
  Over : (t : Plain) (r : Reply) (p : Plan k s c) → step (stack_of k s) (tree_of s) c ≡ Ok (t, r) → IsOver k s c p
      → a ≡ answer.No code.Limit → new ≡ s → Line k s c secs new a
  Full : (t : Plain) (r : Reply) (p : Plan k s c) (end need : ℕ) → step (stack_of k s) (tree_of s) c ≡ Ok (t, r)
      → IsUnder k s c p → IsNoRoom (view_of k s) s.blocks (needs_of p.takes) (stop.Full end need)
      → a ≡ answer.Full end need → new ≡ s → Line k s c secs new a
  Done : (t : Plain) (p : Plan k s c) → Goes k s c p t (Gives a) → Does k s c p t new → Line k s c secs new a
  NoTime : (t : Plain) (comment : List ℕ) (p : Plan k s c) → Goes k s c p t (MakesRevision comment) → ¬ HasTime secs
      → a ≡ answer.No code.Clock → new ≡ s → Line k s c secs new a
  Makes : (t : Plain) (comment : List ℕ) (p : Plan k s c) (rev pages : ℕ) → Goes k s c p t (MakesRevision comment)
      → HasTime secs → MakesOne k s c p t comment secs rev pages new → a ≡ answer.Committed rev pages
      → Line k s c secs new a

-- a line that isn't answered by the tree leaves the state
abbrev pub RefusedAs : Answer → State → State → Answer → Type 0
RefusedAs refusal s new a = (a ≡ refusal) × (new ≡ s)

-- A line of a script: one that spells no command, one whose command isn't given yet, or any other.
abbrev pub Answered : (given : Command → Bool) → Setting → State → Option Command → ℤ → State → Answer → Type 0
Answered given k s None secs new a = RefusedAs (answer.No code.BadLine) s new a
Answered given k s (Some c) secs new a =
    MatchBool (given c) (Line k s c secs new a) (RefusedAs (answer.No code.NotBuilt) s new a)
