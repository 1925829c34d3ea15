-- A line that only looks at the tree leaves the state, whatever the space.
use Rattle.std.proofs.Common.{◌≡◌, ◌⊎◌, inl, inr, ℕ, ◌+◌, ◌<◌, ◌≤◌, Bool, true, false, cond, List, [], length}
use Rattle.std.proofs.Common.{Ok, Err, Some, None}
use Rattle.std.proofs.Common.{Option, IsTrue, refl, sym, ◌∙◌, ap, subst, arith, ℤ}
use Rattle.std.specs.Prelude.{if◌then◌else◌, ◌||◌}
use Rattle.std.specs.List.{Contains}
use Rattle.std.specs.List.Sorted.{IsStrictlyIncreasing}
use Rattle.std.proofs.Math.Path.{fun_ext}
use Rattle.std.proofs.lemmas.List.Elements.{at_from_Contains}
use Rattle.h5_base.specs.declared.extent.MemClass.{MemClass}
use Rattle.h5_base.specs.declared.extent.MemClass.TheVariants as class
use Rattle.h5_base.specs.declared.extent.Extent.{Extent}
use Rattle.outside.specs.Blocks.{Block, most_blocks}
use Rattle.outside.specs.Revisions.{Committed}
use Rattle.outside.specs.Space.{AreRegions, HasRoom, same_region}
use Rattle.block_space.specs.Plans.{HasRoomFor}
use Rattle.block_space.specs.Written.{TellsAllWritten}
use Rattle.block_space.specs.declared.plan.Take.{Take}
use Rattle.object_model.specs.declared.answer.Answer.{Answer}
use Rattle.object_model.specs.declared.command.Command.{Command}
use Rattle.object_model.specs.Step.{Gives, step}
use Rattle.file_model.specs.Holds.{ks_of}
use Rattle.session_model.specs.Line.{AreBuilt, Does, Done, IsFlushed, Line, is_edit}
use Rattle.session_model.specs.EndFields.{HasEndFields, InWrongField}
use Rattle.session_model.specs.Room.{Takes}
use Rattle.session_model.specs.State.{AreTouched, Blocks, Goes, Revision, Revisions, Segment, InReach, InTaken, IsHeld}
use Rattle.session_model.specs.State.{IsOver, IsRevisionOver, IsUnwritten}
use Rattle.session_model.specs.State.{Plan, Setting, Spares, State, blocks_of, full_of, is_writing, need, needs_of}
use Rattle.session_model.specs.State.{stack_of, tree_of, view_of}
use Rattle.session_model.specs.TooLarge.{IsTooLarge}

-- ---- nothing is taken

abbrev none : ℕ
none = 0

either_none : (b : Bool) → (if b then none else none) ≡ none
either_none true = refl
either_none false = refl

need_none : (k : Setting) (c : MemClass) → need k [] c ≡ 0
need_none k c = omega (
  arith,
  either_none (same_region (k.regions class.Super) (k.regions c)),
  either_none (same_region (k.regions class.Tree) (k.regions c)),
  either_none (same_region (k.regions class.Raw) (k.regions c)),
  either_none (same_region (k.regions class.GlobalHeap) (k.regions c)),
  either_none (same_region (k.regions class.LocalHeap) (k.regions c)),
  either_none (same_region (k.regions class.Header) (k.regions c)),
)

no_member : {A : Type 0} (x : A) → Contains [] x → ⊥
no_member x has = omega (arith, (at_from_Contains [] x has).1)

or_none : (b : Bool) → (b || false) ≡ b
or_none true = refl
or_none false = refl

-- ---- a line that only looks

-- The line writes nothing, takes nothing and asks for nothing large.
pub record IsLook (k : Setting) (s : State) (c : Command) : Type 0 where
  pub takes : Takes s.array (ks_of s.super) (full_of s) c []
  pub small : ¬ IsTooLarge (full_of s) c
  pub quiet : ¬ IsTrue (is_writing c)
  pub edits : is_edit c ≡ false
  pub spares : Spares c (InWrongField k.regions k.own s.super s.ends s.array) (IsUnwritten s.committed) []
  pub flushed : IsFlushed c (HasEndFields k.regions k.own s.super s.ends s.array)
  pub keeps : ¬ IsRevisionOver s.committed [] c

-- the pages that are written ascend
abbrev pub HasPages : Option Committed → Type 0
HasPages None = Unit {0}
HasPages (Some m) = IsStrictlyIncreasing m.written

same_pages : (m : Option Committed) → HasPages m → TellsAllWritten [] m m
same_pages None sound = refl
same_pages (Some m) sound = record {
  pages = record {
    ordered = sound;
    each = λ p. (
      λ has. inl has,
      λ h. elim h [
        | inl has ↦ has
        | inr met ↦ absurd (no_member met.0 met.1)
      ],
    );
  };
  others = refl;
}

module _ (k : Setting) (s : State) (c : Command) (look : IsLook k s c) (held : IsHeld k s)
    (regions : AreRegions k.regions s.ends) (few : s.blocks ≤ most_blocks)
    (pages : HasPages s.committed) where
  plan : Plan k s c
  plan = record {
    takes = [];
    are = look.takes;
    ranges = [];
    touched = record {
      some = λ r has. absurd (no_member r has);
      reached = λ a h. absurd (no_member h.0 h.1);
      taken = λ a h. absurd (omega (arith, h.behind, h.before, need_none k h.class));
    };
    spares = look.spares;
  }

  over : ¬ IsOver k s c plan
  unfolding plan
  over (Blocks many) = omega (arith, few, many)
  over (Segment x has is long) = no_member x has
  over (Revisions writes lacks) = look.quiet writes
  over (Revision h) = look.keeps h

  pub looks : (a : Answer) (secs : ℤ) → step (stack_of k s) (tree_of s) c ≡ Ok (tree_of s, Gives a)
      → Line k s c secs s a
  unfolding plan
  looks a secs steps = Done (tree_of s) plan (record {
    steps = steps;
    under = record { asked = look.small; planned = over };
    fits = record {
      few = omega (arith, few);
      below = λ x. omega (arith, regions.high x, need_none k x);
    };
  }) (record {
    tree = refl;
    held = held;
    ends = fun_ext (λ x. omega (arith, need_none k x));
    built = record { built = []; are = tt; apart = tt };
    stays = λ a out. refl;
    flushed = look.flushed;
    blocks = omega arith;
    pages = same_pages s.committed pages;
    history = refl;
    edited = sym (ap (λ (b : Bool). s.edited || b) look.edits ∙ or_none s.edited);
  })
