-- The line that flushes behind a first group is done.
use Rattle.std.proofs.Common.{◌≡◌, ℕ, zero, suc, ◌+◌, ◌<◌, ◌≤◌, Bool, true, false, ◌&&◌, List, [], ◌∷◌, ◌++◌}
use Rattle.std.proofs.Common.{refl, sym, ◌∙◌, ap, subst, inl, ⊎_elim, lit≤, lit<, arith}
use Rattle.std.specs.Prelude.{nat_le, nat_lt, slice_index, ◌-◌, if◌then◌else◌}
use Rattle.std.specs.List.{Contains}
use Rattle.std.specs.Int.{w64, to_le_bytes}
use Rattle.std.proofs.lemmas.Bool.{cases_lt, le-ltb}
use Rattle.h5_base.specs.declared.extent.Extent.{Extent}
use Rattle.h5_base.specs.declared.extent.MemClass.TheVariants as class
use Rattle.h5_base.specs.Fields.{u16_at, u32_at, u64_at}
use Rattle.empty_file.specs.Empty.{zeros}
use Rattle.outside.specs.Blocks.{Block, Agree, AreKept}
use Rattle.outside.specs.Revisions.{IsLogicalEnd}
use Rattle.block_space.specs.declared.plan.Take.{Take}
use Rattle.super_codec.specs.Super.{Spells}
use Rattle.object_model.specs.declared.command.Command.TheVariants as command
use Rattle.object_model.specs.declared.answer.Answer.TheVariants as answer
use Rattle.object_model.specs.Step.{Gives}
use Rattle.object_model.specs.Tree.{Group}
use Rattle.file_model.specs.Holds.{HoldsFull, ks_of, blocks_of, super_bytes_of}
use Rattle.file_model.specs.Laws.{one_region}
use Rattle.file_model.proofs.FrameLemmas.{frame}
use Rattle.session_model.specs.EndFields.{number_at, OfSuper}
use Rattle.session_model.specs.State.{Plan, IsOver, IsUnder, Goes, IsTouched, InTaken, Blocks, Segment, Revisions}
use Rattle.session_model.specs.State.{Revision}
use Rattle.session_model.specs.Line.{Done, Does, SameBeside}
use Rattle.session_model.specs.GroupFile.{group_file, group_bytes, group_state, group_root, new_root, group_links}
use Rattle.session_model.specs.GroupFile.{empty_super, flushed_super, flushed_bytes, flushed_state, one_group}
use Rattle.session_model.specs.Examples.{plain_file, FlushLine}
use Rattle.session_model.proofs.GroupFile.{group_full}
use Rattle.session_model.proofs.RunLemmas.{right_end}

super_is : Spells flushed_super (super_bytes_of flushed_bytes (one_region 1832))
unfolding flushed_super empty_super group_file zeros u16_at u32_at u64_at
super_is = record {
  block = record {
    signed = refl;
    version = lit≤ tt;
    whole = lit≤ tt;
    free_space_version = refl;
    root_version = refl;
    shared_version = refl;
    offsets = refl;
    lengths = refl;
    base = refl;
    leaf_k = (lit≤ tt, lit≤ tt);
    internal_k = (lit≤ tt, lit≤ tt);
    chunk_k = (lit≤ tt, lit≤ tt);
  };
  value = refl;
}

-- a write leaves what lies outside it
written : Bool → ℕ → ℕ → ℕ
written t x y = if t then x else y

above : (b : Bool) (x y : ℕ) → written (b && false) x y ≡ y
unfolding written
above true x y = refl
above false x y = refl

behind : (a : ℕ) → 48 ≤ a → flushed_bytes a ≡ group_bytes a
unfolding written
behind a high =
    let out : nat_lt a 48 ≡ false = le-ltb a 48 high in
    ap (λ t. written (nat_le 40 a && t) (slice_index (to_le_bytes w64 1832) (a - 40)) (group_bytes a)) out
    ∙ above (nat_le 40 a) (slice_index (to_le_bytes w64 1832) (a - 40)) (group_bytes a)

before : (a : ℕ) → a < 40 → flushed_bytes a ≡ group_bytes a
unfolding written
before a low =
    let out : nat_le 40 a ≡ false = le-ltb 39 a (omega (arith, low)) in
    ap (λ t. written (t && nat_lt a 48) (slice_index (to_le_bytes w64 1832) (a - 40)) (group_bytes a)) out

-- the blocks of all objects lie behind the end field
objects_stay : Agree group_bytes flushed_bytes (blocks_of (Group group_root group_links))
unfolding group_root new_root
objects_stay = (
  stay 96 40 (lit≤ tt),
  (
    stay 680 32 (lit≤ tt),
    (
      stay 712 88 (lit≤ tt),
      (
        stay 136 544 (lit≤ tt),
        (
          stay 1504 328 (lit≤ tt),
          (stay 800 40 (lit≤ tt), (stay 1384 32 (lit≤ tt), (stay 1416 88 (lit≤ tt), (stay 840 544 (lit≤ tt), tt)))),
        ),
      ),
    ),
  ),
)
  where
    stay : (start len : ℕ) → 48 ≤ start → (a : ℕ) → start ≤ a → a < start + len → group_bytes a ≡ flushed_bytes a
    stay start len far a low high = sym (behind a (omega (arith, far, low)))

pub flushed_full : HoldsFull flushed_bytes (one_region 1832) flushed_super group_root group_links
unfolding flushed_super empty_super
flushed_full = record {
  super = super_is;
  driver = [];
  driver_is = refl;
  root = group_full.root;
  held =
      frame group_bytes flushed_bytes (ks_of empty_super) (Group group_root group_links) objects_stay group_full.held;
  kept = subst (λ (ds : List Block). AreKept (one_region 1832)
      (record { start = 0; len = 96 } ∷ ds ++ blocks_of (Group group_root group_links)))
      group_full.driver_is group_full.kept;
}

-- ---- the plan

abbrev pub field : Extent
field = record { start = 40; len = 8; fits = lit< tt }

abbrev pub one : List Extent
one = field ∷ []

none : (n : ℕ) → suc n < 1 → ⊥
none n h = omega (arith, h)

pub is_one : (r : Extent) → Contains one r → field ≡ r
is_one r (zero, low, is) = is
is_one r (suc k, low, is) = absurd (none k low)

pub some : (r : Extent) → Contains one r → 0 < r.len
some r has = subst (λ (x : Extent). 0 < x.len) (is_one r has) (lit< tt)

in_it : (a : ℕ) → 40 ≤ a → a < 48 → IsTouched one a
in_it a low high = (field, (0, lit< tt, refl), low, high)

pub of_field : (a : ℕ) → IsTouched one a → (40 ≤ a) × (a < 48)
of_field a (r, has, low, high) =
    subst (λ (x : Extent). (x.start ≤ a) × (a < x.start + x.len)) (sym (is_one r has)) (low, high)

-- nothing is taken
pub nothing : (a : ℕ) → InTaken plain_file (λ c. 1832) [] a → ⊥
nothing a x = let low : 1832 ≤ a = x.behind in let high : a < 1832 = x.before in omega (arith, low, high)

-- the end field tells 800, which isn't the end
pub wrong : IsLogicalEnd plain_file.regions (λ c. 1832) (number_at group_bytes 40) → ⊥
unfolding group_file u64_at
wrong h = let g : 1832 ≤ 800 = h.above class.Super (lit< tt) in omega (arith, g)

plan : Plan plain_file group_state command.Flush
unfolding empty_super
plan = record {
  takes = [];
  are = refl;
  ranges = one;
  touched = record {
    some = some;
    reached = λ a hit. inl (inl (of_field a hit));
    taken = λ a x. absurd (nothing a x);
  };
  spares = λ a hit. OfSuper (of_field a hit) wrong;
}

pub no_block : (x : Take) → Contains [] x → ⊥
no_block x has = omega (arith, has.1)

under : IsUnder plain_file group_state command.Flush plan
unfolding plan
under = record { asked = λ h. h; planned = over_none }
  where
    over_none : IsOver plain_file group_state command.Flush plan → ⊥
    over_none (Blocks h) = let g : 1048576 < 10 = h in omega (arith, g)
    over_none (Segment x has local h) = no_block x has
    over_none (Revisions writes h) = h tt
    over_none (Revision h) = absurd h

goes : Goes plain_file group_state command.Flush plan one_group (Gives answer.Done)
unfolding plan
goes = record { steps = refl; under = under; fits = record { few = lit≤ tt; below = λ c. lit≤ tt } }

pub stays : SameBeside one group_bytes flushed_bytes
stays a out =
    ⊎_elim (before a) (λ low. ⊎_elim (λ high. absurd (out (in_it a low high))) (behind a) (cases_lt a 48))
    (cases_lt a 40)

version_is : empty_super.version ≡ 0
unfolding empty_super
version_is = refl

does : Does plain_file group_state command.Flush plan one_group flushed_state
unfolding plan
does = record {
  tree = refl;
  held = flushed_full;
  ends = refl;
  built = record { built = []; are = tt; apart = tt };
  stays = stays;
  flushed = right_end empty_super version_is;
  blocks = refl;
  pages = refl;
  history = refl;
  edited = refl;
}

pub flush_line : FlushLine
flush_line secs = Done one_group plan goes does
