-- The line that commits behind a first group is done.
use Rattle.std.proofs.Common.{◌≡◌, ℕ, zero, suc, ◌+◌, ◌*◌, ◌%◌, ◌^◌, ◌<◌, ◌≤◌, List, [], ◌∷◌, length, Some, pos}
use Rattle.std.proofs.Common.{refl, sym, ◌∙◌, subst, inl, inr, ⊎_elim, lit≤, lit<, arith, mod-eq_of_lt}
use Rattle.std.specs.Prelude.{◌-ℤ◌}
use Rattle.std.specs.List.{Contains}
use Rattle.std.proofs.Math.IntN.{+ℤ_invr}
use lib.Signed.{le_z_yes}
use Rattle.std.specs.List.Sorted.{IsStrictlyIncreasing}
use Rattle.h5_base.specs.declared.extent.Extent.{Extent}
use Rattle.h5_base.specs.declared.extent.MemClass.{MemClass}
use Rattle.jiff_core.specs.Calendar.{IsYear, days_from_civil, day_count}
use Rattle.outside.specs.Moments.{IsTimeOf}
use Rattle.outside.specs.Pages.{ArePages, OrMetByOne, OfEither, MeetsOne}
use Rattle.outside.specs.Revisions.{Commits, Appends, IsEndOf, Reaches, Start, Origin, Page}
use Rattle.block_space.specs.Catalogue.{blocks_of}
use Rattle.block_space.specs.Written.{OrMetByBlock, MeetsBlock}
use Rattle.outside.specs.Blocks.{Block}
use Rattle.outside.specs.Space.{HasRoom, PassesLimit, Count, Bytes}
use Rattle.object_model.specs.declared.command.Command.{Command}
use Rattle.object_model.specs.declared.command.Command.TheVariants as command
use Rattle.object_model.specs.Step.Reply.{Commits as MakesRevision}
use Rattle.session_model.specs.EndFields.{OfSuper}
use Rattle.session_model.specs.State.{Plan, IsOver, IsUnder, Goes, Blocks, Segment, Revisions, Revision}
use Rattle.session_model.specs.Line.{Makes, MakesOne}
use Rattle.session_model.specs.GroupFile.{written_state, committed_state, written_once, committed_once}
use Rattle.session_model.specs.GroupFile.{second_revision, one_group, flushed_bytes, empty_super}
use Rattle.session_model.specs.Examples.{plain_file, CommitLine}
use Rattle.session_model.proofs.RunLemmas.{right_end, logical}
use Rattle.session_model.proofs.FlushLine.{one, is_one, some, of_field, nothing, wrong, no_block, stays, flushed_full}

abbrev commit : Command
commit = command.Commit (111 ∷ 110 ∷ 101 ∷ [])

abbrev pages : List ℕ → List ℕ
pages ps = ps

written_some : pages (0 ∷ []) ≡ pages [] → ⊥
written_some h = cc

plan : Plan plain_file written_state commit
unfolding empty_super
plan = record {
  takes = [];
  are = refl;
  ranges = one;
  touched = record {
    some = some;
    reached = λ a hit. inl (inl (of_field a hit));
    taken = λ a x. absurd (nothing a x);
  };
  spares = (λ a hit. OfSuper (of_field a hit) wrong, λ unwritten. absurd (written_some unwritten));
}

-- ---- pages

-- the end field lies in the first page
first_page : (p : ℕ) → MeetsOne 4096 one p → p ≡ 0
first_page p (r, has, met) =
    let whole : p % 4096 ≡ 0 = met.whole in
    let low : p < 48 = subst (λ (x : Extent). p < x.start + x.len) (sym (is_one r has)) met.before in
    sym (mod-eq_of_lt (omega (arith, low))) ∙ whole

zero_is : (p : ℕ) → Contains (0 ∷ []) p → p ≡ 0
zero_is p (zero, low, is) = sym is
zero_is p (suc k, low, is) = absurd (none k low)
  where
    none : (n : ℕ) → suc n < 1 → ⊥
    none n h = omega (arith, h)

has_zero : (p : ℕ) → p ≡ 0 → Contains (0 ∷ []) p
has_zero p is = (0, lit< tt, sym is)

met_first : (p : ℕ) → OrMetByOne 4096 (0 ∷ []) one p → p ≡ 0
met_first p told = ⊎_elim (zero_is p) (first_page p) told

ordered : IsStrictlyIncreasing (0 ∷ [])
ordered k few = omega (arith, few)

-- pages that are all the first are one
at_most_one : (pages : List ℕ) → IsStrictlyIncreasing pages → ((p : ℕ) → Contains pages p → p ≡ 0) → length pages ≤ 1
at_most_one [] up all = lit≤ tt
at_most_one (x ∷ []) up all = lit≤ tt
at_most_one (x ∷ y ∷ more) up all =
    let low : x < y = up 0 (omega arith) in
    let last : y ≡ 0 = all y (1, omega arith, refl) in
    absurd (no x y low last)
  where
    no : (a b : ℕ) → a < b → b ≡ 0 → ⊥
    no a b h e = omega (arith, h, e)

-- the same of the range as a block
field_is : (x : Block) → Contains (blocks_of one) x → record { start = 40; len = 8 } ≡ x
field_is x (zero, low, is) = is
field_is x (suc k, low, is) = absurd (none k low)
  where
    none : (n : ℕ) → suc n < 1 → ⊥
    none n h = omega (arith, h)

first_met : (p : ℕ) → MeetsBlock 4096 (blocks_of one) p → p ≡ 0
first_met p (x, has, met) =
    let whole : p % 4096 ≡ 0 = met.whole in
    let low : p < 48 = subst (λ (y : Block). p < y.start + y.len) (sym (field_is x has)) met.before in
    sym (mod-eq_of_lt (omega (arith, low))) ∙ whole

one_block : ArePages (OrMetByBlock 4096 (0 ∷ []) (blocks_of one)) (0 ∷ [])
one_block = record {
  ordered = ordered;
  each = λ p. (inl, λ told. has_zero p (⊎_elim (zero_is p) (first_met p) told));
}

few : (pages : List ℕ) → ArePages (OrMetByOne 4096 (0 ∷ []) one) pages → length pages ≤ 1
few pages are = at_most_one pages are.ordered (λ p has. met_first p ((are.each p).0 has))

no_page : (p : ℕ) → Contains [] p → ⊥
no_page p has = omega (arith, has.1)

recorded_few : (written recorded : List ℕ) → ArePages (OrMetByOne 4096 (0 ∷ []) one) written
    → ArePages (OfEither [] written) recorded
    → length recorded ≤ 1
recorded_few written recorded first are = at_most_one recorded are.ordered
    (λ p has. ⊎_elim (λ none. absurd (no_page p none)) (λ old. met_first p ((first.each p).0 old)) ((are.each p).0 has))

no_limit : PassesLimit written_once one (111 ∷ 110 ∷ 101 ∷ []) → ⊥
no_limit (Count h) = let g : 65536 ≤ 1 = h in omega (arith, g)
no_limit (Bytes written recorded first are h) =
    let a = few written first in
    let b = recorded_few written recorded first are in
    let g : 2 ^ 48 < 60 + 4096 * length written + (68 + 20 * length recorded + 3) + (20 + 20 * 1) = h in
    omega (arith, a, b, g)

roomy : HasRoom (Some written_once) one
roomy pages are = let a = few pages are in omega (arith, a)

under : IsUnder plain_file written_state commit plan
unfolding plan
under = record { asked = λ h. h; planned = over_none }
  where
    over_none : IsOver plain_file written_state commit plan → ⊥
    over_none (Blocks h) = let g : 1048576 < 10 = h in omega (arith, g)
    over_none (Segment x has local h) = no_block x has
    over_none (Revisions writes h) = h roomy
    over_none (Revision h) = no_limit h

goes : Goes plain_file written_state commit plan one_group (MakesRevision (111 ∷ 110 ∷ 101 ∷ []))
unfolding plan
goes = record { steps = refl; under = under; fits = record { few = lit≤ tt; below = λ c. lit≤ tt } }

-- ---- the revision

same : (n : ℕ) → pos n -ℤ pos n ≡ pos 0
same n = +ℤ_invr (pos n)

year : IsYear (pos 1970)
year = (le_z_yes tt, le_z_yes tt)

time : IsTimeOf 0 second_revision.time
unfolding days_from_civil
time = record {
  year = 1970;
  month = 1;
  day = 1;
  date = (year, (lit≤ tt, lit≤ tt), (lit≤ tt, lit≤ tt));
  number = same (day_count (pos 1970) 1 1);
  spelled = refl;
}

ends_there : (c : MemClass) → IsEndOf (plain_file.regions c) 800 4096 1832 (0 ∷ []) 1832
ends_there c =
    record { met = Page 0 (has_zero 0 refl) (record { before = lit< tt; behind = lit< tt }) refl; above = most }
  where
    most : (n : ℕ) → Reaches (plain_file.regions c) 800 4096 1832 (0 ∷ []) n → n ≤ 1832
    most n (Start h) = let g : n ≡ 0 = h in omega (arith, g)
    most n (Origin h) = omega (arith, h)
    most n (Page p has meets h) = omega (arith, h)

commits : Commits written_once (111 ∷ 110 ∷ 101 ∷ []) 1 1 committed_once
commits = record {
  rev_is = refl;
  count = refl;
  pages_are = refl;
  recorded = record {
    ordered = ordered;
    each = λ p. (inr, λ told. ⊎_elim (λ none. absurd (no_page p none)) (λ h. h) told);
  };
  written = refl;
  end = refl;
  page = refl;
}

appends : Appends written_state.history 4096 plain_file.regions (λ c. 1832) flushed_bytes (111 ∷ 110 ∷ 101 ∷ [])
    (pos 0) (0 ∷ []) committed_state.history
appends = record {
  moment = 0;
  moment_is = refl;
  revision = second_revision;
  next = record {
    follows = refl;
    comment_is = refl;
    time = time;
    end = logical;
    ends_are = ends_there;
    array_is = refl;
  };
  list = refl;
  origin = refl;
}

version_is : empty_super.version ≡ 0
unfolding empty_super
version_is = refl

makes : MakesOne plain_file written_state commit plan one_group (111 ∷ 110 ∷ 101 ∷ []) (pos 0) 1 1 committed_state
unfolding plan appends
makes = record {
  fields = λ written. right_end empty_super version_is;
  stays = stays;
  between = written_once;
  written = record { pages = one_block; others = refl };
  after = committed_once;
  commits = commits;
  appends = appends;
  others = refl;
  tree = refl;
  held = flushed_full;
  held_again = flushed_full;
}

pub commit_line : CommitLine
commit_line =
    Makes one_group (111 ∷ 110 ∷ 101 ∷ []) plan 1 1 goes (record { moment = 0; is = refl; small = lit≤ tt }) makes refl
