-- The line that makes a first group is done.
use Rattle.std.proofs.Common.{◌≡◌, ℕ, zero, suc, ◌+◌, ◌<◌, ◌≤◌, List, [], ◌∷◌, length, take, refl, sym, ◌∙◌, ap, subst}
use Rattle.std.proofs.Common.{inl, inr, ⊎_elim, lit≤, lit<, arith}
use Rattle.std.specs.Prelude.{slice_index}
use Rattle.std.specs.List.{Contains}
use Rattle.std.proofs.lemmas.Bool.{cases_lt}
use Rattle.std.proofs.lemmas.List.{get_or-take, get_or_past}
use Rattle.h5_base.specs.declared.extent.Extent.{Extent}
use Rattle.h5_base.specs.declared.extent.MemClass.TheVariants as class
use Rattle.outside.specs.Blocks.{Block}
use Rattle.block_space.specs.Plans.{LiesInOne}
use Rattle.empty_file.specs.Empty.{empty_file, zeros}
use Rattle.object_model.specs.Tree.{Empty}
use Rattle.object_model.specs.Step.{Gives}
use Rattle.object_model.specs.declared.answer.Answer.TheVariants as answer
use Rattle.session_model.specs.Reach.{InParent}
use Rattle.session_model.specs.State.{Plan, Goes, IsTouched, InTaken}
use Rattle.session_model.specs.Line.{Done, Does, AreBuilt, SameBeside}
use Rattle.session_model.specs.GroupFile.{empty_bytes, empty_ks, empty_root, empty_tree, empty_state, empty_super}
use Rattle.session_model.specs.GroupFile.{group_file, group_bytes, group_state, group_root, new_root, one_group}
use Rattle.session_model.specs.Examples.{plain_file, mkgroup_g, mkgroup_takes, GroupEnds, GroupLine}
use Rattle.session_model.proofs.EmptyFile.{index_blocks, links}
use Rattle.session_model.proofs.GroupFile.{group_full, all, all_are}
use Rattle.session_model.proofs.RoomLemmas.{group_takes_lem}
use Rattle.session_model.proofs.AnswerLemmas.{is_under}

-- the root's B-tree node, heap header and segment, and all that is new: one range
abbrev pub touched : Extent
touched = record { start = 136; len = 1696; fits = lit< tt }

-- one of one range
abbrev pub one : List Extent
one = touched ∷ []

is_one : (r : Extent) → Contains one r → touched ≡ r
is_one r (zero, low, is) = is
is_one r (suc k, low, is) = absurd (none k low)
  where
    none : (n : ℕ) → suc n < 1 → ⊥
    none n h = omega (arith, h)

some : (r : Extent) → Contains one r → 0 < r.len
some r has = subst (λ (x : Extent). 0 < x.len) (is_one r has) (lit< tt)

in_it : (a : ℕ) → 136 ≤ a → a < 1832 → IsTouched one a
in_it a low high = (touched, (0, lit< tt, refl), low, high)

out_of_it : (a : ℕ) → IsTouched one a → (136 ≤ a) × (a < 1832)
out_of_it a (r, has, low, high) =
    subst (λ (x : Extent). (x.start ≤ a) × (a < x.start + x.len)) (sym (is_one r has)) (low, high)

-- the root's index and heap in the empty file
in_index : (a : ℕ) → 136 ≤ a → a < 800 → LiesInOne index_blocks a 1
in_index a low high = ⊎_elim
    (λ tree. (record { start = 136; len = 544 }, (2, lit< tt, refl), low, omega (arith, tree)))
    (λ heap. ⊎_elim
    (λ head. (record { start = 680; len = 32 }, (0, lit< tt, refl), heap, omega (arith, head)))
    (λ segment. (record { start = 712; len = 88 }, (1, lit< tt, refl), segment, omega (arith, high)))
    (cases_lt a 712))
    (cases_lt a 680)

in_parent : (a : ℕ) → 136 ≤ a → a < 800 → InParent empty_bytes empty_ks empty_tree ((103 ∷ []) ∷ []) a
in_parent a low high = record {
  group = empty_root;
  links = Empty;
  parent = refl;
  blocks = index_blocks;
  has = links;
  inside = in_index a low high;
}

in_taken : (a : ℕ) → 800 ≤ a → a < 1832 → InTaken plain_file (λ c. 800) mkgroup_takes a
in_taken a low high = record { class = class.Super; behind = low; before = high }

out_of_taken : (a : ℕ) → InTaken plain_file (λ c. 800) mkgroup_takes a → IsTouched one a
out_of_taken a x = go x.behind x.before
  where
    go : 800 ≤ a → a < 1832 → IsTouched one a
    go low high = in_it a (omega (arith, low)) high

pub plan : Plan plain_file empty_state mkgroup_g
unfolding empty_super
plan = record {
  takes = mkgroup_takes;
  are = (group_takes_lem mkgroup_takes).1 refl;
  ranges = one;
  touched = record {
    some = some;
    reached = λ a hit. let b = out_of_it a hit in
        ⊎_elim (λ old. inl (in_parent a b.0 old)) (λ fresh. inr (in_taken a fresh b.1)) (cases_lt a 800);
    taken = out_of_taken;
  };
  spares = tt;
}

pub ranges_are : one ≡ plan.ranges
unfolding plan
ranges_are = refl

-- ---- bytes that stay

front : take 136 group_file ≡ take 136 empty_file
unfolding group_file empty_file zeros
front = refl

group_len : length group_file ≡ 1832
unfolding group_file zeros
group_len = refl

empty_len : length empty_file ≡ 800
unfolding empty_file zeros
empty_len = refl

pub stays : SameBeside one empty_bytes group_bytes
stays a out = ⊎_elim
    (λ low. sym (get_or-take 136 group_file a 0 low) ∙ ap (λ xs. slice_index xs a) front
    ∙ get_or-take 136 empty_file a 0 low)
    (λ mid. ⊎_elim (λ within. absurd (out (in_it a mid within)))
    (λ high. get_or_past group_file a 0 (omega (arith, high, group_len))
    ∙ sym (get_or_past empty_file a 0 (omega (arith, high, empty_len))))
    (cases_lt a 1832))
    (cases_lt a 136)

built : AreBuilt plain_file (λ c. 800) mkgroup_takes all
built = record {
  built = record { start = 800; len = 40 } ∷ record { start = 840; len = 544 } ∷ record { start = 1384; len = 32 }
      ∷ record { start = 1416; len = 88 } ∷ record { start = 1504; len = 328 } ∷ [];
  are = (
    record { one = (6, lit< tt, refl); len = refl; behind = lit≤ tt; before = lit≤ tt },
    (
      record { one = (9, lit< tt, refl); len = refl; behind = lit≤ tt; before = lit≤ tt },
      (
        record { one = (7, lit< tt, refl); len = refl; behind = lit≤ tt; before = lit≤ tt },
        (
          record { one = (8, lit< tt, refl); len = refl; behind = lit≤ tt; before = lit≤ tt },
          (record { one = (5, lit< tt, refl); len = refl; behind = lit≤ tt; before = lit≤ tt }, tt),
        ),
      ),
    ),
  );
  apart = (
    (inl (lit≤ tt), (inl (lit≤ tt), (inl (lit≤ tt), (inl (lit≤ tt), tt)))),
    (
      (inl (lit≤ tt), (inl (lit≤ tt), (inl (lit≤ tt), tt))),
      ((inl (lit≤ tt), (inl (lit≤ tt), tt)), ((inl (lit≤ tt), tt), (tt, tt))),
    ),
  );
}

does : Does plain_file empty_state mkgroup_g plan one_group group_state
unfolding plan group_root new_root
does = record {
  tree = refl;
  held = group_full;
  ends = refl;
  built = subst (λ (bs : List Block). AreBuilt plain_file (λ c. 800) mkgroup_takes bs) all_are built;
  stays = stays;
  flushed = tt;
  blocks = refl;
  pages = refl;
  history = refl;
  edited = refl;
}

roomy : GroupEnds
roomy = (λ c. refl, record { few = lit≤ tt; below = λ c. lit≤ tt })

pub goes : Goes plain_file empty_state mkgroup_g plan one_group (Gives answer.Done)
unfolding plan
goes = record { steps = refl; under = is_under _ plan; fits = roomy.1 }

pub group_line : GroupLine
group_line secs = Done one_group plan goes does
