-- The file around a group whose index is edited by a plan: what stays, which blocks there are, and what is held then.
use Rattle.std.proofs.Common.{◌≡◌, ℕ, ◌+◌, ◌<◌, ◌≤◌, List, [], ◌∷◌, ◌++◌, length, Ok, Err, None, refl, sym, ◌∙◌, ap, subst}
use Rattle.std.proofs.Common.{arith}
use Rattle.std.specs.List.{Contains}
use Rattle.std.specs.List.Sorted.{IsPermutation}
use Rattle.std.proofs.lemmas.List.Elements.{Contains-append_left}
use Rattle.std.proofs.lemmas.List.{append_assoc}
use Rattle.std.proofs.lemmas.List.Sorted.{IsPermutation-append_comm, IsPermutation-append_left, IsPermutation-append_right}
use Rattle.std.proofs.lemmas.List.Sorted.{Contains-permutation, IsPermutation-sym, IsPermutation-trans}
use Rattle.h5_base.specs.declared.extent.MemClass.{MemClass}
use Rattle.h5_base.specs.declared.extent.Region.{Region}
use Rattle.outside.specs.Array.{Array, Ends}
use Rattle.outside.specs.Blocks.{Agree, AllApart, AreKept, Block, Bounds}
use Rattle.outside.specs.Space.{AreRegions, SpaceView, bounds_of}
use Rattle.block_space.specs.Plans.{FitsCatalogue, HasRoomFor, ends_after, planned, taken_blocks}
use Rattle.block_space.specs.declared.plan.EditPlan.{EditPlan}
use Rattle.block_space.proofs.Ends.{ends_as_one}
use Rattle.block_space.proofs.Planned.{after_up}
use Rattle.block_space.proofs.Readied.{ends_behind_needs}
use Rattle.object_model.specs.Tree.{Group, Name, walk}
use Rattle.file_model.specs.EditLaws.{AreApartFrom, file_beside}
use Rattle.file_model.specs.Groups.{HasLinks}
use Rattle.file_model.specs.Headers.{header_blocks}
use Rattle.file_model.specs.Holds.{AreHeld, Full, FullLinks, GroupAt, IsGroup, blocks_in, blocks_of, founds, ks_of}
use Rattle.file_model.specs.Laws.{Rises, all_blocks}
use Rattle.file_model.proofs.BlockOrder.{kept_order, kept_together}
use Rattle.file_model.proofs.EditFull.{file_blocks}
use Rattle.file_model.proofs.FrameBytes.{agree_left, agree_right}
use Rattle.group_edit.specs.Edited.{WritesWithin}
use Rattle.session_model.specs.State.{Setting, State, bounds, full_of}
use Rattle.group_lines.specs.Edits.{IsIndexEdit}
use Rattle.group_lines.specs.States.{IsDone, StandsFor, plain_setting}
use Rattle.group_lines.proofs.Plans.{was as was_of}
use Rattle.group_lines.proofs.Stays.{blocks_stay}

-- a part of a list in the middle goes to the front
pub to_front : (first header index below : List Block)
    → IsPermutation (first ++ ((header ++ index) ++ below)) (index ++ (first ++ (header ++ below)))
to_front first header index below =
    let swapped : IsPermutation ((header ++ index) ++ below) (index ++ (header ++ below)) =
    subst (IsPermutation ((header ++ index) ++ below)) (append_assoc index header below)
    (IsPermutation-append_left below _ _ (IsPermutation-append_comm header index)) in
    let behind : IsPermutation (first ++ (index ++ (header ++ below))) (index ++ (first ++ (header ++ below))) =
    rw (sym (append_assoc first index (header ++ below)), sym (append_assoc index first (header ++ below)))
    (IsPermutation-append_left (header ++ below) _ _ (IsPermutation-append_comm first index)) in
    IsPermutation-trans _ _ _ (IsPermutation-append_right first _ _ swapped) behind

-- what is behind two lists goes between them
between : (xs ys zs us : List Block) → IsPermutation us (xs ++ ys) → IsPermutation (us ++ zs) ((xs ++ zs) ++ ys)
between xs ys zs us moved =
    let last : IsPermutation (xs ++ (ys ++ zs)) (xs ++ (zs ++ ys)) =
    IsPermutation-append_right xs _ _ (IsPermutation-append_comm ys zs) in
    IsPermutation-trans _ _ _ (IsPermutation-append_left zs us (xs ++ ys) moved)
    (rw (append_assoc xs ys zs, append_assoc xs zs ys) last)

pub agree_itself : (b : Array) (xs : List Block) → Agree b b xs
agree_itself b [] = tt
agree_itself b (x ∷ xs) = (λ i low high. refl, agree_itself b xs)

module _ (v w : SpaceView) (s : State) (met : List Block) (plan : EditPlan) (dir : List Name) (parent : GroupAt)
    (below : FullLinks) (regions : AreRegions v.regions v.ends) (stands : StandsFor (plain_setting v) v s met)
    (kept : AreKept (bounds_of w None) (met ++ taken_blocks v.regions v.ends plan.takes)) (done : IsDone v w plan)
    (fits : FitsCatalogue met plan) (room : HasRoomFor v (length met) plan.needs)
    (walked : walk (full_of s) dir ≡ Ok (Group parent below)) where
  abbrev k : Setting
  k = plain_setting v

  abbrev taken : List Block
  taken = taken_blocks v.regions v.ends plan.takes

  abbrev all : List Block
  all = all_blocks s.super stands.held.driver (full_of s)

  abbrev first : List Block
  first = file_beside s.super stands.held.driver dir (full_of s)

  -- the group, as it was
  abbrev was : IsGroup s.array (ks_of s.super) parent (founds below)
  was = was_of v s met stands dir parent below walked

  abbrev header : List Block
  header = header_blocks parent.header_at was.prefix was.parts

  -- all blocks beside its index
  abbrev rest : List Block
  rest = first ++ (header ++ blocks_in below)

  all_are : IsPermutation all (was.index ++ rest)
  all_are = IsPermutation-trans _ _ _ (file_blocks s.super stands.held.driver dir (full_of s) (Group parent below) walked)
      (subst (λ (own : List Block). IsPermutation (first ++ (own ++ blocks_in below)) (was.index ++ rest))
      (sym was.blocks) (to_front first header was.index (blocks_in below)))

  abbrev apart_parts : Type 0
  apart_parts = AreKept (bounds k s.ends) was.index × AreKept (bounds k s.ends) rest × AreApartFrom rest was.index

  parts : apart_parts
  parts = (kept_together (bounds k s.ends) was.index rest).0
      (kept_order (bounds k s.ends) all (was.index ++ rest) all_are stands.held.kept)

  pub index_apart : AllApart was.index
  index_apart = parts.0.apart

  -- each region has room for what is taken
  pub ends_below : (c : MemClass) → ends_after v.regions v.ends plan.takes c ≤ (v.regions c).limit
  ends_below c = omega (arith, ends_behind_needs v.regions v.ends met plan c regions fits, room.below c)

  -- all beside the index stays
  pub rest_stays : WritesWithin was.index plan → Agree s.array w.array rest
  rest_stays within =
      let inside = subst (λ (e : Ends). AreKept (bounds k e) rest) stands.told.ends parts.1 in
      let agree : Agree v.array (planned v.regions v.ends plan v.array) rest =
      blocks_stay v met plan was.index regions fits ends_below within rest inside.inside parts.2 in
      subst (λ (b : Array). Agree b w.array rest) (sym stands.told.array)
      (subst (λ (c : Array). Agree v.array c rest) (sym done.array) agree)

  -- so do the blocks of what is below the group
  pub below_stay : WritesWithin was.index plan → Agree s.array w.array (blocks_in below)
  below_stay within = agree_right s.array w.array header (blocks_in below)
      (agree_right s.array w.array first (header ++ blocks_in below) (rest_stays within))

  pub rises : Rises (bounds k s.ends) (bounds k w.ends)
  rises = record {
    starts = λ c. refl;
    ends = λ c. omega (
      arith,
      ap (λ (e : Ends). e c) stands.told.ends,
      ap (λ (e : Ends). e c) done.ends,
      after_up v.regions v.ends plan.takes c (ends_as_one v.regions v.ends regions c),
    );
    own = refl;
  }

  kept_there : AreKept (bounds k w.ends) (met ++ taken)
  kept_there = subst (λ (r : MemClass → Region). AreKept (record { starts = λ c. (r c).start; ends = w.ends; own = None })
      (met ++ taken)) done.regions kept

  -- the blocks of the file and those that were taken are kept together
  pub all_kept : AreKept (bounds k w.ends) (all ++ taken)
  all_kept = ((kept_together (bounds k w.ends) (all ++ taken) stands.given_up).0
      (kept_order (bounds k w.ends) (met ++ taken) ((all ++ taken) ++ stands.given_up)
      (between all stands.given_up taken met stands.among) kept_there)).0

  -- no address lies in two of the index's blocks and of those that were taken
  pub index_taken_apart : AllApart (was.index ++ taken)
  index_taken_apart = ((kept_together (bounds k w.ends) (was.index ++ taken) rest).0
      (kept_order (bounds k w.ends) (all ++ taken) ((was.index ++ taken) ++ rest) (between was.index rest taken all all_are)
      all_kept)).0.apart

  pub taken_apart : AllApart taken
  taken_apart = ((kept_together (bounds k w.ends) all taken).0 all_kept).1.apart

  -- the index's blocks are some of the file's
  pub index_there : (x : Block) → Contains was.index x → Contains all x
  index_there x has = Contains-permutation (was.index ++ rest) all x (IsPermutation-sym _ _ all_are)
      (Contains-append_left was.index rest x has)

  module _ (after : FullLinks) (gone changed : List Block) (within : WritesWithin was.index plan)
      (now : HasLinks w.array (ks_of s.super) parent.tree_at parent.heap_at (founds after) changed)
      (others : AreHeld w.array (ks_of s.super) after)
      (moved : IsPermutation (changed ++ (blocks_in after ++ gone)) (was.index ++ (blocks_in below ++ taken))) where
    pub index_edit : IsIndexEdit s.array w.array (bounds k s.ends) (bounds k w.ends) s.super s.root s.links stands.held
        dir parent below after taken gone
    index_edit =
        let stay = rest_stays within in
        record {
          walked = walked;
          was = was;
          changed = changed;
          now = now;
          rest = others;
          blocks = moved;
          rises = rises;
          kept = all_kept;
          header = agree_left s.array w.array header (blocks_in below)
              (agree_right s.array w.array first (header ++ blocks_in below) stay);
          stays = agree_left s.array w.array first (header ++ blocks_in below) stay;
        }
