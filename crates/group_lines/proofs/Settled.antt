-- The state after an edit of one group: the space tells it, and a catalogue has its blocks.
use Rattle.std.proofs.Common.{◌≡◌, ℕ, ◌+◌, ◌≤◌, Bool, true, List, ◌++◌, length, Ok, refl, sym, ◌∙◌, ap, subst, arith}
use Rattle.std.proofs.Common.{length-append}
use Rattle.std.specs.List.Sorted.{IsPermutation}
use Rattle.std.proofs.lemmas.List.{append_assoc}
use Rattle.std.proofs.lemmas.List.Sorted.{IsPermutation-append_comm, IsPermutation-append_left, IsPermutation-append_right}
use Rattle.std.proofs.lemmas.List.Sorted.{IsPermutation-sym, IsPermutation-trans, length_permutation}
use Rattle.outside.specs.Array.{Array}
use Rattle.outside.specs.Blocks.{Agree, AreKept, Block, most_blocks}
use Rattle.outside.specs.Space.{AreRegions, SpaceView, bounds_of}
use Rattle.block_space.specs.Plans.{FitsCatalogue, HasRoomFor, taken_blocks}
use Rattle.block_space.specs.declared.plan.EditPlan.{EditPlan}
use Rattle.object_model.specs.Tree.{Group, Name, edit, walk}
use Rattle.file_model.specs.EditLaws.{file_beside}
use Rattle.file_model.specs.Headers.{header_blocks}
use Rattle.file_model.specs.Holds.{Full, FullLinks, GroupAt, HoldsFull, ks_of}
use Rattle.file_model.specs.Laws.{all_blocks, beside}
use Rattle.file_model.specs.Limits.{AllFit, Fits, IsSmallHeap, depth_to, most_depth, most_objects, objects_of}
use Rattle.file_model.proofs.FrameBytes.{agree_right}
use Rattle.tree_places.proofs.Fits.{fits_edit}
use Rattle.tree_places.specs.Kept.{IsSameGroup}
use Rattle.session_model.specs.State.{Setting, State, bounds, full_of}
use Rattle.group_lines.specs.Edits.{IsIndexEdit}
use Rattle.group_lines.specs.States.{IsDone, StandsFor, plain_setting}
use Rattle.group_lines.proofs.IndexEdit.{blocks_moved, now, same_group}
use Rattle.group_lines.proofs.Links.{group_fits}
use Rattle.group_lines.proofs.Taken.{taken_count}
use Rattle.group_lines.proofs.Walked.{walked_fits}

-- what a line with a plan leaves, where it leaves a tree with this root and these links
abbrev pub state_after : SpaceView → State → EditPlan → GroupAt → FullLinks → State
state_after w s plan root links = record {
  array = w.array;
  ends = w.ends;
  committed = w.committed;
  history = w.history;
  super = s.super;
  root = root;
  links = links;
  blocks = s.blocks + length plan.takes;
  edited = true;
}

-- the blocks that were given up are behind all others
all_among : (met all given_up taken later gone : List Block) → IsPermutation met (all ++ given_up)
    → IsPermutation (later ++ gone) (all ++ taken) → IsPermutation (met ++ taken) (later ++ (given_up ++ gone))
all_among met all given_up taken later gone among moved =
    let one : IsPermutation (met ++ taken) ((all ++ given_up) ++ taken) =
    IsPermutation-append_left taken met (all ++ given_up) among in
    let two : IsPermutation ((all ++ given_up) ++ taken) ((all ++ taken) ++ given_up) =
    rw (append_assoc all given_up taken, append_assoc all taken given_up)
    (IsPermutation-append_right all _ _ (IsPermutation-append_comm given_up taken)) in
    let three : IsPermutation ((all ++ taken) ++ given_up) ((later ++ gone) ++ given_up) =
    IsPermutation-append_left given_up _ _ (IsPermutation-sym _ _ moved) in
    let four : IsPermutation ((later ++ gone) ++ given_up) (later ++ (given_up ++ gone)) =
    rw (append_assoc later gone given_up)
    (IsPermutation-append_right later _ _ (IsPermutation-append_comm gone given_up)) in
    IsPermutation-trans _ _ _ one (IsPermutation-trans _ _ _ two (IsPermutation-trans _ _ _ three four))

module _ (v w : SpaceView) (s : State) (met : List Block) (plan : EditPlan) (dir : List Name) (parent : GroupAt)
    (below after : FullLinks) (gone : List Block) (stands : StandsFor (plain_setting v) v s met)
    (fits : FitsCatalogue met plan) (room : HasRoomFor v (length met) plan.needs)
    (k : IsIndexEdit s.array w.array (bounds (plain_setting v) s.ends) (bounds (plain_setting v) w.ends) s.super s.root
    s.links stands.held dir parent below after (taken_blocks v.regions v.ends plan.takes) gone)
    (root : GroupAt) (links : FullLinks)
    (is : Group root links
    ≡ edit dir (λ _. Group (now s.array w.array (bounds (plain_setting v) s.ends) (bounds (plain_setting v) w.ends)
    s.super s.root s.links stands.held dir parent below after (taken_blocks v.regions v.ends plan.takes) gone k)
    after) (full_of s))
    (held : HoldsFull w.array (bounds (plain_setting v) w.ends) s.super root links) where
  abbrev taken : List Block
  taken = taken_blocks v.regions v.ends plan.takes

  abbrev new : State
  new = state_after w s plan root links

  abbrev later : List Block
  later = all_blocks s.super held.driver (Group root links)

  abbrev all : List Block
  all = all_blocks s.super stands.held.driver (full_of s)

  pub moved : IsPermutation (later ++ gone) (all ++ taken)
  moved = blocks_moved s.array w.array (bounds (plain_setting v) s.ends) (bounds (plain_setting v) w.ends) s.super s.root
      s.links stands.held dir parent below after taken gone k root links held is

  among : IsPermutation (met ++ taken) (later ++ (stands.given_up ++ gone))
  among = all_among met all stands.given_up taken later gone stands.among moved

  counted : length (met ++ taken) ≡ s.blocks + length plan.takes
  counted = omega (arith, length-append met taken, stands.counted, taken_count v.regions v.ends plan.takes)

  few : length later ≤ most_blocks
  few = omega (
    arith,
    length_permutation _ _ among,
    length-append later (stands.given_up ++ gone),
    counted,
    stands.counted,
    room.few,
    fits.blocks,
  )

  group : GroupAt
  group = now s.array w.array (bounds (plain_setting v) s.ends) (bounds (plain_setting v) w.ends) s.super s.root s.links
      stands.held dir parent below after (taken_blocks v.regions v.ends plan.takes) gone k

  same : IsSameGroup group parent
  unfolding group
  same = same_group s.array w.array (bounds (plain_setting v) s.ends) (bounds (plain_setting v) w.ends) s.super s.root
      s.links stands.held dir parent below after (taken_blocks v.regions v.ends plan.takes) gone k

  module _ (depth : depth_to (Group root links) ≤ most_depth + 1) (objects : objects_of (Group root links) ≤ most_objects)
      (small : IsSmallHeap w.array parent.heap_at) (others : AllFit w.array after) where
    parts : Fits w.array (Group root links)
    unfolding group
    parts = subst (Fits w.array) (sym is)
        (fits_edit s.array w.array (ks_of s.super) dir (full_of s) (Group parent below)
        (Group group after) k.walked stands.held.held
        (agree_right s.array w.array stands.held.driver (beside dir (full_of s)) k.stays.1) stands.within.parts
        (group_fits s.array w.array (ks_of s.super) parent group below after k.was same.header same.heap k.header
        (walked_fits s.array dir (full_of s) (Group parent below) k.walked stands.within.parts) small others))

    pub stands_after : StandsFor (plain_setting v) w new (met ++ taken)
    stands_after = record {
      told = record { array = refl; ends = refl; committed = refl; history = refl };
      held = held;
      within = record { depth = depth; objects = objects; block_count = few; parts = parts };
      given_up = stands.given_up ++ gone;
      among = among;
      counted = sym counted;
    }
