-- What a new group, and the link to it, come to in a file: blocks among the others, and limits.
use Rattle.std.proofs.Common.{◌≡◌, ◌⊎◌, ℕ, zero, suc, ◌+◌, ◌<◌, ◌≤◌, List, [], ◌∷◌, ◌++◌, length, refl, sym, ap, subst, arith}
use Rattle.std.proofs.Common.{⊎_elim, append-nil, inl, inr}
use Rattle.std.specs.List.{Contains, sum_by}
use Rattle.std.specs.List.Sorted.{IsPermutation}
use Rattle.std.proofs.lemmas.Bool.{cases_lt}
use Rattle.std.proofs.lemmas.List.{append_assoc}
use Rattle.std.proofs.lemmas.List.Sums.{sum_by-append}
use Rattle.std.proofs.lemmas.List.Sorted.{Contains-permutation, IsPermutation-append, IsPermutation-append_comm}
use Rattle.std.proofs.lemmas.List.Sorted.{IsPermutation-append_right, IsPermutation-sym, IsPermutation-trans}
use Rattle.std.proofs.lemmas.List.Sorted.{sum_by-IsPermutation}
use Rattle.outside.specs.Array.{Array}
use Rattle.outside.specs.Blocks.{Block, placed}
use Rattle.outside.specs.Space.{SpaceView}
use Rattle.block_space.proofs.Apart.{contains_tail, none_contained}
use Rattle.object_model.specs.Tree.{Name, dir_of}
use Rattle.object_model.specs.declared.command.Command.TheVariants as command
use Rattle.file_model.specs.Groups.{HasLinks, Ks}
use Rattle.file_model.specs.Headers.{header_blocks}
use Rattle.file_model.specs.Holds.{Full}
use Rattle.file_model.specs.Limits.{Fits, header_bytes, most_depth, most_header, most_objects, most_segment, objects_of}
use Rattle.group_room.specs.Index.{AreSmall}
use Rattle.group_rows.specs.declared.group.GroupAt.{GroupAt as GroupPlace}
use Rattle.group_room.specs.Room.{group_takes}
use Rattle.new_group.specs.Group.{HoldsEmpty}
use Rattle.object_edit.specs.Making.{group_part}
use Rattle.session_model.specs.TooLarge.{IsObjectOver, IsTooLarge}
use Rattle.group_lines.specs.Lines.{new_place}
use Rattle.group_lines.proofs.Links.{short_header, small_heap}
use Rattle.group_lines.proofs.Small.{AreShort, group_short, segment_short, taken_short}
use Rattle.group_lines.proofs.Taken.{taken_len}

-- ---- blocks

-- The blocks of an index with those that are gone are its old ones and those of its link; those of the links after are
-- those of the links before and the new object's own, which are the ones that were taken for it.
pub all_moved : (changed after gone index below own part link : List Block)
    → IsPermutation (changed ++ gone) (index ++ link) → IsPermutation (own ++ below) after → IsPermutation part own
    → IsPermutation (changed ++ (after ++ gone)) (index ++ (below ++ (part ++ link)))
all_moved changed after gone index below own part link moved grown taken =
    let first : IsPermutation (changed ++ (after ++ gone)) (changed ++ (gone ++ after)) =
    IsPermutation-append_right changed _ _ (IsPermutation-append_comm after gone) in
    let others : IsPermutation after (below ++ part) =
    IsPermutation-trans _ _ _ (IsPermutation-sym _ _ grown)
    (IsPermutation-trans _ _ _ (IsPermutation-append_comm own below)
    (IsPermutation-append_right below _ _ (IsPermutation-sym _ _ taken))) in
    let both : IsPermutation ((changed ++ gone) ++ after) ((index ++ link) ++ (below ++ part)) =
    IsPermutation-append (changed ++ gone) (index ++ link) after (below ++ part) moved others in
    let last : IsPermutation (index ++ (link ++ (below ++ part))) (index ++ ((below ++ part) ++ link)) =
    IsPermutation-append_right index _ _ (IsPermutation-append_comm link (below ++ part)) in
    IsPermutation-trans _ _ _ first
    (IsPermutation-trans _ _ _
    (subst (λ (xs : List Block). IsPermutation xs (index ++ (link ++ (below ++ part)))) (append_assoc changed gone after)
    (subst (IsPermutation ((changed ++ gone) ++ after)) (append_assoc index link (below ++ part)) both))
    (subst (λ (xs : List Block). IsPermutation (index ++ (link ++ (below ++ part))) (index ++ xs))
    (append_assoc below part link) last))

-- What is gone of an index's blocks: none, or one that was among them.
pub record IsLeft (index changed link : List Block) : Type 0 where
  pub gone : List Block
  pub were : (y : Block) → Contains gone y → Contains index y
  pub moved : IsPermutation (changed ++ gone) (index ++ link)

pub none_left : (index changed link : List Block) → IsPermutation changed (index ++ link) → IsLeft index changed link
none_left index changed link moved = record {
  gone = [];
  were = λ y has. absurd (none_contained y has);
  moved = subst (λ (xs : List Block). IsPermutation xs (index ++ link)) (sym (append-nil changed)) moved;
}

-- ---- limits

not_over : (a b : ℕ) → ¬ (a < b) → b ≤ a
not_over a b over = ⊎_elim (λ l. absurd (over l)) (λ r. omega (arith, r)) (cases_lt a b)

dir_fewer : (n : Name) (ns : List Name) → length (dir_of (n ∷ ns)) ≤ length ns
dir_fewer n [] = omega arith
dir_fewer n (m ∷ ns) = omega (arith, dir_fewer m ns)

dir_below : (p : List Name) → length p ≤ most_depth → length (dir_of p) + 2 ≤ most_depth + 1
dir_below [] few = omega arith
dir_below (n ∷ ns) few = omega (arith, few, dir_fewer n ns)

-- a new object passes neither limit
pub depth_fits : (t : Full) (p : List Name) → ¬ IsTooLarge t (command.Mkgroup p)
    → length (dir_of p) + 2 ≤ most_depth + 1
depth_fits t p small = dir_below p (not_over most_depth (length p) (λ over. small (IsObjectOver.TooDeep over)))

pub objects_fit : (t : Full) (p : List Name) → ¬ IsTooLarge t (command.Mkgroup p) → objects_of t + 1 ≤ most_objects
objects_fit t p small = not_over most_objects (objects_of t + 1) (λ over. small (IsObjectOver.TooMany over))

-- ---- the new group within its limits

module _ (v : SpaceView) (c : Array) (ks : Ks) (small : AreSmall ks) (g : GroupPlace)
    (empty : HoldsEmpty c g (group_part v ks)) where
  abbrev len_of : Block → ℕ
  len_of x = x.len

  part_sum : sum_by len_of (group_part v ks) ≤ most_header
  part_sum = omega (arith, small.internal.1)

  header_few : header_bytes g.header_at empty.held.prefix empty.held.parts ≤ most_header
  header_few = omega (
    arith,
    sum_by-append len_of (header_blocks g.header_at empty.held.prefix empty.held.parts) empty.held.index,
    ap (sum_by len_of) empty.held.blocks,
    sum_by-IsPermutation len_of (group_part v ks) _ empty.blocks,
    part_sum,
  )

  index_short : AreShort empty.index
  index_short x has =
      taken_short (group_takes ks) (group_part v ks) (taken_len v.regions v.ends (group_takes ks)) (group_short ks small) x
      (Contains-permutation _ (group_part v ks) x (IsPermutation-sym _ _ empty.blocks)
      (contains_tail _ empty.index x has))

  heap_few : empty.links.head.len ≤ most_segment
  heap_few = segment_short c g.ks g.tree_at g.heap_at [] empty.index empty.links index_short

  pub new_fits : Fits c (new_place g empty.index)
  new_fits = (
    short_header c g.header_at empty.held.prefix empty.held.parts empty.held.header header_few,
    small_heap c g.heap_at empty.links.head empty.links.spelled heap_few,
    tt,
  )
