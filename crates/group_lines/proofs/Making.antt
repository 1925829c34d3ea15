-- The line that makes a group is done.
use Rattle.std.proofs.Common.{◌≡◌, ◌⊎◌, inl, inr, ℕ, ◌+◌, ◌<◌, ◌≤◌, ◌^◌, List, [], ◌∷◌, ◌++◌, append-nil, Ok, None, refl, sym, ◌∙◌}
use Rattle.std.proofs.Common.{ap, subst, arith, ⊎_elim, length, max, Option}
use Rattle.std.specs.List.{Contains}
use Rattle.std.specs.List.Sorted.{IsPermutation}
use Rattle.std.proofs.lemmas.List.Elements.{Contains-append_left, Contains-append_right}
use Rattle.h5_base.specs.declared.extent.Extent.{Extent}
use Rattle.h5_base.specs.declared.extent.MemClass.TheVariants as class
use Rattle.outside.specs.Array.{Array, Ends, bytes_of}
use Rattle.outside.specs.Blocks.{Agree, AllApart, Block, placed}
use Rattle.outside.specs.Revisions.{Committed}
use Rattle.outside.specs.Space.{SpaceView}
use Rattle.block_space.specs.Catalogue.{blocks_of as ranges_of}
use Rattle.block_space.specs.Plans.{ends_after, planned, taken_blocks}
use Rattle.block_space.specs.Written.{TellsAllWritten}
use Rattle.block_space.specs.declared.plan.Take.{Take}
use Rattle.block_space.proofs.Ends.{ends_as_one}
use Rattle.object_model.specs.Tree.{AreOrdered, Empty, Group, Name, dir_of, edit, insert, last_of}
use Rattle.object_model.specs.declared.command.Command.TheVariants as command
use Rattle.node_codec.specs.Heap.{SpellsHeap}
use Rattle.file_model.specs.EditLaws.{group_at}
use Rattle.file_model.specs.Groups.{Found, HasLinks, Ks}
use Rattle.file_model.specs.Holds.{AreHeld, Full, FullLinks, GroupAt, HoldsFull, IsGroup, IsHeld, blocks_in, blocks_of}
use Rattle.file_model.specs.Holds.{founds, ks_of, plain}
use Rattle.file_model.specs.Laws.{all_blocks}
use Rattle.file_model.specs.Limits.{AllFit, Fits, IsSmallHeap, depth_to, most_segment, objects_of}
use Rattle.file_model.proofs.EditLemmas.{insert_held}
use Rattle.file_model.proofs.LinkEdits.{insert_one}
use Rattle.group_room.specs.Index.{AreSmall}
use Rattle.group_edit.specs.Edited.{AreNewBlocks, HasInserted, WritesWithin}
use Rattle.group_edit.specs.Links.{HoldsGroup}
use Rattle.group_room.specs.Room.{Takes, group_takes}
use Rattle.new_group.specs.Group.{HoldsEmpty}
use Rattle.object_edit.specs.Making.{IsMade, MakesGroup, all_taken, group_part, link_part, target_to}
use Rattle.object_edit.specs.declared.making.GroupPlan.{GroupPlan}
use Rattle.tree_places.specs.Held.{HoldsPlaces}
use Rattle.tree_places.specs.Kept.{IsSameGroup}
use Rattle.tree_places.specs.Places.{add_place, to_add}
use Rattle.tree_places.proofs.Counts.{add_limits}
use Rattle.tree_places.proofs.Fits.{fit_links}
use Rattle.tree_places.proofs.Held.{add_held as held_after}
use Rattle.tree_places.proofs.Places.{inserted_links}
use Rattle.tree_places.proofs.Steps.{add_there}
use Rattle.session_model.specs.State.{InReach, InTaken, IsTouched, Plan, State, bounds, full_of}
use Rattle.session_model.specs.TooLarge.{IsTooLarge}
use Rattle.group_lines.specs.Edits.{IsIndexEdit}
use Rattle.group_lines.specs.Lines.{IsLineDone, WasDone, new_place, place_of}
use Rattle.group_lines.specs.States.{plain_setting}
use Rattle.group_lines.proofs.Around.{agree_itself, all_kept, below_stay, ends_below, index_edit, index_taken_apart}
use Rattle.group_lines.proofs.Around.{index_there, taken_apart}
use Rattle.group_lines.proofs.Done.{are_built, ends_risen, or_true}
use Rattle.group_lines.proofs.IndexEdit.{edited, now as now_of, same_group}
use Rattle.group_lines.proofs.Links.{links_fit, links_held, small_heap}
use Rattle.group_lines.proofs.Made.{IsLeft, all_moved, depth_fits, new_fits, none_left, objects_fit}
use Rattle.group_lines.proofs.Parents.{IsLacking, added_to}
use Rattle.group_lines.proofs.Plans.{group as group_of, mkgroup_plan, was}
use Rattle.group_lines.proofs.Settled.{moved as moved_of, stands_after, state_after}
use Rattle.group_lines.proofs.Small.{AreShort, both_short, links_short, name_short, segment_short, segment_there}
use Rattle.group_lines.proofs.Small.{short_moved, taken_short}
use Rattle.group_lines.proofs.Taken.{taken_len, taken_one, taken_there}
use Rattle.group_lines.proofs.Walked.{walked_fits, walked_held}

module _ (v w : SpaceView) (s : State) (met : List Block) (p : List Name) (parent : GroupAt) (below : FullLinks)
    (made : GroupPlan) (ranges : List Extent) (d : WasDone v w s met made.plan ranges)
    (found : to_add (full_of s) p ≡ Ok (Group parent below)) (ks : AreSmall (ks_of s.super))
    (small : ¬ IsTooLarge (full_of s) (command.Mkgroup p))
    (short : (x : Take) → Contains made.plan.takes x → x.class ≡ class.LocalHeap → x.len ≤ most_segment)
    (makes : MakesGroup v (place_of s.super parent) (last_of p) made) where
  lacking : IsLacking (full_of s) p parent below
  lacking = added_to (full_of s) p parent below found

  -- the parent, as it was
  abbrev old : IsGroup s.array (ks_of s.super) parent (founds below)
  old = was v s met d.stands (dir_of p) parent below lacking.walked

  abbrev index : List Block
  index = old.index

  abbrev name : Name
  name = last_of p

  abbrev taken : List Block
  taken = taken_blocks v.regions v.ends made.plan.takes

  abbrev group : HoldsGroup v.array (place_of s.super parent) (founds below) index
  group = group_of v s met d.stands (dir_of p) parent below lacking.walked

  within : WritesWithin index made.plan
  within = makes.within (founds below) index group

  -- the blocks that are taken end below 2^64
  low : (x : Block) → Contains taken x → x.start + x.len < 2 ^ 64
  low x has =
      let (t, at) = taken_one _ made.plan.takes taken x
      (taken_there v.regions v.ends made.plan.takes (ends_as_one v.regions v.ends d.regions)) has in
      omega (
        arith,
        at.len,
        at.before,
        ends_below v w s met made.plan (dir_of p) parent below d.regions d.stands d.kept d.done d.fits d.room lacking.walked
            t.class,
        d.regions.fits t.class,
      )

  is_made : IsMade v (place_of s.super parent) (founds below) index group name made makes.link_takes v.array
  is_made = makes.makes (founds below) index group v.array (agree_itself v.array index) low
      (index_taken_apart v w s met made.plan (dir_of p) parent below d.regions d.stands d.kept d.done d.fits d.room
      lacking.walked)

  empty : HoldsEmpty w.array made.at (group_part v (ks_of s.super))
  empty = subst (λ (c : Array). HoldsEmpty c made.at (group_part v (ks_of s.super))) (sym d.done.array) is_made.empty

  inserted : HasInserted v.array w.array (place_of s.super parent) (founds below) index group name (target_to made.at)
      (link_part v (ks_of s.super) makes.link_takes)
  inserted = subst (λ (c : Array). HasInserted v.array c (place_of s.super parent) (founds below) index group name
      (target_to made.at) (link_part v (ks_of s.super) makes.link_takes)) (sym d.done.array) is_made.inserted

  -- the new group
  abbrev new : Full
  new = new_place made.at empty.index

  abbrev after : FullLinks
  after = insert below name new

  links_are : inserted.links ≡ founds after
  links_are = inserted_links below name new inserted.links inserted.new.ordered inserted.more

  now : HasLinks w.array (ks_of s.super) parent.tree_at parent.heap_at (founds after) inserted.blocks
  now = subst (λ (fs : List Found). HasLinks w.array (ks_of s.super) parent.tree_at parent.heap_at fs inserted.blocks)
      links_are inserted.new

  stay : Agree s.array w.array (blocks_in below)
  stay = below_stay v w s met made.plan (dir_of p) parent below d.regions d.stands d.kept d.done d.fits d.room
      lacking.walked within

  below_held : AreHeld s.array (ks_of s.super) below
  below_held = (walked_held s.array (ks_of s.super) (dir_of p) (full_of s) (Group parent below) lacking.walked
      d.stands.held.held).1

  new_held : IsHeld w.array (ks_of s.super) new
  new_held = (
    subst (λ (k : Ks). IsGroup w.array k (group_at made.at.header_at 40 made.at.tree_at made.at.heap_at
        empty.index) []) makes.ks empty.held,
    tt,
  )

  others : AreHeld w.array (ks_of s.super) after
  others = insert_held w.array (ks_of s.super) below name new
      (links_held s.array w.array (ks_of s.super) below stay below_held) new_held

  -- ---- blocks

  left : IsLeft index inserted.blocks (link_part v (ks_of s.super) makes.link_takes)
  left = ⊎_elim
      (λ stays. none_left index inserted.blocks _ stays.2)
      (λ wider. record {
        gone = placed group.head.segment_at group.head.len;
        were = segment_there v.array (ks_of s.super) parent.tree_at parent.heap_at (founds below) index group;
        moved = wider;
      })
      inserted.are

  grown : IsPermutation (blocks_of new ++ blocks_in below) (blocks_in after)
  grown = (insert_one below name new).1

  own : IsPermutation (group_part v (ks_of s.super)) (blocks_of new)
  own = subst (IsPermutation (group_part v (ks_of s.super))) (sym (append-nil _)) empty.blocks

  moved : IsPermutation (inserted.blocks ++ (blocks_in after ++ left.gone)) (index ++ (blocks_in below ++ taken))
  moved = subst (λ (bs : List Block). IsPermutation (inserted.blocks ++ (blocks_in after ++ left.gone))
      (index ++ (blocks_in below ++ bs))) (sym is_made.taken)
      (all_moved inserted.blocks (blocks_in after) left.gone index (blocks_in below) (blocks_of new)
      (group_part v (ks_of s.super)) (link_part v (ks_of s.super) makes.link_takes) left.moved grown own)

  -- ---- the tree

  edit_is : IsIndexEdit s.array w.array (bounds (plain_setting v) s.ends) (bounds (plain_setting v) w.ends) s.super s.root
      s.links d.stands.held (dir_of p) parent below after taken left.gone
  edit_is = index_edit v w s met made.plan (dir_of p) parent below d.regions d.stands d.kept d.done d.fits d.room
      lacking.walked after left.gone inserted.blocks within now others moved

  group_now : GroupAt
  group_now = now_of s.array w.array (bounds (plain_setting v) s.ends) (bounds (plain_setting v) w.ends) s.super s.root
      s.links d.stands.held (dir_of p) parent below after taken left.gone edit_is

  same : IsSameGroup group_now parent
  unfolding group_now
  same = same_group s.array w.array (bounds (plain_setting v) s.ends) (bounds (plain_setting v) w.ends) s.super s.root
      s.links d.stands.held (dir_of p) parent below after taken left.gone edit_is

  abbrev tree : Full
  tree = add_place (λ _. group_now) p new (full_of s)

  holds : HoldsPlaces w.array (bounds (plain_setting v) w.ends) s.super tree
  unfolding group_now
  holds = held_after s.array w.array (bounds (plain_setting v) s.ends) (bounds (plain_setting v) w.ends) s.super s.root
      parent group_now s.links below p new d.stands.held lacking.walked same
      (edited s.array w.array (bounds (plain_setting v) s.ends) (bounds (plain_setting v) w.ends) s.super s.root s.links
      d.stands.held (dir_of p) parent below after taken left.gone edit_is)

  -- ---- limits

  limits : (objects_of tree ≡ objects_of (full_of s) + 1)
      × (depth_to tree ≡ max (depth_to (full_of s)) (length (dir_of p) + 2))
  limits = add_limits (λ _. group_now) p new (full_of s) parent below lacking.walked

  fit : Fits s.array (Group parent below)
  fit = walked_fits s.array (dir_of p) (full_of s) (Group parent below) lacking.walked d.stands.within.parts

  new_fit : Fits w.array new
  new_fit = new_fits v w.array (ks_of s.super) ks made.at empty

  all_fit : AllFit w.array after
  all_fit = (fit_links w.array below name new (links_fit s.array w.array (ks_of s.super) below below_held stay fit.2)).0
      new_fit

  old_short : AreShort index
  old_short = links_short v.array (ks_of s.super) parent.tree_at parent.heap_at (founds below) index group ks
      (fit.1 group.head (subst (λ (b : Array). SpellsHeap group.head (bytes_of b parent.heap_at 32)) (sym d.stands.told.array)
      group.spelled))

  link_short : AreShort (link_part v (ks_of s.super) makes.link_takes)
  link_short = taken_short makes.link_takes _ (taken_len v.regions _ makes.link_takes)
      (name_short (ks_of s.super) ks group.index group.level group.head.len
      (bytes_of v.array group.head.segment_at group.head.len) name makes.link_takes
      (makes.name_takes (founds below) index group)
      (λ t has heap. short t (subst (λ (ts : List Take). Contains ts t) (sym makes.takes)
      (Contains-append_right (group_takes (ks_of s.super)) makes.link_takes t has)) heap))

  now_short : AreShort inserted.blocks
  now_short x has = short_moved (inserted.blocks ++ left.gone) (index ++ link_part v (ks_of s.super) makes.link_takes)
      left.moved (both_short index _ old_short link_short) x (Contains-append_left inserted.blocks left.gone x has)

  small_now : IsSmallHeap w.array parent.heap_at
  small_now = small_heap w.array parent.heap_at inserted.new.head inserted.new.spelled
      (segment_short w.array (ks_of s.super) parent.tree_at parent.heap_at inserted.links inserted.blocks inserted.new
      now_short)

  abbrev line_plan : Plan (plain_setting v) s (command.Mkgroup p)
  line_plan = mkgroup_plan v s met d.stands p parent below lacking.walked made makes ranges d.ranged.touched

  -- ---- the line

  pub line : (now : GroupAt) × (index : List Block) × IsSameGroup now parent
      × IsLineDone v w s (command.Mkgroup p) met made.plan ranges
      (add_place (λ _. now) p (new_place made.at index) (full_of s))
  unfolding group_now
  line =
      let (root, links, is, held) = holds in
      (group_now, empty.index, same, done root links is held)
    where
      done : (root : GroupAt) (links : FullLinks) (is : tree ≡ Group root links)
          (held : HoldsFull w.array (bounds (plain_setting v) w.ends) s.super root links)
          → IsLineDone v w s (command.Mkgroup p) met made.plan ranges tree
      done root links is held =
          let there : Group root links ≡ edit (dir_of p) (λ _. Group group_now after) (full_of s) =
          sym is ∙ add_there (λ _. group_now) p new (full_of s) parent below lacking.walked in
          let later : List Block = all_blocks s.super held.driver (Group root links) in
          record {
            new = state_after w s made.plan root links;
            planned = line_plan;
            takes = refl;
            ranges_are = refl;
            does = record {
              tree = ap plain (sym is);
              held = held;
              ends = ends_risen v w s.ends met made.plan d.regions d.stands.told.ends d.done.ends d.fits d.ranged.needs;
              built = are_built v w s.ends met made.plan d.regions d.stands.told.ends d.done.ends d.fits d.ranged.needs
                  (bounds (plain_setting v) w.ends) (all_blocks s.super d.stands.held.driver (full_of s)) later left.gone
                  (all_kept v w s met made.plan (dir_of p) parent below d.regions d.stands d.kept d.done d.fits d.room
                  lacking.walked)
                  (moved_of v w s met made.plan (dir_of p) parent below after left.gone d.stands d.fits d.room edit_is root
                  links there held)
                  (λ y has. index_there v w s met made.plan (dir_of p) parent below d.regions d.stands d.kept d.done d.fits
                  d.room lacking.walked y (left.were y has))
                  (taken_apart v w s met made.plan (dir_of p) parent below d.regions d.stands d.kept d.done d.fits d.room
                  lacking.walked);
              stays = λ a out. d.ranged.stays a out ∙ sym (ap (λ (b : Array). b a) d.stands.told.array);
              flushed = tt;
              blocks = refl;
              pages = subst (λ (m : Option Committed). TellsAllWritten (ranges_of ranges) m w.committed)
                  (sym d.stands.told.committed) d.ranged.pages;
              history = d.done.history ∙ sym d.stands.told.history;
              edited = sym (or_true s.edited);
            };
            stands = stands_after v w s met made.plan (dir_of p) parent below after left.gone d.stands d.fits d.room edit_is
                root links there held (omega (
                  arith,
                  limits.1,
                  ap depth_to is,
                  d.stands.within.depth,
                  depth_fits (full_of s) p small,
                ))
                (omega (arith, limits.0, ap objects_of is, objects_fit (full_of s) p small)) small_now all_fit;
            tree = sym is;
            super = refl;
          }
