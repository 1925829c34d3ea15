-- The line that removes a link is done.
use Rattle.std.proofs.Common.{◌≡◌, ◌⊎◌, inl, inr, ℕ, ◌+◌, ◌<◌, ◌≤◌, List, [], ◌∷◌, ◌++◌, append-nil, Ok, None, refl, sym, ◌∙◌}
use Rattle.std.proofs.Common.{ap, subst, arith, ⊎_elim, Option}
use Rattle.std.specs.List.{AllZip}
use Rattle.std.specs.List.Sorted.{IsPermutation}
use Rattle.std.proofs.lemmas.List.Sorted.{IsPermutation-append, IsPermutation-append_comm, IsPermutation-trans}
use Rattle.h5_base.specs.declared.extent.Extent.{Extent}
use Rattle.outside.specs.Array.{Array, Ends, bytes_of}
use Rattle.outside.specs.Blocks.{Agree, Block}
use Rattle.outside.specs.Revisions.{Committed}
use Rattle.outside.specs.Space.{SpaceView}
use Rattle.block_space.specs.Catalogue.{blocks_of as ranges_of}
use Rattle.block_space.specs.Plans.{LiesInOne, planned, taken_blocks}
use Rattle.block_space.specs.Written.{TellsAllWritten}
use Rattle.block_space.specs.declared.plan.EditPlan.{EditPlan}
use Rattle.block_space.specs.declared.plan.Take.{Take}
use Rattle.object_model.specs.Tree.{AreOrdered, Group, Name, dir_of, edit, last_of, remove}
use Rattle.object_model.specs.declared.command.Command.TheVariants as command
use Rattle.node_codec.specs.Heap.{SpellsHeap}
use Rattle.file_model.specs.Groups.{Found, HasLinks}
use Rattle.file_model.specs.Holds.{AreHeld, Full, FullLinks, GroupAt, HoldsFull, IsGroup, blocks_in, blocks_of}
use Rattle.file_model.specs.Holds.{founds, ks_of, plain}
use Rattle.file_model.specs.Laws.{all_blocks}
use Rattle.file_model.specs.Limits.{AllFit, Fits, IsSmallHeap, depth_to, objects_of}
use Rattle.file_model.proofs.EditLemmas.{remove_held}
use Rattle.file_model.proofs.HeldOrder.{found_names}
use Rattle.file_model.proofs.LinkEdits.{remove_one}
use Rattle.group_edit.specs.Edited.{HasRemoved, Removes, WritesWithin}
use Rattle.group_edit.specs.Links.{HoldsGroup}
use Rattle.tree_places.specs.Held.{HoldsPlaces}
use Rattle.tree_places.specs.Kept.{IsSameGroup}
use Rattle.tree_places.specs.Places.{remove_place, to_remove}
use Rattle.tree_places.proofs.Counts.{remove_limits}
use Rattle.tree_places.proofs.Fits.{fit_links}
use Rattle.tree_places.proofs.Held.{remove_held as held_after_removal}
use Rattle.tree_places.proofs.Places.{removed_links}
use Rattle.tree_places.proofs.Steps.{remove_there}
use Rattle.session_model.specs.Line.{IsBuilt}
use Rattle.session_model.specs.State.{InReach, InTaken, IsTouched, Plan, State, bounds, full_of}
use Rattle.session_model.specs.Reach.{InParent}
use Rattle.group_lines.specs.Edits.{IsIndexEdit}
use Rattle.group_lines.specs.Lines.{IsLineDone, RemoveLine, WasDone, place_of}
use Rattle.group_lines.specs.States.{plain_setting}
use Rattle.group_lines.proofs.Around.{agree_itself, below_stay, index_apart, index_edit}
use Rattle.group_lines.proofs.IndexEdit.{edited, now as now_of, same_group}
use Rattle.group_lines.proofs.Done.{ends_risen, or_true}
use Rattle.group_lines.proofs.Links.{links_fit, links_held, small_heap}
use Rattle.group_lines.proofs.Parents.{IsLoose, removed_from}
use Rattle.group_lines.proofs.Plans.{group as group_of, remove_plan, was}
use Rattle.group_lines.proofs.Settled.{stands_after, state_after}
use Rattle.group_lines.proofs.Walked.{walked_fits, walked_held}

module _ (v w : SpaceView) (s : State) (met : List Block) (p : List Name) (parent : GroupAt) (below : FullLinks)
    (plan : EditPlan) (ranges : List Extent) (d : WasDone v w s met plan ranges)
    (found : to_remove (full_of s) p ≡ Ok (Group parent below))
    (removes : Removes v (place_of s.super parent) (last_of p) plan) where
  loose : IsLoose (full_of s) p parent below
  loose = removed_from (full_of s) p parent below found

  -- the parent, as it was
  abbrev old : IsGroup s.array (ks_of s.super) parent (founds below)
  old = was v s met d.stands (dir_of p) parent below loose.walked

  abbrev index : List Block
  index = old.index

  abbrev name : Name
  name = last_of p

  abbrev after : FullLinks
  after = remove below name

  -- what goes with the link
  abbrev gone : List Block
  gone = blocks_of loose.child_is

  abbrev group : HoldsGroup v.array (place_of s.super parent) (founds below) index
  group = group_of v s met d.stands (dir_of p) parent below loose.walked

  within : WritesWithin index plan
  within = removes.within (founds below) index group

  none_taken : taken_blocks v.regions v.ends plan.takes ≡ []
  none_taken = ap (taken_blocks v.regions v.ends) removes.takes

  removed : HasRemoved v.array w.array (place_of s.super parent) (founds below) index group name
  removed = subst (λ (c : Array). HasRemoved v.array c (place_of s.super parent) (founds below) index group name)
      (sym d.done.array)
      (removes.makes (founds below) index group v.array v.ends (agree_itself v.array index)
      (index_apart v w s met plan (dir_of p) parent below d.regions d.stands d.kept d.done d.fits d.room loose.walked))

  links_are : removed.links ≡ founds after
  links_are = removed_links below name removed.link removed.links
      (subst AreOrdered (found_names below) old.links.ordered) removed.named removed.fewer

  now : HasLinks w.array (ks_of s.super) parent.tree_at parent.heap_at (founds after) removed.blocks
  now = subst (λ (fs : List Found). HasLinks w.array (ks_of s.super) parent.tree_at parent.heap_at fs removed.blocks)
      links_are removed.new

  stay : Agree s.array w.array (blocks_in below)
  stay = below_stay v w s met plan (dir_of p) parent below d.regions d.stands d.kept d.done d.fits d.room loose.walked
      within

  below_held : AreHeld s.array (ks_of s.super) below
  below_held = (walked_held s.array (ks_of s.super) (dir_of p) (full_of s) (Group parent below) loose.walked
      d.stands.held.held).1

  others : AreHeld w.array (ks_of s.super) after
  others = remove_held w.array (ks_of s.super) below name (links_held s.array w.array (ks_of s.super) below stay below_held)

  moved : IsPermutation (removed.blocks ++ (blocks_in after ++ gone))
      (index ++ (blocks_in below ++ taken_blocks v.regions v.ends plan.takes))
  moved = subst (λ (bs : List Block). IsPermutation (removed.blocks ++ (blocks_in after ++ gone))
      (index ++ (blocks_in below ++ bs))) (sym none_taken)
      (subst (λ (bs : List Block). IsPermutation (removed.blocks ++ (blocks_in after ++ gone)) (index ++ bs))
      (sym (append-nil (blocks_in below)))
      (IsPermutation-append removed.blocks index (blocks_in after ++ gone) (blocks_in below) removed.are
      (IsPermutation-trans _ _ _ (IsPermutation-append_comm (blocks_in after) gone)
      (remove_one below name loose.child_is loose.found).1)))

  abbrev Edit : Type 0
  Edit = IsIndexEdit s.array w.array (bounds (plain_setting v) s.ends) (bounds (plain_setting v) w.ends) s.super s.root
      s.links d.stands.held (dir_of p) parent below after (taken_blocks v.regions v.ends plan.takes) gone

  edit_is : Edit
  edit_is = index_edit v w s met plan (dir_of p) parent below d.regions d.stands d.kept d.done d.fits d.room loose.walked
      after gone removed.blocks within now others moved

  group_now : GroupAt
  group_now = now_of s.array w.array (bounds (plain_setting v) s.ends) (bounds (plain_setting v) w.ends) s.super s.root
      s.links d.stands.held (dir_of p) parent below after (taken_blocks v.regions v.ends plan.takes) gone edit_is

  same : IsSameGroup group_now parent
  unfolding group_now
  same = same_group s.array w.array (bounds (plain_setting v) s.ends) (bounds (plain_setting v) w.ends) s.super s.root
      s.links d.stands.held (dir_of p) parent below after (taken_blocks v.regions v.ends plan.takes) gone edit_is

  abbrev tree : Full
  tree = remove_place (λ _. group_now) p (full_of s)

  holds : HoldsPlaces w.array (bounds (plain_setting v) w.ends) s.super tree
  unfolding group_now
  holds = held_after_removal s.array w.array (bounds (plain_setting v) s.ends) (bounds (plain_setting v) w.ends) s.super
      s.root parent group_now s.links below p d.stands.held loose.walked same
      (edited s.array w.array (bounds (plain_setting v) s.ends) (bounds (plain_setting v) w.ends) s.super s.root s.links
      d.stands.held (dir_of p) parent below after (taken_blocks v.regions v.ends plan.takes) gone edit_is)

  limits : (objects_of tree + objects_of loose.child_is ≡ objects_of (full_of s))
      × (depth_to tree ≤ depth_to (full_of s))
  limits = remove_limits (λ _. group_now) p (full_of s) loose.child_is parent below loose.walked loose.found

  fit : Fits s.array (Group parent below)
  fit = walked_fits s.array (dir_of p) (full_of s) (Group parent below) loose.walked d.stands.within.parts

  all_fit : AllFit w.array after
  all_fit = (fit_links w.array below name (Group parent below)
      (links_fit s.array w.array (ks_of s.super) below below_held stay fit.2)).1

  small : IsSmallHeap w.array parent.heap_at
  small = small_heap w.array parent.heap_at removed.new.head removed.new.spelled
      (omega (
        arith,
        removed.heads.1,
        fit.1 group.head
            (subst (λ (b : Array). SpellsHeap group.head (bytes_of b parent.heap_at 32)) (sym d.stands.told.array)
            group.spelled),
      ))

  abbrev line_plan : Plan (plain_setting v) s (command.Rm p)
  line_plan = remove_plan v s met d.stands p parent below loose.walked plan ranges d.ranged.touched removes

  -- ---- the line

  pub line : (now : GroupAt) × IsSameGroup now parent
      × IsLineDone v w s (command.Rm p) met plan ranges (remove_place (λ _. now) p (full_of s))
  unfolding group_now
  line =
      let (root, links, is, held) = holds in
      (group_now, same, done root links is held)
    where
      done : (root : GroupAt) (links : FullLinks) (is : tree ≡ Group root links)
          (held : HoldsFull w.array (bounds (plain_setting v) w.ends) s.super root links)
          → IsLineDone v w s (command.Rm p) met plan ranges tree
      done root links is held =
          let there : Group root links ≡ edit (dir_of p) (λ _. Group group_now after) (full_of s) =
          sym is ∙ remove_there (λ _. group_now) p (full_of s) parent below loose.walked in
          let later : List Block = all_blocks s.super held.driver (Group root links) in
          record {
            new = state_after w s plan root links;
            planned = line_plan;
            takes = refl;
            ranges_are = refl;
            does = record {
              tree = ap plain (sym is);
              held = held;
              ends = ends_risen v w s.ends met plan d.regions d.stands.told.ends d.done.ends d.fits d.ranged.needs;
              built = record {
                built = [];
                are = subst (λ (ts : List Take). AllZip (IsBuilt (plain_setting v) s.ends ts later) ts [])
                    (sym removes.takes) tt;
                apart = tt;
              };
              stays = λ a out. d.ranged.stays a out ∙ sym (ap (λ (b : Array). b a) d.stands.told.array);
              flushed = tt;
              blocks = refl;
              pages = subst (λ (m : Option Committed). TellsAllWritten (ranges_of ranges) m w.committed)
                  (sym d.stands.told.committed) d.ranged.pages;
              history = d.done.history ∙ sym d.stands.told.history;
              edited = sym (or_true s.edited);
            };
            stands = stands_after v w s met plan (dir_of p) parent below after gone d.stands d.fits d.room edit_is root
                links there held (omega (arith, limits.1, ap depth_to is, d.stands.within.depth))
                (omega (arith, limits.0, ap objects_of is, d.stands.within.objects)) small all_fit;
            tree = sym is;
            super = refl;
          }
