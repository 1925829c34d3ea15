-- What the tree of a session tells of a line that adds or removes a link, before anything is planned.
use Rattle.std.proofs.Common.{◌≡◌, ◌⊎◌, inl, inr, ℕ, ℤ, ◌+◌, ◌<◌, ◌≤◌, Bool, true, false, List, length, Option, Some, None, IsTrue}
use Rattle.std.specs.Prelude.{if◌then◌else◌, [], nat_lt}
use Rattle.std.proofs.lemmas.Bool.{false≢true, ltb-false}
use Rattle.std.proofs.Common.{Result, Ok, Err, refl, sym, ◌∙◌, ap, subst, arith, ⊎_elim}
use Rattle.outside.specs.Space.{SpaceView}
use Rattle.object_model.specs.Step.{Gives}
use Rattle.object_model.specs.Tree.{Empty, Group, Leaf, Name, child, dir_of, find, last_of, walk}
use Rattle.object_model.specs.declared.answer.Answer.TheVariants as answer
use Rattle.object_model.specs.declared.answer.Code.{Code}
use Rattle.object_model.specs.declared.answer.Code.TheVariants as code
use Rattle.object_model.specs.declared.command.Command.TheVariants as command
use Rattle.file_model.specs.Holds.{Full, FullLinks, GroupAt, plain}
use Rattle.file_model.specs.EditLaws.{group_at}
use Rattle.file_model.specs.Limits.{most_depth, most_objects, objects_of}
use Rattle.tree_nodes.specs.declared.node.NodeId.{NodeId}
use Rattle.tree_nodes.specs.Entries.{object_count}
use Rattle.tree_places.specs.Kept.{FindsPlace, IsPlaceAt}
use Rattle.tree_places.specs.Places.{add_place, has_children, lacking, loosely, to_add, to_remove}
use Rattle.tree_places.proofs.Counts.{places_count}
use Rattle.group_lines.proofs.Answered.{mkgroup_read_only, mkgroup_refused, mkgroup_steps, remove_read_only, remove_refused}
use Rattle.session_model.specs.Line.{TooLarge}
use Rattle.session_model.specs.State.{State, full_of}
use Rattle.session_model.specs.TooLarge.{IsObjectOver, IsTooLarge, TooDeep, TooMany}
use Rattle.outside.specs.Blocks.{Block}
use Rattle.file_model.specs.Groups.{Found as FoundLink}
use Rattle.tree_nodes.specs.Entries.{superblock_of}
use Rattle.group_edit.specs.Links.{HasName, HoldsGroup}
use Rattle.group_rows.specs.Reading.{IsHeld}
use Rattle.group_rows.specs.declared.group.GroupAt.{GroupAt as GroupPlace}
use Rattle.group_lines.specs.Lines.{place_of}
use Rattle.group_lines.proofs.Parents.{added_to, removed_from}
use Rattle.h5_session.proofs.Planned.{has_there, held, lacks_there, same_place}
use Rattle.h5_session.specs.Making.{CanDrop, CanMake, IsAdmitted}
use Rattle.h5_session.specs.Session.{IsIn, setting_in, space_in}
use Rattle.h5_session.specs.Steps.{IsRefusedAs}
use Rattle.h5_session.specs.declared.session.Session.{Session}

-- any new group without links
abbrev pub new_one : Full
new_one = Group (group_at 0 0 0 0 []) Empty

abbrev IsGroupAt : Full → Type 0
IsGroupAt u = (g : GroupAt) × (ls : FullLinks) × (u ≡ Group g ls)

-- two results of finding a parent are equal
abbrev Same : (r s : Result Full Code) → Type 0
Same r s = r ≡ s

same_group : (g : GroupAt) (ls : FullLinks) (u : Full) → Same (Ok (Group g ls)) (Ok u) → IsGroupAt u
same_group g ls u is =
    let same : Group g ls ≡ u = cc in
    (g, ls, sym same)

-- what a link is added to is a group
add_group : (t : Full) (p : List Name) (u : Full) → to_add t p ≡ Ok u → IsGroupAt u
add_group t p u is = go (walk t (dir_of p)) refl
  where
    within : (g : GroupAt) (ls : FullLinks) (o : Option Full) → find ls (last_of p) ≡ o
        → lacking (Group g ls) (last_of p) ≡ Ok u → IsGroupAt u
    within g ls (Some x) some on = let stop = rw some at on in cc
    within g ls None none on = same_group g ls u (let so : Same (Ok (Group g ls)) (Ok u) = rw none at on in so)

    go : (r : Result Full Code) → walk t (dir_of p) ≡ r → IsGroupAt u
    go (Err code) there = let stop = rw there at is in cc
    go (Ok (Leaf l)) there = let stop = rw there at is in cc
    go (Ok (Group g ls)) there = within g ls (find ls (last_of p)) refl (rw there at is)

-- and so is what one is removed from
remove_group : (t : Full) (p : List Name) (u : Full) → to_remove t p ≡ Ok u → IsGroupAt u
remove_group t p u is = go (walk t (dir_of p)) refl
  where
    within : (g : GroupAt) (ls : FullLinks) (o : Option Full) → find ls (last_of p) ≡ o
        → loosely (Group g ls) (last_of p) ≡ Ok u → IsGroupAt u
    within g ls None none on = let stop = rw none at on in cc
    within g ls (Some x) some on = chosen (has_children x) refl (rw some at on)
      where
        chosen : (b : Bool) → has_children x ≡ b
            → (if has_children x then Err code.NotEmpty else Ok (Group g ls)) ≡ Ok u → IsGroupAt u
        chosen true full so = let stop = rw full at so in cc
        chosen false empty so = same_group g ls u (let on : Same (Ok (Group g ls)) (Ok u) = rw empty at so in on)

    go : (r : Result Full Code) → walk t (dir_of p) ≡ r → IsGroupAt u
    go (Err code) there = let stop = rw there at is in cc
    go (Ok (Leaf l)) there = let stop = rw there at is in cc
    go (Ok (Group g ls)) there = within g ls (find ls (last_of p)) refl (rw there at is)

-- ---- tests

pub not_below : (n : ℕ) → ¬ IsTrue (nat_lt n most_objects) → most_objects ≤ n
not_below n other = go (nat_lt n most_objects) refl
  where
    go : (b : Bool) → nat_lt n most_objects ≡ b → most_objects ≤ n
    go true is = absurd (other is)
    go false is = ltb-false n most_objects is

pub never_true : ¬ IsTrue false
never_true is = false≢true is

-- whether a space that is looked at can be written to
pub closed_view : {V : Type 0} (view : V → SpaceView) (a b : V) → a ≡ b → (w : Bool) → w ≡ (view a).writable → w ≡ false
    → (view b).writable ≡ false
closed_view view a b same w told closed = ap (λ (x : _). (view x).writable) (sym same) ∙ sym told ∙ closed

pub open_view : {V : Type 0} (view : V → SpaceView) (a b : V) → a ≡ b → (w : Bool) → w ≡ (view a).writable → w ≡ true
    → (view b).writable ≡ true
open_view view a b same w told writable = ap (λ (x : _). (view x).writable) (sym same) ∙ sym told ∙ writable

module _ {V : Type 0} (view : V → SpaceView) (session : Session V) (s : State) (i : IsIn view session s)
    (p : List Name) where
  abbrev IsOpenFor : Type 0
  IsOpenFor = (view (space_in session)).writable ≡ true

  -- ---- `mkgroup`

  pub make_closed : (view (space_in session)).writable ≡ false → IsRefusedAs view session s (command.Mkgroup p) code.ReadOnly
  make_closed closed secs = mkgroup_read_only (setting_in view session) s p secs (λ g. g) new_one refl closed

  pub make_refused : IsOpenFor → (why : Code) → FindsPlace session.tree (to_add (full_of s) p) (Err why)
      → IsRefusedAs view session s (command.Mkgroup p) why
  make_refused writable why finds = go (to_add (full_of s) p) refl finds
    where
      go : (r : Result Full Code) → to_add (full_of s) p ≡ r → FindsPlace session.tree r (Err why)
          → IsRefusedAs view session s (command.Mkgroup p) why
      go (Ok u) is none = absurd none
      go (Err other) is same = λ at. mkgroup_refused (setting_in view session) s p at (λ g. g) new_one refl why writable
          (is ∙ ap Err same)

  -- the parent that was found
  pub record IsParent (id : NodeId) : Type 0 where
    pub parent : GroupAt
    pub below : FullLinks
    pub found : to_add (full_of s) p ≡ Ok (Group parent below)
    pub at : IsPlaceAt session.tree id (Group parent below)

  pub make_parent : (id : NodeId) → FindsPlace session.tree (to_add (full_of s) p) (Ok id) → IsParent id
  make_parent id finds = go (to_add (full_of s) p) refl finds
    where
      go : (r : Result Full Code) → to_add (full_of s) p ≡ r → FindsPlace session.tree r (Ok id) → IsParent id
      go (Err other) is none = absurd none
      go (Ok u) is at =
          let (g, ls, same) = add_group (full_of s) p u is in
          record { parent = g; below = ls; found = is ∙ ap Ok same; at = subst (IsPlaceAt session.tree id) same at }

  pub make_found : (r : Result NodeId Code) (id : NodeId) → FindsPlace session.tree (to_add (full_of s) p) r → r ≡ Ok id
      → IsParent id
  make_found r id finds is = make_parent id (subst (FindsPlace session.tree (to_add (full_of s) p)) is finds)

  pub make_large : (id : NodeId) → IsOpenFor → IsParent id → IsObjectOver (full_of s) p
      → IsRefusedAs view session s (command.Mkgroup p) code.Limit
  make_large id writable there large secs = TooLarge (plain (add_place (λ g. g) p new_one (full_of s))) (Gives answer.Done)
      (mkgroup_steps (setting_in view session) s p secs (λ g. g) new_one refl (Group there.parent there.below) writable
      there.found) large refl refl

  pub objects_kept : object_count session.tree ≡ objects_of (full_of s)
  objects_kept = places_count session.tree (full_of s) i.places

  pub not_admitted : (most_depth < length p) ⊎ (most_objects ≤ object_count session.tree) → IsObjectOver (full_of s) p
  not_admitted over = ⊎_elim (λ deep. TooDeep deep) (λ many. TooMany (omega (arith, objects_kept, many))) over

  pub can_make : (id : NodeId) → IsParent id → IsAdmitted session p → CanMake session s p id
  can_make id there within = record {
    parent = there.parent;
    below = there.below;
    found = there.found;
    at = there.at;
    small = over;
  }
    where
      over : ¬ IsTooLarge (full_of s) (command.Mkgroup p)
      over (TooDeep deep) = omega (arith, within.low, deep)
      over (TooMany many) = omega (arith, within.few, objects_kept, many)

  -- ---- `rm`

  pub drop_closed : (view (space_in session)).writable ≡ false → IsRefusedAs view session s (command.Rm p) code.ReadOnly
  drop_closed closed secs = remove_read_only (setting_in view session) s p secs (λ g. g) closed

  pub drop_refused : IsOpenFor → (why : Code) → FindsPlace session.tree (to_remove (full_of s) p) (Err why)
      → IsRefusedAs view session s (command.Rm p) why
  drop_refused writable why finds = go (to_remove (full_of s) p) refl finds
    where
      go : (r : Result Full Code) → to_remove (full_of s) p ≡ r → FindsPlace session.tree r (Err why)
          → IsRefusedAs view session s (command.Rm p) why
      go (Ok u) is none = absurd none
      go (Err other) is same = λ at. remove_refused (setting_in view session) s p at (λ g. g) why writable
          (is ∙ ap Err same)

  pub can_drop : (id : NodeId) → FindsPlace session.tree (to_remove (full_of s) p) (Ok id) → CanDrop session s p id
  can_drop id finds = go (to_remove (full_of s) p) refl finds
    where
      go : (r : Result Full Code) → to_remove (full_of s) p ≡ r → FindsPlace session.tree r (Ok id) → CanDrop session s p id
      go (Err other) is none = absurd none
      go (Ok u) is at =
          let (g, ls, same) = remove_group (full_of s) p u is in
          record { parent = g; below = ls; found = is ∙ ap Ok same; at = subst (IsPlaceAt session.tree id) same at }

-- ---- the group that is to be edited

module _ {V : Type 0} (view : V → SpaceView) (session : Session V) (s : State) (i : IsIn view session s) (p : List Name)
    (id : NodeId) where
  abbrev now_view : SpaceView
  now_view = view (space_in session)

  -- the place that is told of the parent is the parent's
  pub make_place : (can : CanMake session s p id) (g : GroupPlace)
      → ((q : GroupAt) (ls : FullLinks) → IsPlaceAt session.tree id (Group q ls) → g ≡ place_of (superblock_of session.tree) q)
      → g ≡ place_of s.super can.parent
  make_place can g told = told can.parent can.below can.at
      ∙ same_place (superblock_of session.tree) s.super can.parent i.super

  pub make_held : (can : CanMake session s p id) (g : GroupPlace) → g ≡ place_of s.super can.parent
      → IsHeld view session.blocks g
  make_held can g is = held now_view s i.met i.stands (dir_of p) can.parent can.below
      (added_to (full_of s) p can.parent can.below can.found).walked view session.blocks refl i.keeps g is

  pub make_lacks : (can : CanMake session s p id) (g : GroupPlace) → g ≡ place_of s.super can.parent
      → (fs : List FoundLink) (bs : List Block) → HoldsGroup now_view.array g fs bs → HasName fs (last_of p) → ⊥
  make_lacks can g is =
      let lacking = added_to (full_of s) p can.parent can.below can.found in
      lacks_there now_view s i.met i.stands (dir_of p) can.parent can.below lacking.walked view session.blocks refl i.keeps
      g is (last_of p) lacking.none

  pub drop_place : (can : CanDrop session s p id) (g : GroupPlace)
      → ((q : GroupAt) (ls : FullLinks) → IsPlaceAt session.tree id (Group q ls) → g ≡ place_of (superblock_of session.tree) q)
      → g ≡ place_of s.super can.parent
  drop_place can g told = told can.parent can.below can.at
      ∙ same_place (superblock_of session.tree) s.super can.parent i.super

  pub drop_held : (can : CanDrop session s p id) (g : GroupPlace) → g ≡ place_of s.super can.parent
      → IsHeld view session.blocks g
  drop_held can g is = held now_view s i.met i.stands (dir_of p) can.parent can.below
      (removed_from (full_of s) p can.parent can.below can.found).walked view session.blocks refl i.keeps g is

  pub drop_has : (can : CanDrop session s p id) (g : GroupPlace) → g ≡ place_of s.super can.parent
      → (fs : List FoundLink) (bs : List Block) → HoldsGroup now_view.array g fs bs → HasName fs (last_of p)
  drop_has can g is =
      let loose = removed_from (full_of s) p can.parent can.below can.found in
      has_there now_view s i.met i.stands (dir_of p) can.parent can.below loose.walked view session.blocks refl i.keeps g is
      (last_of p) loose.child_is loose.found
