-- A plan of a link more or fewer in a group is a plan of its line, before anything is done.
use Rattle.std.proofs.Common.{◌≡◌, ◌⊎◌, inl, inr, ℕ, ◌+◌, ◌<◌, ◌≤◌, List, Ok, sym, subst, arith, ⊎_elim}
use Rattle.h5_base.specs.declared.extent.Extent.{Extent}
use Rattle.outside.specs.Array.{Array, Ends}
use Rattle.outside.specs.Blocks.{Block}
use Rattle.outside.specs.Space.{SpaceView}
use Rattle.block_space.specs.Plans.{LiesInOne}
use Rattle.block_space.specs.declared.plan.EditPlan.{EditPlan}
use Rattle.object_model.specs.Tree.{Group, Name, dir_of, last_of, walk}
use Rattle.object_model.specs.declared.command.Command.TheVariants as command
use Rattle.file_model.specs.Groups.{Found, HasLinks}
use Rattle.file_model.specs.Holds.{FullLinks, GroupAt, IsGroup, founds, ks_of}
use Rattle.group_room.specs.Room.{Takes}
use Rattle.group_edit.specs.Edited.{Removes, WritesWithin}
use Rattle.group_edit.specs.Links.{HoldsGroup}
use Rattle.object_edit.specs.Making.{MakesGroup}
use Rattle.object_edit.specs.declared.making.GroupPlan.{GroupPlan}
use Rattle.session_model.specs.Reach.{InParent}
use Rattle.session_model.specs.State.{AreTouched, InTaken, IsTouched, Plan, State, full_of}
use Rattle.group_lines.specs.Lines.{place_of}
use Rattle.group_lines.specs.States.{StandsFor, plain_setting}
use Rattle.group_lines.proofs.Walked.{walked_held}

module _ (v : SpaceView) (s : State) (met : List Block) (stands : StandsFor (plain_setting v) v s met) (dir : List Name)
    (parent : GroupAt) (below : FullLinks) (walked : walk (full_of s) dir ≡ Ok (Group parent below)) where
  -- the group at the end of a path
  pub was : IsGroup s.array (ks_of s.super) parent (founds below)
  was = (walked_held s.array (ks_of s.super) dir (full_of s) (Group parent below) walked stands.held.held).0

  -- what the space tells of it
  pub group : HoldsGroup v.array (place_of s.super parent) (founds below) was.index
  group = subst (λ (b : Array). HasLinks b (ks_of s.super) parent.tree_at parent.heap_at (founds below) was.index)
      stands.told.array was.links

-- an address that is written is one of the parent's index
touched_inside : (index : List Block) (plan : EditPlan) → WritesWithin index plan → (a : ℕ) → IsTouched plan.writes a
    → LiesInOne index a 1
touched_inside index plan within a (w, there, low, high) =
    let (x, has, first, last) = within w there in
    (x, has, omega (arith, first, low), omega (arith, last, high))

module _ (v : SpaceView) (s : State) (met : List Block) (stands : StandsFor (plain_setting v) v s met) (p : List Name)
    (parent : GroupAt) (below : FullLinks) (walked : walk (full_of s) (dir_of p) ≡ Ok (Group parent below))
    (plan : EditPlan) (ranges : List Extent)
    (touched : AreTouched (plain_setting v) v.ends plan.takes (IsTouched plan.writes) ranges) where
  abbrev old : IsGroup s.array (ks_of s.super) parent (founds below)
  old = was v s met stands (dir_of p) parent below walked

  abbrev InIndex : ℕ → Type 0
  InIndex a = InParent s.array (ks_of s.super) (full_of s) p a

  in_index : WritesWithin old.index plan → (a : ℕ) → IsTouched plan.writes a → InIndex a
  in_index within a written = record {
    group = parent;
    links = below;
    parent = walked;
    blocks = old.index;
    has = old.links;
    inside = touched_inside old.index plan within a written;
  }

  -- what it touches lies in the parent's index and in what is taken
  pub touched_there : WritesWithin old.index plan → AreTouched (plain_setting v) s.ends plan.takes InIndex ranges
  touched_there within = record {
    some = touched.some;
    reached = λ a hit. ⊎_elim (λ written. inl (in_index within a written))
        (λ there. inr (subst (λ (e : Ends). InTaken (plain_setting v) e plan.takes a) (sym stands.told.ends) there))
        (touched.reached a hit);
    taken = λ a there. touched.taken a
        (subst (λ (e : Ends). InTaken (plain_setting v) e plan.takes a) stands.told.ends there);
  }

  abbrev pub remove_plan : Removes v (place_of s.super parent) (last_of p) plan → Plan (plain_setting v) s (command.Rm p)
  remove_plan removes = record {
    takes = plan.takes;
    are = removes.takes;
    ranges = ranges;
    touched = touched_there (removes.within (founds below) old.index (group v s met stands (dir_of p) parent below walked));
    spares = tt;
  }

module _ (v : SpaceView) (s : State) (met : List Block) (stands : StandsFor (plain_setting v) v s met) (p : List Name)
    (parent : GroupAt) (below : FullLinks) (walked : walk (full_of s) (dir_of p) ≡ Ok (Group parent below))
    (made : GroupPlan) (makes : MakesGroup v (place_of s.super parent) (last_of p) made) (ranges : List Extent)
    (touched : AreTouched (plain_setting v) v.ends made.plan.takes (IsTouched made.plan.writes) ranges) where
  abbrev before : IsGroup s.array (ks_of s.super) parent (founds below)
  before = was v s met stands (dir_of p) parent below walked

  -- what the name takes, of the state's own bytes
  pub name_takes : (fs : List Found) (bs : List Block)
      (h : HasLinks s.array (ks_of s.super) parent.tree_at parent.heap_at fs bs)
      → Takes s.array (ks_of s.super) parent.tree_at parent.heap_at fs bs h (last_of p) makes.link_takes
  name_takes = subst (λ (b : Array). (fs : List Found) (bs : List Block)
      (h : HasLinks b (ks_of s.super) parent.tree_at parent.heap_at fs bs)
      → Takes b (ks_of s.super) parent.tree_at parent.heap_at fs bs h (last_of p) makes.link_takes)
      (sym stands.told.array) makes.name_takes

  abbrev pub mkgroup_plan : Plan (plain_setting v) s (command.Mkgroup p)
  mkgroup_plan = record {
    takes = made.plan.takes;
    are = record {
      name = makes.link_takes;
      takes_name = record {
        group = parent;
        links = below;
        parent = walked;
        blocks = before.index;
        has = before.links;
        takes = name_takes (founds below) before.index before.links;
      };
      are = makes.takes;
    };
    ranges = ranges;
    touched = touched_there v s met stands p parent below walked made.plan ranges touched
        (makes.within (founds below) before.index (group v s met stands (dir_of p) parent below walked));
    spares = tt;
  }
