-- The line `mkgroup` in a session: its plan was done, and the node is kept.
use Rattle.std.proofs.Common.{◌≡◌, ℕ, ℤ, Bool, true, List, ◌++◌, length, Ok, Option, Some, None, IsTrue, refl, sym, ◌∙◌, ap, subst}
use Rattle.h5_base.specs.declared.extent.Extent.{Extent}
use Rattle.outside.specs.Blocks.{Block}
use Rattle.outside.specs.Revisions.{Committed}
use Rattle.outside.specs.Space.{SpaceView}
use Rattle.super_codec.specs.declared.superblock.Superblock.{Superblock}
use Rattle.object_model.specs.Tree.{Empty, Group, Name, dir_of, last_of, walk}
use Rattle.object_model.specs.declared.command.Command.TheVariants as command
use Rattle.file_model.specs.Holds.{Full, FullLinks, GroupAt, ks_of}
use Rattle.group_room.specs.Index.{AreSmall}
use Rattle.tree_nodes.specs.Entries.{superblock_of}
use Rattle.tree_nodes.specs.declared.tree.ObjectTree.{ObjectTree}
use Rattle.object_tree.specs.Sound.{IsSoundTree}
use Rattle.tree_places.specs.Kept.{IsSameGroup, LeavesParent}
use Rattle.tree_places.specs.Places.{add_place, remove_place, to_add, to_remove}
use Rattle.object_edit.specs.Making.{MakesGroup}
use Rattle.object_edit.specs.declared.making.GroupPlan.{GroupPlan}
use Rattle.block_space.specs.declared.plan.EditPlan.{EditPlan}
use Rattle.group_edit.specs.Edited.{Removes}
use Rattle.edit_room.specs.Judged.{PassesALimit}
use Rattle.group_lines.specs.Lines.{IsAnswered, WasDone, new_place, place_of}
use Rattle.group_lines.proofs.Answered.{mkgroup_steps, remove_steps}
use Rattle.group_lines.proofs.DoneLine.{answered, short_segments}
use Rattle.group_lines.proofs.Making.{line as mkgroup_line}
use Rattle.group_lines.proofs.Parents.{added_to, removed_from}
use Rattle.group_lines.proofs.Removing.{line as remove_line}
use Rattle.group_lines.specs.States.{plain_setting}
use Rattle.session_model.specs.State.{IsRevisionOver, State, full_of}
use Rattle.session_model.specs.TooLarge.{IsTooLarge}
use Rattle.h5_session.specs.Session.{IsSameButEnd}

-- the K values are small where those of the tree that is kept are
pub small_ks : (kept : ObjectTree) (s : Superblock) → IsSoundTree kept → IsSameButEnd (superblock_of kept) s
    → AreSmall (ks_of s)
small_ks kept s sound (end, is) =
    let same : ks_of (superblock_of kept) ≡ ks_of s = ap ks_of is in
    subst AreSmall same (record { leaf = sound.k_values.leaf_k; internal = sound.k_values.internal_k })

-- a path leads to one group
one_parent : (t : Full) (dir : List Name) (g h : GroupAt) (ls ms : FullLinks) → walk t dir ≡ Ok (Group g ls)
    → walk t dir ≡ Ok (Group h ms) → g ≡ h
one_parent t dir g h ls ms one other =
    let same : Ok (Group g ls) ≡ Ok (Group h ms) = sym one ∙ other in cc

pub leaves_parent : (t : Full) (p : List Name) (now parent : GroupAt) (below : FullLinks)
    → walk t (dir_of p) ≡ Ok (Group parent below) → IsSameGroup now parent → LeavesParent (λ _. now) p t
leaves_parent t p now parent below walked same g ls other =
    subst (IsSameGroup now) (one_parent t (dir_of p) parent g below ls walked other) same

-- neither makes a revision
pub no_revision : (p : List Name) (m : Option Committed) (rs : List Extent) → ¬ IsRevisionOver m rs (command.Mkgroup p)
no_revision p None rs over = over
no_revision p (Some c) rs over = over

pub no_drop : (p : List Name) (m : Option Committed) (rs : List Extent) → ¬ IsRevisionOver m rs (command.Rm p)
no_drop p None rs over = over
no_drop p (Some c) rs over = over

module _ (v w : SpaceView) (s : State) (met : List Block) (p : List Name) (parent : GroupAt) (below : FullLinks)
    (ranges : List Extent) (writable : v.writable ≡ true) (secs : ℤ) where
  -- what a done `mkgroup` comes to
  pub record IsMadeLine (made : GroupPlan) : Type 0 where
    pub now : GroupAt
    pub index : List Block
    pub leaves : LeavesParent (λ _. now) p (full_of s)
    pub line : IsAnswered v w s (command.Mkgroup p) met made.plan
        (add_place (λ _. now) p (new_place made.at index) (full_of s)) secs

  pub made_line : (made : GroupPlan) → WasDone v w s met made.plan ranges
      → to_add (full_of s) p ≡ Ok (Group parent below) → AreSmall (ks_of s.super)
      → ¬ IsTooLarge (full_of s) (command.Mkgroup p) → ¬ PassesALimit v (length met) made.plan ranges
      → MakesGroup v (place_of s.super parent) (last_of p) made → IsMadeLine made
  made_line made d found ks small passes makes =
      let (now, index, same, l) = mkgroup_line v w s met p parent below made ranges d found ks small
      (short_segments v (length met) made.plan ranges passes) makes in
      record {
        now = now;
        index = index;
        leaves = leaves_parent (full_of s) p now parent below (added_to (full_of s) p parent below found).walked same;
        line = answered v w s (command.Mkgroup p) met made.plan ranges
            (add_place (λ _. now) p (new_place made.at index) (full_of s)) secs d l
            (mkgroup_steps (plain_setting v) s p secs (λ _. now) (new_place made.at index) refl (Group parent below) writable
            found) small refl refl (no_revision p) passes;
      }

  -- what a done `rm` comes to
  pub record IsDroppedLine (plan : EditPlan) : Type 0 where
    pub now : GroupAt
    pub leaves : LeavesParent (λ _. now) p (full_of s)
    pub line : IsAnswered v w s (command.Rm p) met plan (remove_place (λ _. now) p (full_of s)) secs

  pub dropped_line : (plan : EditPlan) → WasDone v w s met plan ranges
      → to_remove (full_of s) p ≡ Ok (Group parent below) → ¬ PassesALimit v (length met) plan ranges
      → Removes v (place_of s.super parent) (last_of p) plan → IsDroppedLine plan
  dropped_line plan d found passes removes =
      let (now, same, l) = remove_line v w s met p parent below plan ranges d found removes in
      record {
        now = now;
        leaves = leaves_parent (full_of s) p now parent below (removed_from (full_of s) p parent below found).walked same;
        line = answered v w s (command.Rm p) met plan ranges (remove_place (λ _. now) p (full_of s)) secs d l
            (remove_steps (plain_setting v) s p secs (λ _. now) (Group parent below) writable found) (λ large. large) refl refl
            (no_drop p) passes;
      }
