-- A session in which a group was made.
use Rattle.std.proofs.Common.{◌≡◌, ℤ, true, IsTrue, List, [], ◌++◌, length, Ok, refl, sym, ◌∙◌, ap, subst}
use Rattle.h5_base.specs.declared.extent.Extent.{Extent}
use Rattle.outside.specs.Blocks.{Block}
use Rattle.outside.specs.Space.{AreRegions, SpaceView}
use Rattle.super_codec.specs.declared.superblock.Superblock.{Superblock}
use Rattle.block_space.specs.Blocks.{Keeps, space_of}
use Rattle.block_space.specs.Plans.{FitsCatalogue}
use Rattle.block_space.specs.declared.blocks.Blocks.{Blocks}
use Rattle.object_model.specs.Tree.{Name, last_of}
use Rattle.object_model.specs.declared.answer.Answer.TheVariants as answer
use Rattle.object_model.specs.declared.command.Command.TheVariants as command
use Rattle.file_model.specs.Holds.{Full, GroupAt}
use Rattle.tree_nodes.specs.Entries.{superblock_of}
use Rattle.tree_nodes.specs.Shown.{single}
use Rattle.tree_nodes.specs.declared.node.Node.{Node}
use Rattle.tree_nodes.specs.declared.node.NodeId.{NodeId}
use Rattle.tree_nodes.specs.declared.tree.ObjectTree.{ObjectTree}
use Rattle.object_tree.specs.Opened.{Matches}
use Rattle.object_tree.specs.Sound.{IsSoundTree}
use Rattle.tree_places.specs.Kept.{HasPlaces, LeavesParent}
use Rattle.tree_places.specs.Places.{add_place}
use Rattle.tree_places.proofs.Places.{new_group_place}
use Rattle.object_edit.specs.Making.{MakesGroup}
use Rattle.object_edit.specs.declared.making.GroupPlan.{GroupPlan}
use Rattle.group_lines.specs.Lines.{new_place, place_of}
use Rattle.group_lines.specs.States.{plain_setting}
use Rattle.session_model.specs.Line.{Line}
use Rattle.session_model.specs.State.{State, full_of}
use Rattle.h5_session.specs.Doing.{ComesTo}
use Rattle.h5_session.specs.Making.{CanMake, node_at}
use Rattle.h5_session.specs.Session.{IsIn, IsSameButEnd, setting_in, space_in}
use Rattle.h5_session.specs.declared.doing.Outcome.TheVariants as outcome
use Rattle.h5_session.specs.declared.session.Session.{Session}
use Rattle.h5_session.proofs.Ended.{after}
use Rattle.h5_session.proofs.MadeLine.{IsMadeLine, made_line, small_ks}
use Rattle.h5_session.proofs.Next.{its_ranges, line_done, next_in}

module _ {V : Type 0} (view : V → SpaceView) (tells : _) (told : IsTrue tells) (old mid : Session V)
    (same : view (space_in old) ≡ view (space_in mid)) (blocks : Blocks V) (tree : ObjectTree) (s : State)
    (i : IsIn view mid s) (p : List Name) (id : NodeId) (can : CanMake old s p id) (made : GroupPlan)
    (makes : MakesGroup (view (space_in old)) (place_of s.super can.parent) (last_of p) made)
    (writable : (view (space_in old)).writable ≡ true)
    (regions : AreRegions (view (space_in mid)).regions (view (space_in mid)).ends) (sound : IsSoundTree mid.tree)
    (fits : FitsCatalogue i.met made.plan)
    (comes : ComesTo view tells mid.blocks blocks i.met made.plan outcome.Done) (secs : ℤ) where
  abbrev v : SpaceView
  v = view (space_in mid)

  abbrev w : SpaceView
  w = view (space_of blocks)

  line : IsMadeLine v w s i.met p can.parent can.below comes.ranges
      (ap (λ (x : SpaceView). x.writable) (sym same) ∙ writable) secs made
  line =
      let was = comes.comes.1 in
      let done = was.done told in
      made_line v w s i.met p can.parent can.below comes.ranges
      (ap (λ (x : SpaceView). x.writable) (sym same) ∙ writable) secs made
      (line_done view tells mid.blocks blocks s i.met made.plan comes.ranges told regions i.stands fits was
      (its_ranges v w i.met made.plan comes.ranges regions fits was.room comes.touched done))
      can.found (small_ks mid.tree s.super sound i.super) can.small comes.comes.0
      (subst (λ (x : SpaceView). MakesGroup x (place_of s.super can.parent) (last_of p) made) same makes)

  module _ (key : _) (node : Node) (node_is : node ≡ node_at made.at)
      (placed : (f : GroupAt → GroupAt) (t u : Full) → HasPlaces mid.tree t → LeavesParent f p t → Matches (single key node) u
      → HasPlaces tree (add_place f p u t)) (super : superblock_of tree ≡ superblock_of mid.tree) where
    places : HasPlaces tree (add_place (λ _. line.now) p (new_place made.at line.index) (full_of s))
    places = placed (λ _. line.now) (full_of s) (new_place made.at line.index) i.places line.leaves
        (subst (λ (n : Node). Matches (single key n) (new_place made.at line.index)) (sym node_is)
        (new_group_place key made.at.header_at 40 made.at.tree_at made.at.heap_at line.index))

    pub made_answered : (next : State) × Line (setting_in view old) s (command.Mkgroup p) secs next answer.Done
        × IsIn view (after view mid blocks tree [] super) next
    made_answered = (
      line.line.next,
      subst (λ (x : SpaceView). Line (plain_setting x) s (command.Mkgroup p) secs line.line.next answer.Done) (sym same)
          line.line.line,
      next_in view (after view mid blocks tree [] super) v s (command.Mkgroup p) i.met made.plan
          (add_place (λ _. line.now) p (new_place made.at line.index) (full_of s)) secs line.line
          (comes.comes.1.done told).regions (comes.comes.1.done told).writable comes.comes.1.keeps places
          (subst (λ (x : Superblock). IsSameButEnd x s.super) (sym super) i.super) refl,
    )
