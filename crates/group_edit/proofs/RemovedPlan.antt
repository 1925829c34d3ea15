-- What the plan of one link fewer makes of a group: it takes nothing, and writes within the blocks that were read.
use Rattle.std.proofs.Common.{◌≡◌, suc, List, [], ◌∷◌, ◌++◌, length, map, take, drop, All, refl, sym}
use Rattle.std.proofs.Common.{◌∙◌, ap, subst, arith, Result, Ok, Err, IfOk}
use Rattle.std.specs.List.{Contains, sum_by}
use Rattle.std.proofs.lemmas.List.{append-nil}
use Rattle.std.proofs.lemmas.List.Elements.{All-append, All-drop, All-nil, All-take, Contains-append_right}
use Rattle.outside.specs.Array.{Array}
use Rattle.outside.specs.Blocks.{Block, AllApart}
use Rattle.outside.specs.Space.{SpaceView}
use Rattle.block_space.specs.Plans.{FitsCatalogue, planned, taken_blocks}
use Rattle.block_space.specs.declared.plan.EditPlan.{EditPlan}
use Rattle.block_space.specs.declared.plan.Take.{Take}
use Rattle.node_codec.specs.Snod.{IsCache}
use Rattle.object_model.specs.Tree.{Name}
use Rattle.file_model.specs.Groups.{Found}
use Rattle.plan_pieces.specs.declared.image.Image.{Image}
use Rattle.plan_pieces.specs.declared.image.NewBlock.{NewBlock}
use Rattle.plan_pieces.specs.Images.{image_block, image_blocks, images_of, takes_of}
use Rattle.plan_pieces.specs.Plan.{IsWhole, TakesThere}
use Rattle.group_layout.specs.Laying.{new_blocks, old_blocks}
use Rattle.group_rows.specs.Reading.{IsReadOf, IsSmallRead}
use Rattle.group_rows.specs.declared.group.GroupAt.{GroupAt}
use Rattle.group_rows.specs.declared.group.GroupRead.{GroupRead}
use Rattle.group_edit.specs.declared.draft.Draft.{Draft}
use Rattle.group_edit.specs.Checked.{AreAmong, heap_blocks, read_blocks}
use Rattle.group_edit.specs.Drafts.{HasRoomFor, IsPlanFor, LieBelow, new_fills, segment_fills}
use Rattle.group_edit.specs.Edited.{Removes}
use Rattle.group_edit.specs.Links.{HasName, HoldsGroup}
use Rattle.group_edit.specs.Removing.{IsRemoveDraft}
use Rattle.group_edit.proofs.BelowRead.{EndBelow, lie_below}
use Rattle.group_edit.proofs.Removed.{leaves_room, nodes_there, removed, rows_room}
use Rattle.group_edit.proofs.RemovedNodes.{levels_same, new_same, old_same}
use Rattle.group_edit.proofs.Stand.{heap_written, nodes_spelled}
use Rattle.group_edit.proofs.WritesWithin.{draft_fits, group_among}

pub ok_weaker : {T E : Type 0} (r : Result T E) (P Q : T → Type 0) → ((x : T) → P x → Q x) → IfOk r P → IfOk r Q
ok_weaker (Ok x) P Q to h = to x h
ok_weaker (Err e) P Q to h = tt

none_mapped : {A B : Type 0} (f : A → B) (xs : List A) → map f xs ≡ [] → xs ≡ []
none_mapped f [] e = refl
none_mapped f (x ∷ xs) e = absurd (omega (arith, ap length e))

module _ (g : GroupAt) (name : Name) (read : GroupRead) (draft : Draft) (dr : IsRemoveDraft g name read draft) where
  pub caches_left : All IsCache read.entries.items → All IsCache draft.entries.items
  caches_left all =
      let es = read.entries.items in
      subst (All IsCache) (sym dr.rest.entries)
      (All-append IsCache (take dr.place es) (drop (suc dr.place) es) (All-take IsCache dr.place es all)
      (All-drop IsCache (suc dr.place) es all))

  nodes_among : AreAmong (old_blocks g.ks draft.index) (read_blocks g read)
  nodes_among x has =
      Contains-append_right (heap_blocks read.heap) _ x
      (subst (λ (bs : List Block). Contains bs x)
      (old_same g.ks g.tree_at read.leaves read.rows.items draft.index dr.rest.index) has)

  no_segment : segment_fills draft.heap ≡ []
  no_segment = ap new_fills dr.rest.freed.stays

  no_nodes : new_blocks g.ks draft.index ≡ []
  no_nodes = new_same g.ks g.tree_at read.leaves read.rows.items draft.index dr.rest.index

  pub rest_below : (met : List Block) → AreAmong (read_blocks g read) met → EndBelow met → LieBelow g.ks draft
  rest_below met among below =
      let segment : sum_by (λ (n : NewBlock). length n.image.bytes) (segment_fills draft.heap) ≡ 0 =
      ap (sum_by (λ (n : NewBlock). length n.image.bytes)) no_segment in
      lie_below g read draft dr.rest.used dr.rest.used dr.rest.freed.header dr.rest.freed.part nodes_among met among
      below (omega (arith, segment)) (omega (arith, ap length no_nodes))

  module _ (images : List Image) (plan : EditPlan) (pl : IsPlanFor g.ks images draft plan) where
    no_fills : segment_fills draft.heap ++ pl.fills ≡ []
    no_fills =
        let fills = none_mapped (λ (n : NewBlock). n.image) pl.fills
        (none_mapped image_block (images_of pl.fills) (pl.new_are ∙ no_nodes)) in
        λ j. no_segment j ++ fills j

    all_whole : All IsWhole (segment_fills draft.heap ++ pl.fills)
    all_whole = subst (All IsWhole) (sym no_fills) (All-nil IsWhole)

    pub no_takes : plan.takes ≡ []
    no_takes = pl.plan_is.takes ∙ ap takes_of no_fills

    pub rest_fits : (met : List Block) → AreAmong (read_blocks g read) met → FitsCatalogue met plan
    rest_fits met among =
        draft_fits g read draft dr.rest.used dr.rest.used dr.rest.freed.header dr.rest.freed.part met among nodes_among
        images plan pl all_whole

  module _ (b : Array) (fs : List Found) (bs : List Block) (old : HoldsGroup b g fs bs)
      (rd : IsReadOf b g old.head old.index read) where
    pub rest_room : IsSmallRead read → HasRoomFor g.ks draft.index (length draft.entries.items)
    rest_room small = record {
      leaves = leaves_room b g name read draft dr fs bs old rd;
      above = rows_room b g name read draft dr fs bs old rd;
      levels = omega (
        arith,
        small.rows,
        levels_same g.ks g.tree_at read.leaves read.rows.items draft.index dr.rest.index,
      );
    }

  pub rest_removes : (v : SpaceView) (images : List Image) → images ≡ read.blocks.items
      → ((fs : List Found) (bs : List Block) (old : HoldsGroup v.array g fs bs)
      → IsReadOf v.array g old.head old.index read)
      → ((fs : List Found) (bs : List Block) → HoldsGroup v.array g fs bs → HasName fs name)
      → (plan : EditPlan) → IsPlanFor g.ks images draft plan → Removes v g name plan
  rest_removes v images same read_of there plan made =
      let pl = subst (λ (is : List Image). IsPlanFor g.ks is draft plan) same made in
      let blocks = read.blocks.items in
      record {
        takes = no_takes blocks plan pl;
        within = λ fs bs old. (rest_fits blocks plan pl bs
            (group_among v.array g fs bs old read (read_of fs bs old))).within;
        makes = λ fs bs old c ends agree apart.
            let rd = read_of fs bs old in
            let takes = no_takes blocks plan pl in
            let none : TakesThere v.regions ends plan (segment_fills draft.heap ++ pl.fills) =
            ap (taken_blocks v.regions ends) takes
            ∙ sym (ap (λ (ns : List NewBlock). image_blocks (images_of ns)) (no_fills blocks plan pl)) in
            let all : AllApart (bs ++ taken_blocks v.regions ends plan.takes) =
            subst AllApart (sym (ap (λ (ts : List Take). bs ++ taken_blocks v.regions ends ts) takes
            ∙ append-nil bs)) apart in
            let nodes = nodes_there v.array g name read draft dr fs bs old rd in
            let written = heap_written v.array c g fs bs old read rd v.regions ends draft plan pl dr.rest.used
            dr.rest.used dr.rest.freed.header dr.rest.freed.part nodes (all_whole blocks plan pl) none agree all in
            let spelled = nodes_spelled v.array c g fs bs old read rd v.regions ends draft plan pl dr.rest.used
            dr.rest.used dr.rest.freed.header dr.rest.freed.part nodes (all_whole blocks plan pl) none agree all in
            removed v.array g name read draft dr fs bs old rd (planned v.regions ends plan c) (there fs bs old)
            (dr.rest.freed.means c (planned v.regions ends plan c) written) spelled;
      }
