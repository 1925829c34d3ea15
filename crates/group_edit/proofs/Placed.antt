-- Which nodes are there and which are taken for one link more, and where those lie.
use Rattle.std.proofs.Common.{◌≡◌, ℕ, ◌+◌, ◌*◌, ◌-◌, ◌^◌, ◌<◌, ◌≤◌, List, ◌++◌, length, max, All, sym, ◌∙◌, ap}
use Rattle.std.proofs.Common.{replicate, subst, subst₂}
use Rattle.std.proofs.lemmas.List.Elements.{All-append, All-from_recursion}
use Rattle.std.specs.List.{Contains}
use Rattle.std.proofs.lemmas.List.{append_assoc}
use Rattle.std.specs.List.Sorted.{IsPermutation}
use Rattle.std.proofs.lemmas.List.Sorted.{IsPermutation-refl}
use Rattle.outside.specs.Blocks.{Block, most_blocks}
use Rattle.outside.specs.Space.{AreRegions, SpaceView}
use Rattle.block_space.specs.declared.plan.EditPlan.{EditPlan}
use Rattle.block_space.specs.Plans.{taken_blocks}
use Rattle.block_space.specs.declared.plan.Needs.{Needs}
use Rattle.block_space.specs.declared.plan.Take.{Take}
use Rattle.object_model.specs.Tree.{Name}
use Rattle.file_model.specs.Groups.{Found, address_of, index_offsets}
use Rattle.node_codec.specs.declared.heap.HeapHead.{HeapHead}
use Rattle.plan_pieces.specs.Images.{takes_of}
use Rattle.plan_pieces.specs.Plan.{IsWhole, TakesThere}
use Rattle.plan_pieces.specs.declared.image.Image.{Image}
use Rattle.group_room.specs.Index.{AreSmall, entries_in, leaf_ats, rows_below}
use Rattle.group_room.specs.Room.{Grows, Takes, leaf_take, node_take}
use Rattle.group_room.specs.Used.{IsUsedLen, segment_takes}
use Rattle.group_heap.specs.Greatest.{IsUsedBy}
use Rattle.group_heap.proofs.TextLemmas.{used_by_last}
use Rattle.group_layout.specs.Laying.{ats_of, new_blocks, new_takes, old_blocks, rows_of}
use Rattle.group_layout.specs.Rows.{HaveRoom}
use Rattle.group_facts.specs.Places.{ends_ahead, taken_ahead}
use Rattle.group_facts.specs.Rows.{blocks_by_rows}
use Rattle.group_facts.proofs.RowRoom.{rows_have_room}
use Rattle.group_facts.proofs.UsedIndex.{used_texts}
use Rattle.group_rows.specs.Reading.{IsReadOf}
use Rattle.group_rows.specs.declared.group.GroupAt.{GroupAt}
use Rattle.group_rows.specs.declared.group.GroupRead.{GroupRead}
use Rattle.group_edit.specs.declared.draft.Draft.{Draft}
use Rattle.group_edit.specs.declared.target.NewTarget.{NewTarget}
use Rattle.group_edit.specs.Drafts.{IsPlanFor, segment_fills}
use Rattle.group_edit.specs.Grown.{AreLeavesFor, kept_rows}
use Rattle.group_edit.specs.Inserting.{IsInsertDraft, next_segment}
use Rattle.group_edit.specs.Links.{HoldsGroup, segment_in}
use Rattle.group_edit.proofs.PlacedGrown.{AreForOneMore, for_one_more, wider_grows, wider_level, wider_room}
use Rattle.group_edit.proofs.PlacedKept.{IsKept, is_kept, old_are, root_level}
use Rattle.group_edit.proofs.PlacedPlan.{all_filled, all_taken, index_whole}
use Rattle.group_edit.proofs.PlacedSegment.{is_for, segment_lies, segment_taken, segment_whole}
use Rattle.group_edit.proofs.PlacedTakes.{AllBelow, index_lies, new_taken, news_of}

module _ (v : SpaceView) (g : GroupAt) (ahead : Needs) (name : Name) (target : NewTarget) (read : GroupRead)
    (draft : Draft) (dr : IsInsertDraft v g ahead name target read draft) (ks : AreSmall g.ks)
    (sound : AreRegions v.regions v.ends) (old_images : List Image) (plan : EditPlan)
    (pl : IsPlanFor g.ks old_images draft plan)
    (below : (x : Block) → Contains (taken_ahead v ahead plan) x → x.start + x.len < 2 ^ 64) where
  pub takes_there : TakesThere v.regions (ends_ahead v ahead) plan (segment_fills draft.heap ++ pl.fills)
  takes_there =
      let is = is_for read.heap dr.used name (next_segment v ahead) draft.heap dr.named in
      let lie = index_lies v g.ks sound dr.behind dr.index.behind (length read.entries.items + 1) read.leaves
      draft.index dr.index.are_leaves dr.index.news in
      let takes = all_taken g.ks old_images draft plan pl in
      let all = segment_lies v sound dr.used read.heap.head.len name ahead dr.behind draft.heap.segment is dr.is_behind
      (new_takes g.ks draft.index) (new_blocks g.ks draft.index) lie
      (subst (λ (ts : List Take). AllBelow (taken_blocks v.regions (ends_ahead v ahead) ts)) takes below) in
      ap (taken_blocks v.regions (ends_ahead v ahead)) takes ∙ all ∙ sym (all_filled g.ks old_images draft plan pl)

module _ (v : SpaceView) (g : GroupAt) (ahead : Needs) (name : Name) (target : NewTarget) (read : GroupRead)
    (draft : Draft) (dr : IsInsertDraft v g ahead name target read draft) (ks : AreSmall g.ks)
    (old_images : List Image) (plan : EditPlan) (pl : IsPlanFor g.ks old_images draft plan) where
  pub all_whole : All IsWhole (segment_fills draft.heap ++ pl.fills)
  all_whole = All-append IsWhole (segment_fills draft.heap) pl.fills
      (All-from_recursion IsWhole (segment_fills draft.heap) (segment_whole (next_segment v ahead) dr.used
      read.heap.head.len name draft.heap.segment (is_for read.heap dr.used name (next_segment v ahead) draft.heap
      dr.named)))
      (All-from_recursion IsWhole pl.fills (index_whole g.ks draft.index pl.fills pl.takes))

module _ (v : SpaceView) (g : GroupAt) (ahead : Needs) (name : Name) (target : NewTarget) (read : GroupRead)
    (draft : Draft) (dr : IsInsertDraft v g ahead name target read draft) (ks : AreSmall g.ks) (fs : List Found)
    (bs : List Block) (old : HoldsGroup v.array g fs bs) (rd : IsReadOf v.array g old.head old.index read) where
  -- what is kept of the rows that were read, and how the leaves are for one entry more
  kept : IsKept g.ks old.index old.level (kept_rows read.leaves read.rows.items)
  kept = is_kept v.array g.ks (segment_in v.array g fs bs old) old.level old.index read.leaves read.rows.items
      old.stands rd.leaves rd.rows

  leaves_more : AreForOneMore g.ks.leaf (length (entries_in old.index)) (length (leaf_ats old.index))
      (length draft.index.leaves.new) (length (ats_of draft.index.leaves))
  leaves_more =
      let had = (rows_have_room v.array g.ks (segment_in v.array g fs bs old) old.level old.index old.stands).0 in
      for_one_more v g.ks.leaf dr.behind (length (entries_in old.index)) (leaf_ats old.index) draft.index.leaves
      dr.index.behind ks.leaf.0 had
      (subst₂ (λ (n : ℕ) (leaves : List ℕ). AreLeavesFor v g.ks.leaf dr.behind (n + 1) leaves draft.index.leaves
      dr.index.behind) (ap length rd.entries) rd.leaves dr.index.are_leaves)

  root_at : draft.index.tree ≡ address_of old.index
  root_at = dr.index.root ∙ sym old.root

  -- the nodes that are there are those that were read
  pub nodes_there : IsPermutation (old_blocks g.ks draft.index)
      (blocks_by_rows g.ks read.leaves read.rows.items g.tree_at)
  nodes_there =
      let rows = rd.rows ∙ ap (rows_below old.index)
      (root_level v.array g.ks (segment_in v.array g fs bs old) old.level old.index old.stands) in
      subst (IsPermutation (old_blocks g.ks draft.index))
      (old_are g.ks old.index old.level (kept_rows read.leaves read.rows.items)
      (length draft.index.rows - length (kept_rows read.leaves read.rows.items)) draft.index read.leaves
      read.rows.items g.tree_at kept dr.index.are_leaves.0 rows dr.index.root dr.index.olds)
      (IsPermutation-refl (old_blocks g.ks draft.index))

  -- there is room for one entry more, row by row
  pub leaves_room : length read.entries.items + 1 ≤ 2 * g.ks.leaf * length (ats_of draft.index.leaves)
  leaves_room = subst (λ (n : ℕ). n + 1 ≤ 2 * g.ks.leaf * length (ats_of draft.index.leaves))
      (ap length (sym rd.entries)) leaves_more.room

  pub rows_room : HaveRoom (2 * g.ks.internal) (length (ats_of draft.index.leaves)) (rows_of draft.index)
  rows_room = wider_room v.array g.ks (segment_in v.array g fs bs old) old.level old.index old.stands ks draft.index
      leaves_more (kept_rows read.leaves read.rows.items) kept dr.index.wider root_at

  pub level_most : length (leaf_ats old.index) ≤ most_blocks → length draft.index.rows ≤ max old.level 31
  level_most = wider_level v.array g.ks (segment_in v.array g fs bs old) old.level old.index old.stands ks draft.index
      leaves_more (kept_rows read.leaves read.rows.items) kept dr.index.wider

  grows : Grows g.ks old.index old.level (length draft.index.leaves.new) (length (news_of draft.index.rows))
  grows = wider_grows v.array g.ks (segment_in v.array g fs bs old) old.level old.index old.stands ks draft.index
      leaves_more (kept_rows read.leaves read.rows.items) kept dr.index.wider
      (length draft.index.rows - length (kept_rows read.leaves read.rows.items)) dr.index.olds

  used_len : IsUsedLen (segment_in v.array g fs bs old) (index_offsets old.index) dr.used
  used_len =
      let segment = segment_in v.array g fs bs old in
      used_by_last segment (index_offsets old.index) read.last dr.used rd.last
      (used_texts v.array g.ks segment old.level old.index old.stands).0
      (subst (λ (s : List ℕ). IsUsedBy s read.last dr.used) rd.segment dr.is_used)

  module _ (old_images : List Image) (plan : EditPlan) (pl : IsPlanFor g.ks old_images draft plan) where
    -- what is taken is what the name takes
    pub takes_name : Takes v.array g.ks g.tree_at g.heap_at fs bs old name plan.takes
    takes_name =
        let is = is_for read.heap dr.used name (next_segment v ahead) draft.heap dr.named in
        let segment : takes_of (segment_fills draft.heap) ≡ segment_takes dr.used old.head.len name =
        segment_taken (next_segment v ahead) dr.used read.heap.head.len name draft.heap.segment is
        ∙ ap (λ (head : HeapHead). segment_takes dr.used head.len name) rd.head_is in
        let nodes = new_taken g.ks draft.index in
        record {
          used = dr.used;
          used_len = used_len;
          leaves = length draft.index.leaves.new;
          nodes = length (news_of draft.index.rows);
          grows = grows;
          are = all_taken g.ks old_images draft plan pl ∙ (λ i. segment i ++ nodes i)
              ∙ sym (append_assoc (segment_takes dr.used old.head.len name)
              (replicate (length draft.index.leaves.new) (leaf_take g.ks))
              (replicate (length (news_of draft.index.rows)) (node_take g.ks)));
        }
