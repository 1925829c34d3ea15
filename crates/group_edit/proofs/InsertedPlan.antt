-- What the plan of one link more makes of a group: it writes within the blocks that were read, and takes few.
use Rattle.std.proofs.Common.{◌≡◌, inl, inr, ℕ, zero, suc, ◌+◌, ◌*◌, ◌-◌, ◌^◌, ◌<◌, ◌≤◌, ◌==◌, List, [], ◌∷◌, ◌++◌}
use Rattle.std.proofs.Common.{All, None, Some, Option, length, map, replicate, take, drop, sum_by}
use Rattle.std.proofs.Common.{sym, ◌∙◌, ap, subst, arith, if◌then◌else◌, cond, Bool}
use Rattle.std.specs.List.{Contains}
use Rattle.std.proofs.lemmas.Bool.{ne_eqb}
use Rattle.std.proofs.lemmas.Grind.{flat_map-append}
use Rattle.std.proofs.lemmas.List.{append-nil, length-append, length-map}
use Rattle.std.proofs.lemmas.List.Edits.{length-insert}
use Rattle.std.proofs.lemmas.List.Folds.{flat_map-map}
use Rattle.std.proofs.lemmas.List.Elements.{All-append, All-cons, All-drop, All-take, Contains-append_cases}
use Rattle.std.proofs.lemmas.List.Elements.{Contains-append_left}
use Rattle.std.proofs.lemmas.List.Elements.{Contains-append_right, at_from_Contains}
use Rattle.outside.specs.Blocks.{Block, most_blocks}
use Rattle.outside.specs.Space.{AreRegions, SpaceView}
use Rattle.block_space.specs.Plans.{FitsCatalogue, rounded}
use Rattle.block_space.specs.declared.plan.EditPlan.{EditPlan}
use Rattle.block_space.specs.declared.plan.Needs.{Needs}
use Rattle.node_codec.specs.Snod.{IsCache}
use Rattle.node_codec.specs.declared.snod.SnodEntry.{SnodEntry}
use Rattle.object_model.specs.Tree.{Name}
use Rattle.file_model.specs.Groups.{Found, Ks, leaf_block, node_block}
use Rattle.file_model.specs.Limits.{most_segment}
use Rattle.plan_pieces.specs.Images.{image_blocks, images_of}
use Rattle.plan_pieces.specs.Plan.{IsWhole}
use Rattle.plan_pieces.specs.declared.image.Image.{Image}
use Rattle.plan_pieces.specs.declared.image.NewBlock.{NewBlock}
use Rattle.group_room.specs.Index.{AreSmall, leaf_ats, level_of}
use Rattle.group_room.specs.Used.{name_end}
use Rattle.group_layout.specs.Laying.{ats_of, new_blocks, new_nodes, old_blocks, old_nodes}
use Rattle.group_layout.specs.declared.row.Row.{Row}
use Rattle.group_layout.proofs.GrowthLemmas.{few_more}
use Rattle.group_facts.specs.Places.{ends_ahead, planned_ahead, taken_ahead}
use Rattle.group_facts.specs.Rows.{top_row}
use Rattle.group_rows.specs.Reading.{IsReadOf, IsSmallRead}
use Rattle.group_rows.specs.declared.group.GroupAt.{GroupAt}
use Rattle.group_rows.specs.declared.group.GroupRead.{GroupRead}
use Rattle.group_edit.specs.Checked.{AreAmong, heap_blocks, read_blocks}
use Rattle.group_edit.specs.declared.draft.Draft.{Draft}
use Rattle.group_edit.specs.declared.target.NewTarget.{NewTarget}
use Rattle.group_edit.specs.Drafts.{HasRoomFor, IsPlanFor, LieBelow, new_fills, segment_fills}
use Rattle.group_edit.specs.Edited.{Inserts, StaysWithin, TakesLink}
use Rattle.group_edit.specs.Grown.{kept_rows}
use Rattle.group_edit.specs.Inserting.{IsInsertDraft, next_segment}
use Rattle.group_edit.specs.Links.{HasName, HoldsGroup, IsNewName, cached, entry_to, segment_in}
use Rattle.group_edit.proofs.BelowRead.{EndBelow, lie_below}
use Rattle.group_edit.proofs.Inserted.{inserted}
use Rattle.group_edit.proofs.Placed.{all_whole, leaves_room, level_most, nodes_there, rows_room, takes_name}
use Rattle.group_edit.proofs.Placed.{takes_there}
use Rattle.group_edit.proofs.PlacedGrown.{count_all}
use Rattle.group_edit.proofs.PlacedKept.{count_rows, no_nodes, root_level, row_nodes}
use Rattle.group_edit.proofs.PlacedPlan.{all_filled}
use Rattle.group_edit.proofs.PlacedSegment.{IsFor, is_for}
use Rattle.group_edit.proofs.PlacedTakes.{map_flat, news_of}
use Rattle.group_edit.proofs.Stand.{heap_written, nodes_spelled}
use Rattle.group_edit.proofs.WritesWithin.{draft_fits, group_among}

-- ---- where the nodes lie

-- the rows that are kept are among those that were read
kept_among : (ks : Ks) (n : ℕ) (rows : List (List ℕ))
    → AreAmong (row_nodes ks (if n == 0 then [] else rows)) (row_nodes ks rows)
kept_among ks zero rows x has = absurd (omega (arith, (at_from_Contains [] x has).1))
kept_among ks (suc n) rows x has =
    subst (λ (b : Bool). Contains (row_nodes ks (cond b [] rows)) x) (ne_eqb (suc n) 0 (λ e. omega (arith, e))) has

module _ (v : SpaceView) (g : GroupAt) (ahead : Needs) (name : Name) (target : NewTarget) (read : GroupRead)
    (draft : Draft) (dr : IsInsertDraft v g ahead name target read draft) where
  abbrev kept : List (List ℕ)
  kept = kept_rows read.leaves read.rows.items

  pub caches_with : All IsCache read.entries.items → All IsCache draft.entries.items
  caches_with all =
      let es = read.entries.items in
      subst (All IsCache) (sym dr.entries.are)
      (All-append IsCache (take dr.entries.place es) (entry_to dr.used target ∷ drop dr.entries.place es)
      (All-take IsCache dr.entries.place es all)
      (All-cons IsCache (entry_to dr.used target) (drop dr.entries.place es) (new_cache target.group)
      (All-drop IsCache dr.entries.place es all)))
    where
      new_cache : (group : Option GroupAt) → IsCache (cached dr.used target.header_at group)
      new_cache None = omega arith
      new_cache (Some h) = omega arith

  -- the nodes that are there were read
  pub nodes_among : AreAmong (old_blocks g.ks draft.index) (read_blocks g read)
  nodes_among x has =
      let more = length draft.index.rows - length kept in
      let nodes : old_nodes g.ks draft.index.rows ≡ row_nodes g.ks kept =
      sym (flat_map-map (λ (row : List ℕ). map (node_block g.ks) row) (λ (r : Row). r.old) draft.index.rows)
      ∙ ap (row_nodes g.ks) dr.index.olds
      ∙ flat_map-append (λ (row : List ℕ). map (node_block g.ks) row) kept (replicate more [])
      ∙ ap (λ (bs : List Block). row_nodes g.ks kept ++ bs) (no_nodes g.ks more)
      ∙ append-nil (row_nodes g.ks kept) in
      let leaves = map (leaf_block g.ks) read.leaves in
      let all = row_nodes g.ks read.rows.items in
      let root = node_block g.ks g.tree_at ∷ [] in
      let here : Contains (leaves ++ row_nodes g.ks kept ++ root) x =
      subst (λ (bs : List Block). Contains bs x)
      (λ i. map (leaf_block g.ks) (dr.index.are_leaves.0 i) ++ nodes i ++ node_block g.ks (dr.index.root i) ∷ []) has in
      Contains-append_right (heap_blocks read.heap) (leaves ++ all ++ root) x
      (elim (Contains-append_cases (leaves ++ row_nodes g.ks kept) root x here) [
        | inl below ↦ Contains-append_left (leaves ++ all) root x
            (elim (Contains-append_cases leaves (row_nodes g.ks kept) x below) [
              | inl leaf ↦ Contains-append_left leaves all x leaf
              | inr node ↦ Contains-append_right leaves all x
                  (kept_among g.ks (length (top_row read.leaves read.rows.items)) read.rows.items x node)
            ])
        | inr top ↦ Contains-append_right (leaves ++ all) root x top
      ])

  -- ---- how much is taken

  leaves_few : length draft.index.leaves.new ≤ 1
  leaves_few = elim dr.index.are_leaves.1 [
    | inl same ↦ omega (arith, ap (λ (l : List ℕ). length l) same.1)
    | inr more ↦ omega (arith, ap (λ (l : List ℕ). length l) more.1)
  ]

  kept_short : length kept ≤ length read.rows.items
  kept_short = short (length (top_row read.leaves read.rows.items))
    where
      short : (n : ℕ) → length (if n == 0 then [] else read.rows.items) ≤ length read.rows.items
      short zero = omega arith
      short (suc n) =
          let all : (if suc n == 0 then [] else read.rows.items) ≡ read.rows.items =
          ap (λ (b : Bool). cond b [] read.rows.items) (ne_eqb (suc n) 0 (λ e. omega (arith, e))) in
          omega (arith, ap (λ (l : List (List ℕ)). length l) all)

  nodes_few : length (news_of draft.index.rows) ≤ length read.rows.items + 2
  nodes_few = omega (
    arith,
    few_more (2 * g.ks.internal) (length (ats_of draft.index.leaves)) kept (map ats_of draft.index.rows) dr.index.wider,
    count_all draft.index.rows kept (length draft.index.rows - length kept) dr.index.olds,
    kept_short,
  )

  news_are : length (new_blocks g.ks draft.index)
      ≡ length draft.index.leaves.new + length (news_of draft.index.rows)
  news_are = omega (
    arith,
    length-append (map (leaf_block g.ks) draft.index.leaves.new) (new_nodes g.ks draft.index.rows),
    length-map draft.index.leaves.new (leaf_block g.ks),
    ap (λ (bs : List Block). length bs) (map_flat (node_block g.ks) (λ (r : Row). r.new) draft.index.rows),
    length-map (news_of draft.index.rows) (node_block g.ks),
  )

  segment_few : length name ≤ 255 → length read.heap.segment.items ≤ most_segment
      → sum_by (λ (n : NewBlock). length n.image.bytes) (segment_fills draft.heap) < 2 ^ 62
  segment_few short small = few draft.heap.segment
      (is_for read.heap dr.used name (next_segment v ahead) draft.heap dr.named)
    where
      few : (segment : Option NewBlock) → IsFor (next_segment v ahead) dr.used read.heap.head.len name segment
          → sum_by (λ (n : NewBlock). length n.image.bytes) (new_fills segment) < 2 ^ 62
      few None is = omega arith
      few (Some n) (inl (fits, none)) = absurd cc
      few (Some n) (inr (lt, is)) = omega (arith, is.len_is, dr.high, short, small, read.heap.len)

  pub insert_below : length name ≤ 255 → IsSmallRead read → (met : List Block) → AreAmong (read_blocks g read) met
      → EndBelow met
      → LieBelow g.ks draft
  insert_below short small met among below =
      lie_below g read draft dr.used (rounded (name_end dr.used name)) dr.named.header dr.named.part nodes_among met
      among below (segment_few short small.segment) (omega (arith, news_are, leaves_few, nodes_few, small.rows))

  module _ (ks : AreSmall g.ks) (images : List Image) (plan : EditPlan) (pl : IsPlanFor g.ks images draft plan) where
    whole : All IsWhole (segment_fills draft.heap ++ pl.fills)
    whole = all_whole v g ahead name target read draft dr ks images plan pl

    pub insert_fits : (met : List Block) → AreAmong (read_blocks g read) met → FitsCatalogue met plan
    insert_fits met among =
        draft_fits g read draft dr.used (rounded (name_end dr.used name)) dr.named.header dr.named.part met among
        nodes_among images plan pl whole

  module _ (ks : AreSmall g.ks) (fs : List Found) (bs : List Block) (old : HoldsGroup v.array g fs bs)
      (rd : IsReadOf v.array g old.head old.index read) where
    count : length draft.entries.items ≡ length read.entries.items + 1
    count = ap (λ (es : List SnodEntry). length es) dr.entries.are
        ∙ length-insert read.entries.items dr.entries.place (entry_to dr.used target) dr.entries.free.within

    few_leaves : IsSmallRead read → length (leaf_ats old.index) ≤ most_blocks
    few_leaves small = omega (arith, small.nodes, ap (λ (l : List ℕ). length l) rd.leaves)

    pub insert_room : IsSmallRead read → HasRoomFor g.ks draft.index (length draft.entries.items)
    insert_room small = record {
      leaves = subst (λ (n : ℕ). n ≤ 2 * g.ks.leaf * length (ats_of draft.index.leaves)) (sym count)
          (leaves_room v g ahead name target read draft dr ks fs bs old rd);
      above = rows_room v g ahead name target read draft dr ks fs bs old rd;
      levels = omega (
        arith,
        level_most v g ahead name target read draft dr ks fs bs old rd (few_leaves small),
        ap (λ (l : List (List ℕ)). length l) rd.rows,
        count_rows old.index (level_of old.index),
        root_level v.array g.ks (segment_in v.array g fs bs old) old.level old.index old.stands,
        small.rows,
      );
    }

  pub insert_inserts : AreSmall g.ks → AreRegions v.regions v.ends → IsNewName name → IsSmallRead read
      → (images : List Image) → images ≡ read.blocks.items
      → ((fs : List Found) (bs : List Block) (old : HoldsGroup v.array g fs bs)
      → IsReadOf v.array g old.head old.index read)
      → ((fs : List Found) (bs : List Block) → HoldsGroup v.array g fs bs → HasName fs name → ⊥)
      → (plan : EditPlan) → IsPlanFor g.ks images draft plan → Inserts v g ahead name target plan
  insert_inserts ks sound is_new small images same read_of lacks plan made fs bs old c agree place =
      let pl = subst (λ (is : List Image). IsPlanFor g.ks is draft plan) same made in
      let blocks = read.blocks.items in
      let rd = read_of fs bs old in
      let next = rounded (name_end dr.used name) in
      let nodes = nodes_there v g ahead name target read draft dr ks fs bs old rd in
      let wholes = whole ks blocks plan pl in
      let there = takes_there v g ahead name target read draft dr ks sound blocks plan pl place.below in
      let written = heap_written v.array c g fs bs old read rd v.regions (ends_ahead v ahead) draft plan pl dr.used next
      dr.named.header dr.named.part nodes wholes there agree place.apart in
      let spelled = nodes_spelled v.array c g fs bs old read rd v.regions (ends_ahead v ahead) draft plan pl dr.used
      next dr.named.header dr.named.part nodes wholes there agree place.apart in
      let taken : taken_ahead v ahead plan
      ≡ image_blocks (images_of (segment_fills draft.heap)) ++ new_blocks g.ks draft.index =
      there ∙ all_filled g.ks blocks draft plan pl in
      inserted v (planned_ahead v ahead plan c) g ahead name target read draft dr fs bs old rd is_new
      (lacks fs bs old) (dr.named.means c (planned_ahead v ahead plan c) written) spelled nodes
      (leaves_room v g ahead name target read draft dr ks fs bs old rd)
      (rows_room v g ahead name target read draft dr ks fs bs old rd)
      (level_most v g ahead name target read draft dr ks fs bs old rd (few_leaves ks fs bs old rd small))
      (taken_ahead v ahead plan) taken

  pub insert_takes : AreSmall g.ks → (images : List Image)
      → ((fs : List Found) (bs : List Block) (old : HoldsGroup v.array g fs bs)
      → IsReadOf v.array g old.head old.index read)
      → (plan : EditPlan) → IsPlanFor g.ks images draft plan → TakesLink v g name plan
  insert_takes ks images read_of plan pl fs bs old =
      takes_name v g ahead name target read draft dr ks fs bs old (read_of fs bs old) images plan pl

  pub insert_within : AreSmall g.ks → (images : List Image)
      → ((fs : List Found) (bs : List Block) (old : HoldsGroup v.array g fs bs)
      → IsReadOf v.array g old.head old.index read)
      → (plan : EditPlan) → IsPlanFor g.ks images draft plan → StaysWithin v g plan
  insert_within ks images read_of plan pl fs bs old =
      (insert_fits ks images plan pl bs (group_among v.array g fs bs old read (read_of fs bs old))).within
