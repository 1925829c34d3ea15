-- Once the plan of a draft is done, its images stand: the heap's, and those of the nodes, which spell the entries.
use Rattle.std.proofs.Common.{◌≡◌, ℕ, List, ◌∷◌, ◌++◌, All, sym, ◌∙◌, ap, subst, arith}
use Rattle.std.specs.List.Sorted.{IsPermutation}
use Rattle.std.proofs.lemmas.List.{append_assoc, map-append}
use Rattle.std.proofs.lemmas.List.Sorted.{IsPermutation-sym, IsPermutation-trans}
use Rattle.h5_base.specs.declared.extent.MemClass.{MemClass}
use Rattle.h5_base.specs.declared.extent.Region.{Region}
use Rattle.outside.specs.Array.{Array, Ends, bytes_of}
use Rattle.outside.specs.Blocks.{Block, IsApart, AllApart, Agree, placed}
use Rattle.node_codec.specs.declared.heap.HeapHead.{HeapHead}
use Rattle.block_space.specs.Plans.{planned, taken_blocks}
use Rattle.block_space.specs.declared.plan.EditPlan.{EditPlan}
use Rattle.file_model.specs.Groups.{Found, index_blocks}
use Rattle.file_model.proofs.FrameBytes.{agree_left, bytes_same, placed_same}
use Rattle.plan_pieces.specs.declared.image.NewBlock.{NewBlock}
use Rattle.plan_pieces.specs.Images.{HaveImages, image_block, image_blocks, images_of}
use Rattle.plan_pieces.specs.Plan.{IsWhole, TakesThere}
use Rattle.plan_pieces.proofs.Planned.{plan_has, plan_stays}
use Rattle.group_heap.specs.Edits.{IsHeaderImage, IsWritten, MaybePart, StaysBeside, segment_images}
use Rattle.group_layout.specs.Laying.{IsSpelledOut, old_blocks}
use Rattle.group_facts.specs.Rows.{blocks_by_rows}
use Rattle.group_rows.specs.Reading.{IsReadOf}
use Rattle.group_rows.specs.declared.group.GroupAt.{GroupAt}
use Rattle.group_rows.specs.declared.group.GroupRead.{GroupRead}
use Rattle.group_edit.specs.declared.draft.Draft.{Draft}
use Rattle.group_edit.specs.Drafts.{IsPlanFor, heap_writes, segment_fills}
use Rattle.group_edit.specs.Links.{HoldsGroup}
use Rattle.group_edit.proofs.StandBlocks.{agree_among, all_among, have_all, have_left, have_right, part_agree}
use Rattle.group_edit.proofs.StandBlocks.{part_apart, part_beside, part_blocks, place, read_blocks, segment_is}

module _ (b c : Array) (g : GroupAt) (fs : List Found) (bs : List Block) (old : HoldsGroup b g fs bs)
    (read : GroupRead) (rd : IsReadOf b g old.head old.index read) (regions : MemClass → Region) (ends : Ends)
    (draft : Draft) (plan : EditPlan) (pl : IsPlanFor g.ks read.blocks.items draft plan) (used next : ℕ)
    (header : IsHeaderImage read.heap draft.heap.header) (part : MaybePart read.heap used next draft.heap.part)
    (nodes : IsPermutation (old_blocks g.ks draft.index)
    (blocks_by_rows g.ks read.leaves read.rows.items g.tree_at))
    (whole : All IsWhole (segment_fills draft.heap ++ pl.fills))
    (there : TakesThere regions ends plan (segment_fills draft.heap ++ pl.fills))
    (agree : Agree b c bs) (apart : AllApart (bs ++ taken_blocks regions ends plan.takes)) where
  nodes_are : IsPermutation (index_blocks g.ks old.index) (image_blocks pl.writes)
  nodes_are =
      let root = read_blocks b g.ks (bytes_of b old.head.segment_at old.head.len) old.level old.index read.leaves
      read.rows.items g.tree_at old.stands rd.leaves rd.rows old.root in
      let as_read = IsPermutation-trans _ _ _ nodes root in
      subst (IsPermutation (index_blocks g.ks old.index)) (sym pl.old_are) (IsPermutation-sym _ _ as_read)

  blocks_are : bs ≡ (record { start = g.heap_at; len = 32 } ∷ place read.heap) ++ index_blocks g.ks old.index
  blocks_are = old.blocks ∙ ap (λ (hd : HeapHead). (record { start = g.heap_at; len = 32 }
      ∷ placed hd.segment_at hd.len) ++ index_blocks g.ks old.index) (sym rd.head_is)

  agree_place : Agree b c (place read.heap)
  agree_place = agree_left b c (place read.heap) (index_blocks g.ks old.index)
      (subst (Agree b c) blocks_are agree).1

  -- all that is written and taken, but the segment's place
  rest : List Block
  rest = image_blocks pl.writes ++ image_blocks (images_of (segment_fills draft.heap ++ pl.fills))

  all_apart : AllApart ((record { start = g.heap_at; len = 32 } ∷ place read.heap) ++ rest)
  unfolding rest
  all_apart = all_among (record { start = g.heap_at; len = 32 }) (place read.heap) (index_blocks g.ks old.index)
      (image_blocks pl.writes) (taken_blocks regions ends plan.takes)
      (image_blocks (images_of (segment_fills draft.heap ++ pl.fills))) nodes_are there
      (subst (λ (xs : List Block). AllApart (xs ++ taken_blocks regions ends plan.takes)) blocks_are apart)

  writes_are : image_blocks (heap_writes draft.heap ++ pl.writes)
      ≡ (record { start = g.heap_at; len = 32 } ∷ part_blocks draft.heap.part) ++ image_blocks pl.writes
  writes_are = map-append image_block (heap_writes draft.heap) pl.writes
      ∙ (λ i. (record { start = (header.at_is ∙ rd.heap_at) i; len = header.len i }
      ∷ part_blocks draft.heap.part) ++ image_blocks pl.writes)

  whole_is : (record { start = g.heap_at; len = 32 } ∷ part_blocks draft.heap.part) ++ rest
      ≡ image_blocks (heap_writes draft.heap ++ pl.writes)
      ++ image_blocks (images_of (segment_fills draft.heap ++ pl.fills))
  unfolding rest
  whole_is = sym (append_assoc (record { start = g.heap_at; len = 32 } ∷ part_blocks draft.heap.part)
      (image_blocks pl.writes) (image_blocks (images_of (segment_fills draft.heap ++ pl.fills))))
      ∙ ap (λ (xs : List Block). xs ++ image_blocks (images_of (segment_fills draft.heap ++ pl.fills)))
      (sym writes_are)

  have : HaveImages (planned regions ends plan c)
      ((heap_writes draft.heap ++ pl.writes) ++ images_of (segment_fills draft.heap ++ pl.fills))
  have = plan_has regions ends b c read.blocks.items (heap_writes draft.heap ++ pl.writes)
      (segment_fills draft.heap ++ pl.fills) plan pl.plan_is rd.images
      (subst (Agree b c) (sym writes_are) (agree_among b c (record { start = g.heap_at; len = 32 })
      (place read.heap) (part_blocks draft.heap.part) (index_blocks g.ks old.index) (image_blocks pl.writes)
      nodes_are (part_agree read.heap used next draft.heap.part part b c)
      (subst (Agree b c) blocks_are agree)))
      whole there
      (subst AllApart whole_is (part_apart read.heap used next draft.heap.part part
      (record { start = g.heap_at; len = 32 }) rest all_apart))

  have_writes : HaveImages (planned regions ends plan c) (heap_writes draft.heap ++ pl.writes)
  have_writes = have_left (planned regions ends plan c) (heap_writes draft.heap ++ pl.writes)
      (images_of (segment_fills draft.heap ++ pl.fills)) have

  have_fills : HaveImages (planned regions ends plan c) (images_of (segment_fills draft.heap) ++ images_of pl.fills)
  have_fills = subst (HaveImages (planned regions ends plan c))
      (map-append (λ (n : NewBlock). n.image) (segment_fills draft.heap) pl.fills)
      (have_right (planned regions ends plan c) (heap_writes draft.heap ++ pl.writes)
      (images_of (segment_fills draft.heap ++ pl.fills)) have)

  stays : StaysBeside read.heap draft.heap c (planned regions ends plan c)
  stays a low high outside =
      let one : Block = record { start = a; len = 1 } in
      let alone = part_beside read.heap used next draft.heap.part (record { start = g.heap_at; len = 32 }) rest
      all_apart a low high outside in
      let same = plan_stays regions ends c read.blocks.items (heap_writes draft.heap ++ pl.writes)
      (segment_fills draft.heap ++ pl.fills) plan pl.plan_is whole there one (subst (IsApart one) whole_is alone) in
      sym (same.0 a (omega arith) (omega arith))

  pub heap_written : IsWritten read.heap draft.heap c (planned regions ends plan c)
  heap_written = record {
    stood = sym (bytes_same b c read.heap.head.segment_at read.heap.head.len
        (placed_same b c read.heap.head.segment_at read.heap.head.len agree_place))
        ∙ ap (λ (hd : HeapHead). bytes_of b hd.segment_at hd.len) rd.head_is ∙ sym rd.segment;
    beside = stays;
    images = have_all (planned regions ends plan c) (heap_writes draft.heap) (segment_images draft.heap.segment)
        (have_left (planned regions ends plan c) (heap_writes draft.heap) pl.writes have_writes)
        (subst (HaveImages (planned regions ends plan c)) (segment_is draft.heap.segment)
        (have_left (planned regions ends plan c) (images_of (segment_fills draft.heap)) (images_of pl.fills)
        have_fills));
  }

  pub nodes_spelled : IsSpelledOut (planned regions ends plan c) g.ks draft.base draft.index draft.entries.items
  nodes_spelled = pl.spelled (planned regions ends plan c)
      (have_all (planned regions ends plan c) pl.writes (images_of pl.fills)
      (have_right (planned regions ends plan c) (heap_writes draft.heap) pl.writes have_writes)
      (have_right (planned regions ends plan c) (images_of (segment_fills draft.heap)) (images_of pl.fills)
      have_fills))
