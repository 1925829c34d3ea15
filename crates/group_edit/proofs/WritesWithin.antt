-- What the plan of a draft writes lies within the blocks that were read: the header's image in the block of the heap, a
-- part of the segment within it, and the nodes, which are among them.
use Rattle.std.proofs.Common.{◌≡◌, ℕ, List, [], ◌∷◌, ◌++◌, length, All, Option, Some, None, refl, sym, ◌∙◌, ap, subst}
use Rattle.std.proofs.Common.{arith, inl, inr}
use Rattle.std.specs.List.{Contains}
use Rattle.std.proofs.lemmas.List.{map-append}
use Rattle.std.proofs.lemmas.List.Elements.{All-cons, All-contains, All-map, All-nil}
use Rattle.std.proofs.lemmas.List.Elements.{Contains-append_cases, Contains-append_left, Contains-append_right}
use Rattle.std.proofs.lemmas.List.Sorted.{Contains-permutation}
use Rattle.outside.specs.Array.{Array, bytes_of}
use Rattle.outside.specs.Blocks.{Block, placed}
use Rattle.block_space.specs.Plans.{FitsCatalogue, LiesInOne}
use Rattle.block_space.specs.declared.plan.EditPlan.{EditPlan}
use Rattle.file_model.specs.Groups.{Found, index_blocks}
use Rattle.plan_pieces.specs.declared.image.Image.{Image}
use Rattle.plan_pieces.specs.Images.{image_block, image_blocks}
use Rattle.plan_pieces.specs.Plan.{IsWhole, LieWithin}
use Rattle.plan_pieces.proofs.Planned.{plan_fits}
use Rattle.group_heap.specs.declared.heap.Heap.{Heap}
use Rattle.group_heap.specs.Edits.{IsHeaderImage, MaybePart, part_images}
use Rattle.group_layout.specs.Laying.{old_blocks}
use Rattle.group_facts.specs.Rows.{blocks_by_rows}
use Rattle.group_rows.specs.Reading.{IsReadOf}
use Rattle.group_rows.specs.declared.group.GroupAt.{GroupAt}
use Rattle.group_rows.specs.declared.group.GroupRead.{GroupRead}
use Rattle.group_edit.specs.declared.draft.Draft.{Draft}
use Rattle.group_edit.specs.Checked.{AreAmong, heap_blocks, read_blocks}
use Rattle.group_edit.specs.Drafts.{IsPlanFor, heap_writes, segment_fills}
use Rattle.group_edit.specs.Links.{HoldsGroup}
use Rattle.group_edit.proofs.StandBlocks.{placed_some}
use Rattle.group_edit.proofs.StandBlocks as stand

-- an image lies within one of the blocks
abbrev pub ImageWithin : List Block → Image → Type 0
ImageWithin met i = LiesInOne met i.at (length i.bytes)

module _ (heap : Heap) (used next : ℕ) (met : List Block) (among : AreAmong (heap_blocks heap) met) where
  header_within : (i : Image) → IsHeaderImage heap i → ImageWithin met i
  header_within i h = (
    record { start = heap.at; len = 32 },
    among _ (0, omega arith, refl),
    omega (arith, h.at_is),
    omega (arith, h.at_is, h.len),
  )

  part_within : (part : Option Image) → MaybePart heap used next part → All (ImageWithin met) (part_images part)
  part_within None m = All-nil (ImageWithin met)
  part_within (Some i) m =
      let segment : Block = record { start = heap.head.segment_at; len = heap.head.len } in
      let is = placed_some heap.head.segment_at heap.head.len (omega (arith, m.some, m.behind, m.inside)) in
      let one : Contains (heap_blocks heap) segment =
      subst (λ (ps : List Block). Contains (record { start = heap.at; len = 32 } ∷ ps) segment) (sym is)
      (1, omega arith, refl) in
      All-cons (ImageWithin met) i []
      (segment, among segment one, omega (arith, m.behind), omega (arith, m.inside)) (All-nil (ImageWithin met))

module _ (g : GroupAt) (read : GroupRead) (draft : Draft) (used next : ℕ)
    (header : IsHeaderImage read.heap draft.heap.header) (part : MaybePart read.heap used next draft.heap.part)
    (met : List Block) (among : AreAmong (read_blocks g read) met) where
  -- the images of the heap
  pub heap_within : All (ImageWithin met) (heap_writes draft.heap)
  heap_within =
      let own : AreAmong (heap_blocks read.heap) met =
      λ x has. among x (Contains-append_left (heap_blocks read.heap) _ x has) in
      All-cons (ImageWithin met) draft.heap.header (part_images draft.heap.part)
      (header_within read.heap used next met own draft.heap.header header)
      (part_within read.heap used next met own draft.heap.part part)

  module _ (nodes : AreAmong (old_blocks g.ks draft.index) (read_blocks g read)) where
    -- all images
    pub writes_within : (writes : List Image) → image_blocks writes ≡ old_blocks g.ks draft.index
        → LieWithin met (image_blocks (heap_writes draft.heap ++ writes))
    writes_within writes are x has =
        let both : image_blocks (heap_writes draft.heap ++ writes)
        ≡ image_blocks (heap_writes draft.heap) ++ old_blocks g.ks draft.index =
        map-append image_block (heap_writes draft.heap) writes
        ∙ ap (λ (bs : List Block). image_blocks (heap_writes draft.heap) ++ bs) are in
        let Lies : Block → Type 0 = λ y. LiesInOne met y.start y.len in
        elim (Contains-append_cases (image_blocks (heap_writes draft.heap)) (old_blocks g.ks draft.index) x
        (subst (λ (bs : List Block). Contains bs x) both has)) [
          | inl own ↦ All-contains Lies (image_blocks (heap_writes draft.heap)) x
              (All-map Lies image_block (heap_writes draft.heap) heap_within) own
          | inr node ↦ (x, among x (nodes x node), omega arith, omega arith)
        ]

    -- its plan fits a catalogue that has the blocks that were read, or the group's
    pub draft_fits : (images : List Image) (plan : EditPlan) (pl : IsPlanFor g.ks images draft plan)
        → All IsWhole (segment_fills draft.heap ++ pl.fills) → FitsCatalogue met plan
    draft_fits images plan pl wholes =
        plan_fits met images (heap_writes draft.heap ++ pl.writes) (segment_fills draft.heap ++ pl.fills) plan
        pl.plan_is wholes (writes_within pl.writes pl.old_are)

-- the blocks that were read are the group's
pub group_among : (b : Array) (g : GroupAt) (fs : List Found) (bs : List Block) (old : HoldsGroup b g fs bs)
    (read : GroupRead) → IsReadOf b g old.head old.index read → AreAmong (read_blocks g read) bs
group_among b g fs bs old read rd x has =
    let nodes = blocks_by_rows g.ks read.leaves read.rows.items g.tree_at in
    let index = index_blocks g.ks old.index in
    let same : heap_blocks read.heap ++ index ≡ bs =
    (λ i. (record { start = rd.heap_at i; len = 32 }
    ∷ placed (rd.head_is i).segment_at (rd.head_is i).len) ++ index) ∙ sym old.blocks in
    let moved = stand.read_blocks b g.ks (bytes_of b old.head.segment_at old.head.len) old.level old.index read.leaves
    read.rows.items g.tree_at old.stands rd.leaves rd.rows old.root in
    subst (λ (xs : List Block). Contains xs x) same (elim (Contains-append_cases (heap_blocks read.heap) nodes x has) [
      | inl own ↦ Contains-append_left (heap_blocks read.heap) index x own
      | inr node ↦ Contains-append_right (heap_blocks read.heap) index x (Contains-permutation nodes index x moved node)
    ])
