-- The blocks that were read lie below 2^64, and so does what the plan of a draft writes.
use Rattle.std.proofs.Common.{ℕ, ◌+◌, ◌^◌, ◌<◌, List, [], ◌∷◌, length, None, refl, sym, subst, arith, inl, inr}
use Rattle.std.proofs.Common.{eq-zero-or-pos}
use Rattle.std.specs.List.{Contains, sum_by}
use Rattle.std.proofs.lemmas.List.Elements.{All-weaker, Contains-append_left}
use Rattle.outside.specs.Blocks.{Block, AllInside}
use Rattle.outside.specs.Space.{AreRegions, SpaceView, bounds_of}
use Rattle.block_space.specs.Blocks.{Keeps}
use Rattle.block_space.specs.declared.blocks.Blocks.{Blocks}
use Rattle.block_space.proofs.Apart.{contains_cons}
use Rattle.plan_pieces.specs.Plan.{EndsBelow}
use Rattle.group_heap.specs.Edits.{IsHeaderImage, MaybePart}
use Rattle.group_layout.specs.Laying.{new_blocks, old_blocks}
use Rattle.group_rows.specs.declared.group.GroupAt.{GroupAt}
use Rattle.group_rows.specs.declared.group.GroupRead.{GroupRead}
use Rattle.group_edit.specs.declared.draft.Draft.{Draft}
use Rattle.group_edit.specs.Checked.{AreAmong, heap_blocks, read_blocks}
use Rattle.group_edit.specs.Drafts.{LieBelow, heap_writes, segment_fills}
use Rattle.group_edit.proofs.StandBlocks.{placed_some}
use Rattle.group_edit.proofs.WritesWithin.{ImageWithin, heap_within}

abbrev pub EndBelow : List Block → Type 0
EndBelow met = (x : Block) → Contains met x → x.start + x.len < 2 ^ 64

inside_below : (v : SpaceView) → AreRegions v.regions v.ends → (met : List Block) → AllInside (bounds_of v None) met
    → EndBelow met
inside_below v regions [] inside x has = absurd (omega (arith, has.1))
inside_below v regions (y ∷ ys) inside x has = elim (contains_cons y ys x has) [
  | inl e ↦ subst (λ (z : Block). z.start + z.len < 2 ^ 64) e
      (omega (arith, inside.0.2, regions.high inside.0.0, regions.fits inside.0.0))
  | inr later ↦ inside_below v regions ys inside.1 x later
]

-- the blocks of a catalogue
pub kept_below : {V : Type 0} (view : V → SpaceView) (blocks : Blocks V)
    → AreRegions (view blocks.space).regions (view blocks.space).ends → (met : List Block) → Keeps view blocks met
    → EndBelow met
kept_below view blocks regions met keeps = inside_below (view blocks.space) regions met (keeps.inside None)

-- the segment of the heap that was read, which has no block where it is empty
pub segment_below : (g : GroupAt) (read : GroupRead) (met : List Block) → AreAmong (read_blocks g read) met
    → EndBelow met → read.heap.head.segment_at < 2 ^ 64 → read.heap.head.segment_at + read.heap.head.len < 2 ^ 64
segment_below g read met among below address = elim (eq-zero-or-pos read.heap.head.len) [
  | inl none ↦ omega (arith, none, address)
  | inr some ↦
      let head : Block = record { start = read.heap.at; len = 32 } in
      let segment : Block = record { start = read.heap.head.segment_at; len = read.heap.head.len } in
      let is = placed_some read.heap.head.segment_at read.heap.head.len some in
      let one : Contains (heap_blocks read.heap) segment =
      subst (λ (ps : List Block). Contains (head ∷ ps) segment) (sym is) (1, omega arith, refl) in
      below segment (among segment (Contains-append_left (heap_blocks read.heap) _ segment one))
]

module _ (g : GroupAt) (read : GroupRead) (draft : Draft) (used next : ℕ)
    (header : IsHeaderImage read.heap draft.heap.header) (part : MaybePart read.heap used next draft.heap.part)
    (nodes : AreAmong (old_blocks g.ks draft.index) (read_blocks g read)) (met : List Block)
    (among : AreAmong (read_blocks g read) met) (below : EndBelow met) where
  pub lie_below : sum_by (λ n. length n.image.bytes) (segment_fills draft.heap) < 2 ^ 62
      → length (new_blocks g.ks draft.index) < 2 ^ 31 → LieBelow g.ks draft
  lie_below segment few = record {
    heap = All-weaker (ImageWithin met) EndsBelow
        (λ i within. omega (arith, below within.0 within.1, within.2, within.3)) (heap_writes draft.heap)
        (heap_within g read draft used next header part met among);
    nodes = λ x has. below x (among x (nodes x has));
    segment = segment;
    few = few;
  }
