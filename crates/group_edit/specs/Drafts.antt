-- What a group is to be, and the plan that makes it so.
-- Cited by the parts of what plans an edit of a group.
use Rattle.std.specs.Prelude.{◌≡◌, ℕ, ◌+◌, ◌*◌, ◌^◌, ◌<◌, ◌≤◌, List, [], ◌∷◌, ◌++◌, length, All, Option, None, Some}
use Rattle.std.specs.List.{Contains, sum_by}
use Rattle.outside.specs.Array.{Array}
use Rattle.outside.specs.Blocks.{Block}
use Rattle.block_space.specs.declared.plan.EditPlan.{EditPlan}
use Rattle.file_model.specs.Groups.{Ks}
use Rattle.plan_pieces.specs.declared.image.Image.{Image}
use Rattle.plan_pieces.specs.declared.image.NewBlock.{NewBlock}
use Rattle.plan_pieces.specs.Images.{HaveImages, image_blocks, images_of, takes_of}
use Rattle.plan_pieces.specs.Plan.{EndsBelow, IsPlanOf}
use Rattle.group_heap.specs.declared.heap.HeapEdit.{HeapEdit}
use Rattle.group_heap.specs.Edits.{part_images}
use Rattle.group_layout.specs.Laying.{IsSpelledOut, ats_of, new_blocks, new_takes, old_blocks, rows_of}
use Rattle.group_layout.specs.Rows.{HaveRoom}
use Rattle.group_layout.specs.declared.row.IndexRows.{IndexRows}
use Rattle.group_edit.specs.declared.draft.Draft.{Draft}

abbrev pub new_fills : Option NewBlock → List NewBlock
new_fills None = []
new_fills (Some n) = n ∷ []

-- the new segment, where there is one
abbrev pub segment_fills : HeapEdit → List NewBlock
segment_fills edit = new_fills edit.segment

-- The nodes have room for so many entries, level by level, and the root's level is a byte.
pub record HasRoomFor (ks : Ks) (index : IndexRows) (count : ℕ) : Type 0 where
  pub leaves : count ≤ 2 * ks.leaf * length (ats_of index.leaves)
  pub above : HaveRoom (2 * ks.internal) (length (ats_of index.leaves)) (rows_of index)
  pub levels : length index.rows < 256

-- the images of the heap that are written
abbrev pub heap_writes : HeapEdit → List Image
heap_writes edit = edit.header ∷ part_images edit.part

-- the addresses behind all that is written are numbers of 64 bits, and what is taken isn't too much
pub record LieBelow (ks : Ks) (draft : Draft) : Type 0 where
  pub heap : All EndsBelow (heap_writes draft.heap)
  pub nodes : (x : Block) → Contains (old_blocks ks draft.index) x → x.start + x.len < 2 ^ 64
  pub segment : sum_by (λ n. length n.image.bytes) (segment_fills draft.heap) < 2 ^ 62
  pub few : length (new_blocks ks draft.index) < 2 ^ 31

-- The plan writes and takes the images of a draft: those of its heap, and those of its nodes, which spell the entries.
pub record IsPlanFor (ks : Ks) (old : List Image) (draft : Draft) (plan : EditPlan) : Type 0 where
  pub writes : List Image
  pub fills : List NewBlock
  pub spelled : (b : Array) → HaveImages b (writes ++ images_of fills)
      → IsSpelledOut b ks draft.base draft.index draft.entries.items
  pub old_are : image_blocks writes ≡ old_blocks ks draft.index
  pub new_are : image_blocks (images_of fills) ≡ new_blocks ks draft.index
  pub takes : takes_of fills ≡ new_takes ks draft.index
  pub plan_is : IsPlanOf old (heap_writes draft.heap ++ writes) (segment_fills draft.heap ++ fills) plan
