-- What a group is to be with one link fewer. Cited by the parts of what plans it.
use Rattle.std.specs.Prelude.{◌≡◌, ℕ, ◌+◌, ◌<◌, ◌≤◌, ◌%◌, max, List, []}
use Rattle.std.specs.Prelude.{length, map, remove, slice_index_or, Option, Some}
use Rattle.std.specs.Option.{unwrap_or}
use Rattle.std.specs.List.{flat_map}
use Rattle.node_codec.specs.declared.snod.SnodEntry.{SnodEntry}
use Rattle.object_model.specs.Tree.{Name, AreOrdered}
use Rattle.file_model.specs.Groups.{AreLinks, Found, HasText, entry_offsets}
use Rattle.entry_list.specs.Places.{IsPlace}
use Rattle.group_heap.specs.Edits.{IsFreed}
use Rattle.group_heap.specs.Greatest.{IsGreatest, IsUsedBy}
use Rattle.group_layout.specs.Laying.{unchanged}
use Rattle.group_layout.specs.declared.row.IndexRows.{IndexRows}
use Rattle.group_rows.specs.declared.group.GroupAt.{GroupAt}
use Rattle.group_rows.specs.declared.group.GroupRead.{GroupRead}
use Rattle.group_edit.specs.declared.draft.Draft.{Draft}

-- the nodes at hand stay, and none is taken
pub record AreSameNodes (tree : ℕ) (leaves : List ℕ) (rows : List (List ℕ)) (index : IndexRows) : Type 0 where
  pub leaves_are : index.leaves ≡ unchanged leaves
  pub rows_are : index.rows ≡ map unchanged rows
  pub root : index.tree ≡ tree

-- The draft is the group that was read, without the link at a place.
pub record IsRestDraft (g : GroupAt) (read : GroupRead) (place : ℕ) (draft : Draft) : Type 0 where
  pub gone : SnodEntry
  pub gone_is : gone ≡ slice_index_or read.entries.items place gone
  pub entries : draft.entries.items ≡ remove read.entries.items place
  pub texts : Option ℕ
  pub texts_are : IsGreatest (flat_map entry_offsets draft.entries.items) texts
  pub base_zero : HasText read.heap.segment.items 0 [] → draft.base ≡ 0
  pub base_other : ¬ HasText read.heap.segment.items 0 [] → (text : List ℕ)
      → HasText read.heap.segment.items (unwrap_or texts gone.name_at) text
      → draft.base ≡ unwrap_or texts gone.name_at + length text
  pub used : ℕ
  pub is_used : IsUsedBy read.heap.segment.items (Some (max (unwrap_or texts draft.base) draft.base)) used
  pub whole : used % 8 ≡ 0
  pub low : 8 ≤ used
  pub freed : IsFreed read.heap used draft.heap
  pub index : AreSameNodes g.tree_at read.leaves read.rows.items draft.index

-- The draft is the group that was read, without the link at the place of this name: the entry that is gone has it in
-- the segment that was read, whatever that is.
pub record IsRemoveDraft (g : GroupAt) (name : Name) (read : GroupRead) (draft : Draft) : Type 0 where
  pub place : ℕ
  pub within : place < length read.entries.items
  pub is_place : (fs : List Found) → AreLinks read.heap.segment.items read.entries.items fs
      → AreOrdered (map (λ (f : Found). f.name) fs) → IsPlace fs name place
  pub rest : IsRestDraft g read place draft
  pub named : HasText read.heap.segment.items rest.gone.name_at name
