-- What a group is to be with one link more. Cited by the parts of what plans it.
use Rattle.std.specs.Prelude.{◌≡◌, ◌≢◌, ℕ, ◌+◌, ◌-◌, ◌%◌, ◌^◌, ◌<◌, ◌≤◌, min, List, length, map, Option, None, Some}
use Rattle.std.specs.Prelude.{insert, slice_index}
use Rattle.h5_base.specs.declared.extent.MemClass.TheVariants as class
use Rattle.outside.specs.Space.{SpaceView}
use Rattle.block_space.specs.declared.plan.Needs.{Needs}
use Rattle.node_codec.specs.declared.snod.SnodEntry.{SnodEntry}
use Rattle.object_model.specs.Tree.{Name, AreOrdered}
use Rattle.file_model.specs.Groups.{AreLinks, Found}
use Rattle.plan_pieces.specs.Plan.{IsWithBlock}
use Rattle.plan_pieces.specs.declared.image.NewBlock.{NewBlock}
use Rattle.entry_list.specs.Places.{IsNamedAt, IsPlace}
use Rattle.group_heap.specs.Edits.{IsNamed}
use Rattle.group_heap.specs.Greatest.{IsUsedBy}
use Rattle.group_facts.specs.Places.{ends_ahead}
use Rattle.group_rows.specs.declared.group.GroupAt.{GroupAt}
use Rattle.group_rows.specs.declared.group.GroupRead.{GroupRead}
use Rattle.group_edit.specs.declared.draft.Draft.{Draft}
use Rattle.group_edit.specs.declared.target.NewTarget.{NewTarget}
use Rattle.group_edit.specs.Grown.{IsGrown}
use Rattle.group_edit.specs.Links.{entry_to}

-- a new segment isn't too long to count on
abbrev pub MaybeShort : Option NewBlock → Type 0
MaybeShort None = Unit {0}
MaybeShort (Some n) = length n.image.bytes < 2 ^ 62

-- what is ahead of the nodes: with the new segment, where there is one
abbrev pub IsBehind : Needs → Option NewBlock → Needs → Type 0
IsBehind ahead None behind = behind ≡ ahead
IsBehind ahead (Some n) behind = IsWithBlock ahead n.class (length n.image.bytes) behind

-- The place of a name among the links that the entries tell; the entry that is there has another name.
pub record IsFreePlace (segment : List ℕ) (es : List SnodEntry) (name : Name) (place : ℕ) : Type 0 where
  pub within : place ≤ length es
  pub is_place : (fs : List Found) → AreLinks segment es fs → AreOrdered (map (λ (f : Found). f.name) fs)
      → IsPlace fs name place
  pub lacks : ¬ IsNamedAt segment es place name

-- The entries have one more, at the place of its name, which none of them has there.
pub record IsWithEntry (segment : List ℕ) (es : List SnodEntry) (name : Name) (e : SnodEntry) (es' : List SnodEntry)
    : Type 0 where
  pub place : ℕ
  pub free : IsFreePlace segment es name place
  pub are : es' ≡ insert es place e

-- the address that is told for a block of a heap behind what is ahead
abbrev pub next_segment : SpaceView → Needs → ℕ
next_segment v ahead = min (ends_ahead v ahead class.LocalHeap) (2 ^ 64 - 1)

-- The draft is the group that was read, with one link more.
pub record IsInsertDraft (v : SpaceView) (g : GroupAt) (ahead : Needs) (name : Name) (target : NewTarget)
    (read : GroupRead) (draft : Draft) : Type 0 where
  pub used : ℕ
  pub is_used : IsUsedBy read.heap.segment.items read.last used
  pub whole : used % 8 ≡ 0
  pub low : 8 ≤ used
  pub high : used ≤ read.heap.head.len + 8
  pub named : IsNamed read.heap used name (next_segment v ahead) draft.heap
  pub behind : Needs
  pub is_behind : IsBehind ahead draft.heap.segment behind
  pub base_zero : slice_index read.heap.segment.items 0 ≡ 0 → draft.base ≡ 0
  pub base_other : slice_index read.heap.segment.items 0 ≢ 0 → draft.base ≡ used + length name
  pub entries : IsWithEntry read.heap.segment.items read.entries.items name (entry_to used target) draft.entries.items
  pub index : IsGrown v g.ks behind (length read.entries.items + 1) read.leaves read.rows.items g.tree_at draft.index
