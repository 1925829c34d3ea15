-- What is read of a group whose blocks are in the catalogue.
-- HDF5 File Format Specification 3.0, III.A.1, III.B to III.D. Cited by `read_group` and `list_links`.
use Rattle.std.specs.Prelude.{◌≡◌, ◌+◌, ◌≤◌, ◌<◌, List, [], ◌∷◌, ◌++◌, length, All}
use Rattle.std.specs.List.{sum_by}
use Rattle.std.specs.List.Sorted.{IsPermutation}
use Rattle.outside.specs.Array.{Array, bytes_of}
use Rattle.outside.specs.Blocks.{Block, most_blocks}
use Rattle.outside.specs.Space.{SpaceView}
use Rattle.node_codec.specs.Snod.{IsCache}
use Rattle.node_codec.specs.declared.heap.HeapHead.{HeapHead}
use Rattle.block_space.specs.Blocks.{Keeps, array_of}
use Rattle.block_space.specs.declared.blocks.Blocks.{Blocks}
use Rattle.file_model.specs.Index.{gather}
use Rattle.file_model.specs.Groups.{Found, GroupIndex, HasLinks, index_blocks, index_offsets}
use Rattle.file_model.specs.Limits.{IsSmallHeap, most_segment}
use Rattle.plan_pieces.specs.Images.{HaveImages, image_blocks}
use Rattle.group_room.specs.Index.{level_of, rows_below}
use Rattle.group_rows.specs.declared.group.GroupAt.{GroupAt}
use Rattle.group_rows.specs.declared.group.GroupRead.{GroupRead}
use Rattle.group_heap.specs.Greatest.{IsGreatest}

-- The bytes hold a group, whose blocks are in the catalogue, and whose heap is small.
pub record IsHeld {V : Type 0} (view : V → SpaceView) (blocks : Blocks V) (group : GroupAt) : Type 0 where
  pub links : List Found
  pub own : List Block
  pub has : HasLinks (array_of view blocks) group.ks group.tree_at group.heap_at links own
  pub met : List Block
  pub others : List Block
  pub keeps : Keeps view blocks met
  pub among : IsPermutation met (own ++ others)
  pub small : IsSmallHeap (array_of view blocks) group.heap_at

-- What was read is the group with this heap and this index.
pub record IsReadOf (b : Array) (group : GroupAt) (head : HeapHead) (index : GroupIndex) (read : GroupRead) : Type 0
  where
    pub heap_at : read.heap.at ≡ group.heap_at
    pub head_is : read.heap.head ≡ head
    pub segment : read.heap.segment.items ≡ bytes_of b head.segment_at head.len
    pub entries : read.entries.items ≡ gather (λ n. []) (λ s. s.entries) index
    pub leaves : read.leaves ≡ gather (λ n. []) (λ s. s.at ∷ []) index
    pub rows : read.rows.items ≡ rows_below index (level_of index)
    pub last : IsGreatest (index_offsets index) read.last
    pub images : HaveImages b read.blocks.items
    pub blocks : IsPermutation (image_blocks read.blocks.items)
        (record { start = group.heap_at; len = 32 } ∷ index_blocks group.ks index)

-- What was read stays in proportion, whatever was read.
pub record IsSmallRead (read : GroupRead) : Type 0 where
  pub segment : length read.heap.segment.items ≤ most_segment
  pub caches : All IsCache read.entries.items
  pub nodes : length read.leaves + sum_by length read.rows.items ≤ most_blocks
  pub rows : length read.rows.items < 256
