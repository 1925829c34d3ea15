-- The blocks of a new group, with their bytes, and what it means that an array holds it.
-- HDF5 File Format Specification 3.0, III.A.1, III.D and IV.A.2.r. Cited by what plans a new group.
use Rattle.std.specs.Prelude.{◌≡◌, ℕ, List, [], ◌∷◌}
use Rattle.std.specs.List.Sorted.{IsPermutation}
use Rattle.h5_base.specs.Fields.{undefined}
use Rattle.h5_base.specs.declared.extent.MemClass.TheVariants as class
use Rattle.h5_base.specs.declared.kinds.BlockKind.TheVariants as kind
use Rattle.outside.specs.Array.{Array, bytes_of}
use Rattle.outside.specs.Blocks.{Block, Agree}
use Rattle.empty_file.specs.Empty.{heap_segment}
use Rattle.header_codec.specs.Written.{header_bytes}
use Rattle.header_codec.specs.declared.types.NewHeader.TheVariants as new
use Rattle.node_codec.specs.GroupNodes.{group_node_bytes}
use Rattle.node_codec.specs.Heap.{heap_bytes}
use Rattle.node_codec.specs.declared.group_node.GroupNode.{GroupNode}
use Rattle.node_codec.specs.declared.heap.HeapHead.{HeapHead}
use Rattle.file_model.specs.EditLaws.{group_at}
use Rattle.file_model.specs.Groups.{HasLinks, index_offsets, node_block}
use Rattle.file_model.specs.Holds.{IsGroup}
use Rattle.file_model.specs.WellKept.{AreWellKept}
use Rattle.group_room.specs.Used.{IsFreeBehind, IsUsedLen}
use Rattle.group_rows.specs.declared.group.GroupAt.{GroupAt}
use Rattle.plan_pieces.specs.declared.image.NewBlock.{NewBlock}

-- where its blocks lie: object header, root of the B-tree, header of the local heap, segment
abbrev pub group_blocks : GroupAt → (segment_at : ℕ) → List Block
group_blocks g segment_at = record { start = g.header_at; len = 40 } ∷ node_block g.ks g.tree_at
    ∷ record { start = g.heap_at; len = 32 } ∷ record { start = segment_at; len = 88 } ∷ []

-- a root without entries: its one key is the offset of the empty name
abbrev pub root_node : GroupNode
root_node = record { level = 0; left = undefined; right = undefined; keys = 0 ∷ []; children = [] }

-- the header of a heap whose segment is free behind the first 8 bytes
abbrev pub empty_head : (segment_at : ℕ) → HeapHead
empty_head segment_at = record { len = 88; free = 8; segment_at = segment_at }

-- the bytes of the blocks; the segment's are those of the empty file's root group
abbrev pub group_images : GroupAt → (segment_at : ℕ) → List (List ℕ)
group_images g segment_at = header_bytes (new.Group g.tree_at g.heap_at) ∷ group_node_bytes g.ks.internal root_node
    ∷ heap_bytes (empty_head segment_at) ∷ heap_segment ∷ []

-- ---- each block at its address

abbrev pub header_fill : (at tree heap : ℕ) → NewBlock
header_fill at tree heap = record {
  class = class.Header;
  kind = kind.Header;
  image = record { at = at; bytes = header_bytes (new.Group tree heap) };
}

abbrev pub tree_fill : (k at : ℕ) → NewBlock
tree_fill k at = record {
  class = class.Tree;
  kind = kind.Tree;
  image = record { at = at; bytes = group_node_bytes k root_node };
}

abbrev pub heap_fill : (at segment_at : ℕ) → NewBlock
heap_fill at segment_at = record {
  class = class.LocalHeap;
  kind = kind.Heap;
  image = record { at = at; bytes = heap_bytes (empty_head segment_at) };
}

abbrev pub segment_fill : (at : ℕ) → NewBlock
segment_fill at = record {
  class = class.LocalHeap;
  kind = kind.Heap;
  image = record { at = at; bytes = heap_segment };
}

-- ---- what an array holds

-- The array holds a group without links: its object is a group with this B-tree and heap, which have no link and are
-- well kept. The root has level 0. Of the heap the first 8 bytes are in use, and the rest is told free. All its blocks
-- are those taken.
pub record HoldsEmpty (c : Array) (g : GroupAt) (taken : List Block) : Type 0 where
  pub index : List Block
  pub held : IsGroup c g.ks (group_at g.header_at 40 g.tree_at g.heap_at index) []
  pub links : HasLinks c g.ks g.tree_at g.heap_at [] index
  pub kept : AreWellKept c g.ks g.tree_at g.heap_at [] index links
  pub level : links.level ≡ 0
  pub used : IsUsedLen (bytes_of c links.head.segment_at links.head.len) (index_offsets links.index) 8
  pub free : IsFreeBehind 8 links.head (bytes_of c links.head.segment_at links.head.len)
  pub blocks : IsPermutation taken (record { start = g.header_at; len = 40 } ∷ index)

-- ---- a law

-- An empty group stays where the bytes of its blocks stay.
abbrev pub EmptyStays : Type 0
EmptyStays = (b c : Array) (g : GroupAt) (taken : List Block) → Agree b c taken → HoldsEmpty b g taken
    → HoldsEmpty c g taken
