-- The bytes of an empty HDF5 file, block by block, after the HDF5 File Format Specification 3.0.
-- Cited by whatever creates a file or says what a created file is.
use Rattle.std.specs.Prelude.{ℕ, ◌*◌, ◌+◌, List, [], ◌∷◌, ◌++◌, replicate, codes}
use Rattle.std.specs.Int.{w16, w32, w64, to_le_bytes}
use Rattle.h5_base.specs.Fields.{undefined}

abbrev pub u16 : ℕ → List ℕ
u16 = to_le_bytes w16

abbrev pub u32 : ℕ → List ℕ
u32 = to_le_bytes w32

abbrev pub u64 : ℕ → List ℕ
u64 = to_le_bytes w64

unfoldable pub zeros : ℕ → List ℕ
zeros n = replicate n 0

-- Where the blocks of an empty file stand: its one object header, B-tree node, local heap and heap segment, the
-- driver information block (undefined where there is none), and the end of the file.
pub record Places : Type 0 where
  pub header : ℕ
  pub tree : ℕ
  pub heap : ℕ
  pub segment : ℕ
  pub driver : ℕ
  pub end : ℕ

-- Symbol Table Entry (III.C) of the root: no name, its object header, cache type 1 with B-tree and heap.
abbrev pub root_entry : Places → List ℕ
root_entry p = u64 0 ++ u64 p.header ++ u32 1 ++ u32 0 ++ u64 p.tree ++ u64 p.heap

-- Superblock version 0 (II.A): signature; the versions of superblock, free space and root entry, a reserved byte,
-- the version of shared headers, sizes of offsets and lengths, a reserved byte; group leaf K 4 and internal K 16;
-- no flags; base address 0, no free-space information, the end of the file, the driver information block.
abbrev pub superblock : Places → List ℕ
superblock p =
    (0x89 ∷ 0x48 ∷ 0x44 ∷ 0x46 ∷ 0x0D ∷ 0x0A ∷ 0x1A ∷ 0x0A ∷ [])
    ++ (0 ∷ 0 ∷ 0 ∷ 0 ∷ 0 ∷ 8 ∷ 8 ∷ 0 ∷ [])
    ++ u16 4 ++ u16 16 ++ u32 0
    ++ u64 0 ++ u64 undefined ++ u64 p.end ++ u64 p.driver
    ++ root_entry p

-- Object header version 1 (IV.A.1.a) of one message, with one link to it and 24 bytes of messages: a Symbol Table
-- message (IV.A.2.r) of 16 bytes without flags, with B-tree and heap.
abbrev pub object_header : Places → List ℕ
object_header p =
    (1 ∷ 0 ∷ []) ++ u16 1 ++ u32 1 ++ u32 24 ++ u32 0
    ++ u16 0x11 ++ u16 16 ++ (0 ∷ 0 ∷ 0 ∷ 0 ∷ [])
    ++ u64 p.tree ++ u64 p.heap

-- B-tree node version 1 (III.A.1) of a group, at level 0, without entries and siblings: room for 2K children and
-- 2K + 1 keys, K being 16.
abbrev pub tree_head : List ℕ
tree_head = codes "TREE" ++ (0 ∷ 0 ∷ []) ++ u16 0 ++ u64 undefined ++ u64 undefined

abbrev pub tree_node : List ℕ
tree_node = tree_head ++ zeros (8 * (2 * 16 + 1) + 8 * (2 * 16))

-- Local heap (III.D): a segment of 88 bytes, its free list from offset 8 on.
abbrev pub heap_header : Places → List ℕ
heap_header p = codes "HEAP" ++ (0 ∷ 0 ∷ 0 ∷ 0 ∷ []) ++ u64 88 ++ u64 8 ++ u64 p.segment

-- Its segment: the empty name, and one free block of 80 bytes, the last of the list.
abbrev pub segment_head : List ℕ
segment_head = u64 0 ++ u64 1 ++ u64 80

abbrev pub heap_segment : List ℕ
heap_segment = segment_head ++ zeros 64

-- the places in a file of one region without driver information
abbrev pub plain_places : Places
plain_places = record { header = 96; tree = 136; heap = 680; segment = 712; driver = undefined; end = 800 }

-- The empty file of one region without driver information.
unfoldable pub empty_file : List ℕ
empty_file =
    (superblock plain_places ++ object_header plain_places ++ tree_node)
    ++ (heap_header plain_places ++ heap_segment)
