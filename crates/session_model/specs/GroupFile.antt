-- The empty file, and the file that `mkgroup /g` makes of it, block by block, with the states over them.
-- Cited by the worked examples.
use Rattle.std.specs.Prelude.{ℕ, true, false, List, [], ◌∷◌, ◌++◌, codes, Some, None}
use Rattle.std.specs.Int.{w64, to_le_bytes}
use Rattle.h5_base.specs.Fields.{undefined}
use Rattle.empty_file.specs.Empty.{empty_file, u16, u32, u64, zeros, Places, superblock, object_header}
use Rattle.empty_file.specs.Empty.{tree_node}
use Rattle.empty_file.specs.Empty.{heap_header, heap_segment, plain_places}
use Rattle.outside.specs.Array.{Array, array_of, over}
use Rattle.outside.specs.Revisions.{Stored, Whole, Revision, Committed, History}
use Rattle.super_codec.specs.declared.superblock.Superblock.{Superblock}
use Rattle.node_codec.specs.declared.snod.SnodEntry.{SnodEntry}
use Rattle.node_codec.specs.declared.group_node.GroupNode.{GroupNode}
use Rattle.object_model.specs.Tree.{Group, Empty, Link}
use Rattle.object_model.specs.Step.{Plain, new_group}
use Rattle.file_model.specs.Index.{Bottom, Node, NoMore, Next}
use Rattle.file_model.specs.Groups.{Ks, Found, Header, GroupIndex}
use Rattle.file_model.specs.Holds.{GroupAt, Full, FullLinks}
use Rattle.session_model.specs.State.{State}

-- ---- the empty file

abbrev pub empty_bytes : Array
empty_bytes = array_of empty_file

abbrev pub empty_ks : Ks
empty_ks = record { leaf = 4; internal = 16; chunk = 32 }

unfoldable pub empty_super : Superblock
empty_super = record {
  version = 0;
  leaf_k = 4;
  internal_k = 16;
  chunk_k = 32;
  flags = 0;
  free_at = undefined;
  end_at = 800;
  driver_at = undefined;
  root = record { header_at = 96; cache = 1; tree_at = 136; heap_at = 680 };
}

-- its root: a header, a heap header and segment, and a B-tree node without children
abbrev pub empty_root : GroupAt
empty_root = record {
  header_at = 96;
  tree_at = 136;
  heap_at = 680;
  own = record { start = 96; len = 40 } ∷ record { start = 680; len = 32 } ∷ record { start = 712; len = 88 }
      ∷ record { start = 136; len = 544 } ∷ [];
}

abbrev pub bare_node : GroupNode
bare_node = record { level = 0; left = undefined; right = undefined; keys = 0 ∷ []; children = [] }

abbrev pub empty_index : GroupIndex
empty_index = Node (record { at = 136; node = bare_node }) NoMore

abbrev pub empty_tree : Full
empty_tree = Group empty_root Empty

-- no revision is told
abbrev pub no_history : History
no_history = record { revisions = []; origin = λ c. 0 }

-- The state in which a run over it begins: its blocks are the superblock's and the root's four.
abbrev pub empty_state : State
empty_state = record {
  array = empty_bytes;
  ends = λ c. 800;
  committed = None;
  history = no_history;
  super = empty_super;
  root = empty_root;
  links = Empty;
  blocks = 5;
  edited = false;
}

-- ---- with one group

-- where the new group's blocks stand
abbrev pub group_places : Places
group_places = record { header = 800; tree = 840; heap = 1384; segment = 1416; driver = undefined; end = 1832 }

-- the root's B-tree node, with one symbol table node between offset 0 and the name at 8
abbrev pub root_node : List ℕ
root_node =
    codes "TREE" ++ (0 ∷ 0 ∷ []) ++ u16 1 ++ u64 undefined ++ u64 undefined ++ u64 0 ++ u64 1504 ++ u64 8 ++ zeros 496

-- its heap header and segment: the name `g` at 8, and a free block of 72 bytes at 16
abbrev pub root_heap : List ℕ
root_heap = codes "HEAP" ++ (0 ∷ 0 ∷ 0 ∷ 0 ∷ []) ++ u64 88 ++ u64 16 ++ u64 712

abbrev pub root_segment : List ℕ
root_segment = u64 0 ++ (103 ∷ zeros 7) ++ u64 1 ++ u64 72 ++ zeros 56

-- its symbol table node, with the entry of the new group
abbrev pub root_names : List ℕ
root_names =
    codes "SNOD" ++ (1 ∷ 0 ∷ []) ++ u16 1 ++ u64 8 ++ u64 800 ++ u32 1 ++ u32 0 ++ u64 840 ++ u64 1384 ++ zeros 280

unfoldable pub group_file : List ℕ
group_file =
    (superblock plain_places ++ object_header plain_places ++ root_node) ++ (root_heap ++ root_segment)
    ++ (object_header group_places ++ tree_node) ++ (heap_header group_places ++ heap_segment) ++ root_names

abbrev pub group_bytes : Array
group_bytes = array_of group_file

-- the root's index: one symbol table node with the new group's entry
abbrev pub group_entry : SnodEntry
group_entry = record { name_at = 8; header_at = 800; cache = 1; tree_at = 840; heap_at = 1384 }

abbrev pub group_found : Found
group_found = record { name = 103 ∷ []; target = Header 800 }

abbrev pub full_node : GroupNode
full_node = record { level = 0; left = undefined; right = undefined; keys = 0 ∷ 8 ∷ []; children = 1504 ∷ [] }

abbrev pub group_index : GroupIndex
group_index = Node (record { at = 136; node = full_node })
    (Next (Bottom (record { at = 1504; entries = group_entry ∷ []; links = group_found ∷ [] })) NoMore)

-- the root with its symbol table node, and the new group
unfoldable pub group_root : GroupAt
group_root = record {
  header_at = 96;
  tree_at = 136;
  heap_at = 680;
  own = record { start = 96; len = 40 } ∷ record { start = 680; len = 32 } ∷ record { start = 712; len = 88 }
      ∷ record { start = 136; len = 544 } ∷ record { start = 1504; len = 328 } ∷ [];
}

unfoldable pub new_root : GroupAt
new_root = record {
  header_at = 800;
  tree_at = 840;
  heap_at = 1384;
  own = record { start = 800; len = 40 } ∷ record { start = 1384; len = 32 } ∷ record { start = 1416; len = 88 }
      ∷ record { start = 840; len = 544 } ∷ [];
}

abbrev pub group_links : FullLinks
group_links = Link (103 ∷ []) (Group new_root Empty) Empty

-- the tree with the new group
abbrev pub one_group : Plain
one_group = Group tt (Link (103 ∷ []) new_group Empty)

-- five blocks were there, and five are new
abbrev pub group_state : State
group_state = record {
  array = group_bytes;
  ends = λ c. 1832;
  committed = None;
  history = no_history;
  super = empty_super;
  root = group_root;
  links = group_links;
  blocks = 10;
  edited = true;
}

-- ---- after a flush

-- the end field tells where the region ends
abbrev pub flushed_bytes : Array
flushed_bytes = over group_bytes 40 (to_le_bytes w64 1832)

unfoldable pub flushed_super : Superblock
unfolding empty_super
flushed_super = record empty_super { end_at = 1832 }

abbrev pub flushed_state : State
flushed_state = record group_state { array = flushed_bytes; super = flushed_super }

-- ---- beneath revisions of pages of 4096 bytes, where the first page is written, and after a first commit

abbrev pub first_revision : Stored
first_revision = Whole (record { number = 0; comment = []; time = []; end = 800; ends = λ c. 800; array = empty_bytes })

abbrev pub second_revision : Revision
second_revision = record {
  number = 1;
  comment = codes "one";
  time = codes "19700101T000000Z";
  end = 1832;
  ends = λ c. 1832;
  array = flushed_bytes;
}

abbrev pub written_once : Committed
written_once = record { count = 1; page = 4096; committed_end = 60; recorded = []; written = 0 ∷ [] }

abbrev pub committed_once : Committed
committed_once = record { count = 2; page = 4096; committed_end = 4287; recorded = 0 ∷ []; written = [] }

abbrev pub written_state : State
written_state = record group_state {
  committed = Some written_once;
  history = record { revisions = first_revision ∷ []; origin = λ c. 800 };
}

abbrev pub committed_state : State
committed_state = record flushed_state {
  committed = Some committed_once;
  history = record { revisions = first_revision ∷ Whole second_revision ∷ []; origin = λ c. 800 };
}
