-- The empty file holds one group without links, in these places, and its index is one node.
use Rattle.std.proofs.Common.{◌≡◌, List, [], ◌∷◌, refl, sym, ◌∙◌, ap, inl, inr, lit≤, arith}
use Rattle.std.proofs.lemmas.List.Elements.{All-nil, All-cons}
use Rattle.outside.specs.Array.{bytes_of}
use Rattle.outside.specs.Blocks.{Block}
use Rattle.h5_base.specs.declared.extent.MemClass.TheVariants.{Super}
use Rattle.h5_base.specs.Fields.{u16_at, u32_at, u64_at}
use Rattle.empty_file.specs.Empty.{empty_file, zeros}
use Rattle.super_codec.specs.Super.{Spells}
use Rattle.header_codec.specs.declared.types.Prefix.{Prefix}
use Rattle.node_codec.specs.GroupNodes.{SpellsGroupNode}
use Rattle.node_codec.specs.Heap.{SpellsHeap}
use Rattle.node_codec.specs.declared.heap.HeapHead.{HeapHead}
use Rattle.object_model.specs.Tree.{Group, Empty}
use Rattle.file_model.specs.Headers.{Met, Part, IsMet, IsHeader}
use Rattle.file_model.specs.Groups.{Found, HasLinks}
use Rattle.file_model.specs.Holds.{IsGroup, HoldsFull, super_bytes_of}
use Rattle.file_model.specs.Laws.{one_region, all_blocks}
use Rattle.file_model.specs.Limits.{IsShort, IsSmallHeap, header_bytes}
use Rattle.file_model.proofs.MetLaws.{met_of_drawn, counted_of}
use Rattle.file_model.proofs.UniqueGroups.{root_same}
use Rattle.file_model.proofs.UniqueHeaders.{prefix_same, header_same}
use Rattle.session_model.specs.GroupFile.{empty_bytes, empty_ks, empty_super, empty_root, bare_node, empty_index}

super_is : Spells empty_super (super_bytes_of empty_bytes (one_region 800))
unfolding empty_super empty_file zeros u16_at u32_at u64_at
super_is = record {
  block = record {
    signed = refl;
    version = lit≤ tt;
    whole = lit≤ tt;
    free_space_version = refl;
    root_version = refl;
    shared_version = refl;
    offsets = refl;
    lengths = refl;
    base = refl;
    leaf_k = (lit≤ tt, lit≤ tt);
    internal_k = (lit≤ tt, lit≤ tt);
    chunk_k = (lit≤ tt, lit≤ tt);
  };
  value = refl;
}

prefix : Prefix
prefix = record { messages = 1; links = 1; size = 24 }

-- the symbol table message
table : Met
table = record {
  kind = 0x11;
  flags = 0;
  at = 120;
  body = 136 ∷ 0 ∷ 0 ∷ 0 ∷ 0 ∷ 0 ∷ 0 ∷ 0 ∷ 168 ∷ 2 ∷ 0 ∷ 0 ∷ 0 ∷ 0 ∷ 0 ∷ 0 ∷ [];
}

part : Part
part = record { block = record { start = 112; len = 24 }; messages = table ∷ [] }

parts : List Part
unfolding part
parts = part ∷ []

read : IsMet empty_bytes part
unfolding part table empty_file zeros u16_at u32_at u64_at
read = record {
  stand = (
    record { message = record { head = lit≤ tt; multiple = refl; whole = lit≤ tt }; value = refl },
    refl,
    refl,
    tt,
  );
  whole = (λ kind. lit≤ tt, tt);
}

header : IsHeader empty_bytes 96 prefix parts
unfolding prefix table part parts empty_file zeros u16_at u32_at u64_at
header = record {
  spelled = record { prefix = record { whole = lit≤ tt; version = refl }; value = refl };
  unread = [];
  met = met_of_drawn empty_bytes (record { start = 112; len = 24 }) parts [] ([], refl, refl)
      (All-cons (IsMet empty_bytes) part [] read (All-nil (IsMet empty_bytes)));
  counted = counted_of empty_bytes 1 parts (lit≤ tt) refl;
}

abbrev pub head : HeapHead
head = record { len = 88; free = 8; segment_at = 712 }

-- the blocks of its heap and its index
abbrev pub index_blocks : List Block
index_blocks =
    record { start = 680; len = 32 } ∷ record { start = 712; len = 88 } ∷ record { start = 136; len = 544 } ∷ []

pub root_node : SpellsGroupNode 16 bare_node (bytes_of empty_bytes 136 544)
unfolding empty_file zeros u16_at u32_at u64_at
root_node = record { block = record { len = refl; signature = refl; kind = refl; room = lit≤ tt }; value = refl }

pub root_heap : SpellsHeap head (bytes_of empty_bytes 680 32)
unfolding empty_file zeros u16_at u32_at u64_at
root_heap = record { block = record { len = refl; signature = refl; version = refl }; value = refl }

unfoldable pub links : HasLinks empty_bytes empty_ks 136 680 [] index_blocks
links = record {
  head = head;
  spelled = root_heap;
  level = 0;
  index = empty_index;
  root = refl;
  stands = (record { spelled = root_node; level_is = refl; children_are = refl }, tt, tt);
  links = refl;
  ordered = tt;
  blocks = refl;
}

-- whatever links its root is said to have, they are by that index and that heap
pub head_is : (fs : List Found) (bs : List Block) (h : HasLinks empty_bytes empty_ks 136 680 fs bs) → h.head ≡ head
head_is fs bs h = h.spelled.value ∙ sym root_heap.value

pub index_is : (fs : List Found) (bs : List Block) (h : HasLinks empty_bytes empty_ks 136 680 fs bs)
    → (h.level ≡ 0) × (h.index ≡ empty_index)
index_is fs bs h =
    let segment = bytes_of empty_bytes h.head.segment_at h.head.len in
    root_same empty_bytes empty_ks segment h.level 0 h.index empty_index h.stands
    (record { spelled = root_node; level_is = refl; children_are = refl }, tt, tt) h.root

-- whatever header the root is said to have is that one, of 40 bytes
pub root_short : IsShort empty_bytes 96
unfolding prefix part parts table
root_short p ps h =
    let same = header_same empty_bytes 96 p prefix ps parts h header in
    let len : header_bytes 96 p ps ≡ 40 =
    ap (λ (x : Prefix). header_bytes 96 x ps) (prefix_same empty_bytes 96 p prefix ps parts h header)
    ∙ ap (λ (xs : List Part). header_bytes 96 prefix xs) same in
    omega (arith, len)

pub heap_small : IsSmallHeap empty_bytes 680
heap_small other h =
    let len : other.len ≡ 88 = ap (λ (x : HeapHead). x.len) (h.value ∙ sym root_heap.value) in
    omega (arith, len)

group : IsGroup empty_bytes empty_ks empty_root []
unfolding prefix part parts table u64_at
group = record {
  prefix = prefix;
  parts = parts;
  header = header;
  table = record { table = table; first = refl; tree_at = refl; heap_at = refl };
  index = index_blocks;
  links = links;
  blocks = refl;
}

pub empty_full : HoldsFull empty_bytes (one_region 800) empty_super empty_root Empty
unfolding empty_super
empty_full = record {
  super = super_is;
  driver = [];
  driver_is = refl;
  root = refl;
  held = (group, tt);
  kept = record {
    some = (lit≤ tt, (lit≤ tt, (lit≤ tt, (lit≤ tt, (lit≤ tt, tt)))));
    apart = (
      (inl (lit≤ tt), (inl (lit≤ tt), (inl (lit≤ tt), (inl (lit≤ tt), tt)))),
      (
        (inl (lit≤ tt), (inl (lit≤ tt), (inl (lit≤ tt), tt))),
        ((inl (lit≤ tt), (inr (lit≤ tt), tt)), ((inr (lit≤ tt), tt), (tt, tt))),
      ),
    );
    inside = (
      (Super, lit≤ tt, lit≤ tt),
      (
        (Super, lit≤ tt, lit≤ tt),
        ((Super, lit≤ tt, lit≤ tt), ((Super, lit≤ tt, lit≤ tt), ((Super, lit≤ tt, lit≤ tt), tt))),
      ),
    );
  };
}

-- all its blocks
abbrev pub all : List Block
all = record { start = 0; len = 96 } ∷ record { start = 96; len = 40 } ∷ index_blocks

pub all_are : all ≡ all_blocks empty_super empty_full.driver (Group empty_root Empty)
unfolding empty_super
all_are = rw empty_full.driver_is refl
