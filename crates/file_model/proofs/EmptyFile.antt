-- The empty file holds one group without links.
use Rattle.std.proofs.Common.{◌≡◌, ℕ, zero, suc, List, [], ◌∷◌, refl, sym, ◌∙◌, ap, subst, arith, inl, inr, lit≤}
use Rattle.std.proofs.lemmas.List.Elements.{All-nil, All-cons}
use Rattle.outside.specs.Array.{array_of, bytes_of}
use Rattle.h5_base.specs.declared.extent.MemClass.TheVariants.{Super}
use Rattle.h5_base.specs.Fields.{u16_at, u32_at, u64_at, undefined}
use Rattle.empty_file.specs.Empty.{empty_file, zeros}
use Rattle.super_codec.specs.Super.{Spells}
use Rattle.super_codec.specs.declared.superblock.Superblock.{Superblock}
use Rattle.header_codec.specs.declared.types.Prefix.{Prefix}
use Rattle.node_codec.specs.GroupNodes.{SpellsGroupNode}
use Rattle.node_codec.specs.Heap.{SpellsHeap, heap_of}
use Rattle.node_codec.specs.declared.group_node.GroupNode.{GroupNode}
use Rattle.node_codec.specs.declared.heap.HeapHead.{HeapHead}
use Rattle.object_model.specs.Tree.{Group, Leaf, Empty}
use Rattle.outside.specs.Blocks.{Block}
use Rattle.file_model.specs.Headers.{Met, Part, IsMet, IsHeader}
use Rattle.file_model.specs.Index.{Node, NoMore, row, AreSiblings}
use Rattle.file_model.specs.Groups.{Ks, Found, GroupIndex, HasText, IsIndex, HasLinks}
use Rattle.file_model.specs.Holds.{Full, GroupAt, IsGroup, HoldsFull, founds, ks_of, super_bytes_of}
use Rattle.file_model.specs.WellKept.{BeginsEmpty, IsKeptGroup, AreWellKept}
use Rattle.file_model.specs.Laws.{one_region, EmptyFile, EmptyKept}
use Rattle.file_model.proofs.MetLaws.{met_of_drawn, counted_of}
use Rattle.file_model.proofs.UniqueGroups.{root_same}
use Rattle.file_model.proofs.UniqueTree.{one_full}

super : Superblock
super = record {
  version = 0;
  leaf_k = 4;
  internal_k = 16;
  chunk_k = 32;
  flags = 0;
  free_at = 0xFFFF_FFFF_FFFF_FFFF;
  end_at = 800;
  driver_at = 0xFFFF_FFFF_FFFF_FFFF;
  root = record { header_at = 96; cache = 1; tree_at = 136; heap_at = 680 };
}

super_is : Spells super (super_bytes_of (array_of empty_file) (one_region 800))
unfolding super empty_file zeros u16_at u32_at u64_at
super_is = record {
  block = record {
    signed = refl;
    version = lit≤ tt;
    whole = lit≤ tt;
    free_space_version = refl;
    root_version = refl;
    shared_version = refl;
    offsets = refl;
    lengths = refl;
    base = refl;
    leaf_k = (lit≤ tt, lit≤ tt);
    internal_k = (lit≤ tt, lit≤ tt);
    chunk_k = (lit≤ tt, lit≤ tt);
  };
  value = refl;
}

prefix : Prefix
prefix = record { messages = 1; links = 1; size = 24 }

-- the symbol table message
table : Met
table = record {
  kind = 0x11;
  flags = 0;
  at = 120;
  body = 136 ∷ 0 ∷ 0 ∷ 0 ∷ 0 ∷ 0 ∷ 0 ∷ 0 ∷ 168 ∷ 2 ∷ 0 ∷ 0 ∷ 0 ∷ 0 ∷ 0 ∷ 0 ∷ [];
}

part : Part
part = record { block = record { start = 112; len = 24 }; messages = table ∷ [] }

parts : List Part
unfolding part
parts = part ∷ []

read : IsMet (array_of empty_file) part
unfolding part table empty_file zeros u16_at u32_at u64_at
read = record {
  stand = (
    record { message = record { head = lit≤ tt; multiple = refl; whole = lit≤ tt }; value = refl },
    refl,
    refl,
    tt,
  );
  whole = (λ kind. lit≤ tt, tt);
}

header : IsHeader (array_of empty_file) 96 prefix parts
unfolding prefix table part parts empty_file zeros u16_at u32_at u64_at
header = record {
  spelled = record { prefix = record { whole = lit≤ tt; version = refl }; value = refl };
  unread = [];
  met = met_of_drawn (array_of empty_file) (record { start = 112; len = 24 }) parts [] ([], refl, refl)
      (All-cons (IsMet (array_of empty_file)) part [] read (All-nil (IsMet (array_of empty_file))));
  counted = counted_of (array_of empty_file) 1 parts (lit≤ tt) refl;
}

head : HeapHead
head = record { len = 88; free = 8; segment_at = 712 }

node : GroupNode
node = record { level = 0; left = 0xFFFF_FFFF_FFFF_FFFF; right = 0xFFFF_FFFF_FFFF_FFFF; keys = 0 ∷ []; children = [] }

-- the index of the group: one node
only : GroupIndex
only = Node (record { at = 136; node = node }) NoMore

ks : Ks
ks = record { leaf = 4; internal = 16; chunk = 32 }

index : List Block
index = record { start = 680; len = 32 } ∷ record { start = 712; len = 88 } ∷ record { start = 136; len = 544 } ∷ []

root_node : SpellsGroupNode 16 node (bytes_of (array_of empty_file) 136 544)
unfolding node empty_file zeros u16_at u32_at u64_at
root_node = record { block = record { len = refl; signature = refl; kind = refl; room = lit≤ tt }; value = refl }

root_heap : SpellsHeap head (bytes_of (array_of empty_file) 680 32)
unfolding head empty_file zeros u16_at u32_at u64_at
root_heap = record { block = record { len = refl; signature = refl; version = refl }; value = refl }

links : HasLinks (array_of empty_file) ks 136 680 [] index
unfolding ks head node only index
links = record {
  head = head;
  spelled = root_heap;
  level = 0;
  index = only;
  root = refl;
  stands = (record { spelled = root_node; level_is = refl; children_are = refl }, tt, tt);
  links = refl;
  ordered = tt;
  blocks = refl;
}

root : GroupAt
root = record { header_at = 96; tree_at = 136; heap_at = 680; own = record { start = 96; len = 40 } ∷ index }

group : IsGroup (array_of empty_file) ks root []
unfolding root prefix part parts table ks index u64_at
group = record {
  prefix = prefix;
  parts = parts;
  header = header;
  table = record { table = table; first = refl; tree_at = refl; heap_at = refl };
  index = index;
  links = links;
  blocks = refl;
}

full : HoldsFull (array_of empty_file) (one_region 800) super root Empty
unfolding super root ks index
full = record {
  super = super_is;
  driver = [];
  driver_is = refl;
  root = refl;
  held = (group, tt);
  kept = record {
    some = (lit≤ tt, (lit≤ tt, (lit≤ tt, (lit≤ tt, (lit≤ tt, tt)))));
    apart = ((inl (lit≤ tt), (inl (lit≤ tt), (inl (lit≤ tt), (inl (lit≤ tt), tt)))), ((inl (lit≤ tt), (inl (lit≤ tt), (inl (lit≤ tt), tt))), ((inl (lit≤ tt), (inr (lit≤ tt), tt)), ((inr (lit≤ tt), tt), (tt, tt)))));
    inside = ((Super, lit≤ tt, lit≤ tt), ((Super, lit≤ tt, lit≤ tt), ((Super, lit≤ tt, lit≤ tt), ((Super, lit≤ tt, lit≤ tt), ((Super, lit≤ tt, lit≤ tt), tt)))));
  };
}

pub empty_holds : EmptyFile
unfolding super root ks index
empty_holds = record { super = super; root = root; links = Empty; full = full; tree = refl }

-- ---- the index is well kept

only_kept : (segment : List ℕ) → HasText segment 0 [] → IsKeptGroup segment only
unfolding only node
only_kept segment text = record { siblings = beside; leftmost = begins; empty_name = text }
  where
    beside : (depth : ℕ) → AreSiblings (λ n. n.at) (λ n. n.node.left) (λ n. n.node.right) undefined (row depth only)
    beside zero = (refl, refl, tt)
    beside (suc depth) = tt

    begins : (depth : ℕ) → BeginsEmpty (row depth only)
    begins zero = refl
    begins (suc depth) = tt

begins_empty : HasText (bytes_of (array_of empty_file) 712 88) 0 []
unfolding empty_file zeros
begins_empty = record { inside = lit≤ tt; stands = refl; ended = refl; no_nul = λ k d lt. absurd (omega (arith, lt)) }

-- whatever index this group is said to have is that one
links_kept : (with : Ks) (tree heap : ℕ) (fs : List Found) (bs : List Block)
    (h : HasLinks (array_of empty_file) with tree heap fs bs) → with ≡ ks → tree ≡ 136 → heap ≡ 680
    → AreWellKept (array_of empty_file) with tree heap fs bs h
unfolding ks head node only
links_kept with tree heap fs bs h with_is tree_is heap_is =
    subst (IsKeptGroup segment) (sym index_is) (only_kept segment text)
  where
    segment : List ℕ
    segment = bytes_of (array_of empty_file) h.head.segment_at h.head.len

    head_is : h.head ≡ head
    head_is = h.spelled.value ∙ ap (λ (a : ℕ). heap_of (bytes_of (array_of empty_file) a 32)) heap_is
        ∙ sym root_heap.value

    text : HasText segment 0 []
    text = subst (λ (x : HeapHead). HasText (bytes_of (array_of empty_file) x.segment_at x.len) 0 []) (sym head_is)
        begins_empty

    there : IsIndex (array_of empty_file) ks segment (suc h.level) h.index
    there = subst (λ (k : Ks). IsIndex (array_of empty_file) k segment (suc h.level) h.index) with_is h.stands

    index_is : h.index ≡ only
    index_is = (root_same (array_of empty_file) ks segment h.level 0 h.index only there
        (record { spelled = root_node; level_is = refl; children_are = refl }, tt, tt) (h.root ∙ tree_is)).1

-- the place of a group
place : Full → GroupAt
place (Group g ls) = g
place (Leaf l) = root

pub empty_kept : EmptyKept
unfolding super root ks place
empty_kept s g ls h =
    let same = one_full (array_of empty_file) (one_region 800) s super g root ls Empty h full in
    links_kept (ks_of s) g.tree_at g.heap_at (founds ls) h.held.0.index h.held.0.links (ap ks_of same.0)
    (ap (λ (t : Full). (place t).tree_at) same.1) (ap (λ (t : Full). (place t).heap_at) same.1)
