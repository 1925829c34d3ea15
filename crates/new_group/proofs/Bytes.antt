-- The bytes of a new group's blocks: what they spell, and how many they are.
use Rattle.std.proofs.Common.{◌≡◌, ℕ, ◌^◌, ◌<◌, ◌≤◌, List, [], ◌++◌, length, refl, sym, ◌∙◌, arith}
use Rattle.std.proofs.Common.{replicate, lit≤}
use Rattle.std.proofs.lemmas.List.{take-append-drop}
use Rattle.std.proofs.lemmas.List.Elements.{All-nil, All-cons}
use Rattle.std.proofs.lemmas.Nat.{from_le_bytes-to_le_bytes_8}
use Rattle.std.specs.Int.{w64, to_le_bytes}
use Rattle.h5_base.specs.Fields.{Puts, u64_at}
use Rattle.empty_file.specs.Empty.{heap_segment, zeros}
use Rattle.header_codec.specs.declared.types.NewHeader.TheVariants.{Group}
use Rattle.header_codec.specs.Written.{SpellsTable, SpellsHeader, parts_of, header_bytes, filled, table_bytes}
use Rattle.header_codec.proofs.MessageLaws.{AreFit, part_fits, header_spelled}
use Rattle.node_codec.specs.GroupNodes.{FitsGroupNode, SpellsGroupNode, group_node_bytes, group_node_len}
use Rattle.node_codec.specs.Heap.{SpellsHeap, heap_bytes}
use Rattle.node_codec.specs.TreeHead.{IsU64}
use Rattle.node_codec.proofs.GroupLemmas.{group-len, group-spelled}
use Rattle.node_codec.proofs.HeapLemmas.{heap-spelled}
use Rattle.file_model.specs.Groups.{HasText}
use Rattle.new_group.specs.Group.{empty_head, root_node}

-- ---- the segment

pub segment_is : (new : List ℕ) → Puts (replicate 88 0) new 8 (to_le_bytes w64 1 ++ to_le_bytes w64 80)
    → new ≡ heap_segment
unfolding zeros
segment_is new p = sym (take-append-drop 24 new) ∙ (λ i. p.front i ++ p.rest i)

pub segment_len : length heap_segment ≡ 88
unfolding zeros
segment_len = refl

pub empty_name : HasText heap_segment 0 []
unfolding zeros
empty_name = record { inside = lit≤ tt; stands = refl; ended = refl; no_nul = λ k d lt. absurd (omega (arith, lt)) }

pub segment_last : u64_at heap_segment 8 ≡ 1
unfolding zeros u64_at
segment_last = refl

pub segment_size : u64_at heap_segment 16 ≡ 80
unfolding zeros u64_at
segment_size = refl

-- ---- the header of the heap

pub head_len : (segment_at : ℕ) → length (heap_bytes (empty_head segment_at)) ≡ 32
unfolding heap_bytes
head_len segment_at = refl

pub head_spelled : (segment_at : ℕ) → segment_at < 2 ^ 64
    → SpellsHeap (empty_head segment_at) (heap_bytes (empty_head segment_at))
head_spelled segment_at small = heap-spelled (empty_head segment_at)
    (record { len = omega arith; free = omega arith; segment_at = small })

-- ---- the root node

root_fits : (k : ℕ) → FitsGroupNode k root_node
root_fits k = record { room = omega arith; one_more = refl }

pub node_len : (k : ℕ) → length (group_node_bytes k root_node) ≡ group_node_len k
node_len k = group-len k root_node (root_fits k)

pub node_spelled : (k : ℕ) → k ≤ 1024 → SpellsGroupNode k root_node (group_node_bytes k root_node)
node_spelled k small = group-spelled k root_node small (root_fits k) (omega arith) (omega arith)
    (All-cons IsU64 0 [] (omega arith) (All-nil IsU64)) (All-nil IsU64)

-- ---- the object header

table_spelled : (tree heap : ℕ) → tree < 2 ^ 64 → heap < 2 ^ 64 → SpellsTable tree heap (filled (table_bytes tree heap))
unfolding u64_at
table_spelled tree heap t h = record {
  whole = omega arith;
  tree_at = sym (from_le_bytes-to_le_bytes_8 tree t);
  heap_at = sym (from_le_bytes-to_le_bytes_8 heap h);
}

pub group_spelled : (tree heap : ℕ) → tree < 2 ^ 64 → heap < 2 ^ 64
    → SpellsHeader (Group tree heap) (parts_of (Group tree heap)) (header_bytes (Group tree heap))
group_spelled tree heap t h =
    let fit : AreFit (parts_of (Group tree heap)) =
    (part_fits 0x11 (table_bytes tree heap) (omega arith) (omega arith), tt) in
    header_spelled (Group tree heap) (parts_of (Group tree heap)) fit (omega arith) (omega arith)
    (refl, table_spelled tree heap t h)

pub header_len : (tree heap : ℕ) → length (header_bytes (Group tree heap)) ≡ 40
header_len tree heap = refl
