-- An array with the blocks of a new group holds it.
use Rattle.std.proofs.Common.{◌≡◌, ℕ, zero, suc, ◌^◌, ◌<◌, ◌≤◌, List, [], ◌∷◌, refl, sym, subst}
use Rattle.std.proofs.Common.{arith}
use Rattle.std.specs.List.Sorted.{IsPermutation}
use Rattle.std.proofs.lemmas.List.Sorted.{IsPermutation-append_comm, IsPermutation-cons}
use Rattle.h5_base.specs.Fields.{undefined}
use Rattle.outside.specs.Array.{Array, bytes_of}
use Rattle.outside.specs.Blocks.{Block}
use Rattle.empty_file.specs.Empty.{heap_segment}
use Rattle.header_codec.specs.declared.types.NewHeader.TheVariants as new
use Rattle.header_codec.specs.Written.{SpellsHeader, header_bytes, parts_of}
use Rattle.node_codec.specs.GroupNodes.{SpellsGroupNode, group_node_bytes, group_node_len}
use Rattle.node_codec.specs.Heap.{SpellsHeap, heap_bytes}
use Rattle.file_model.specs.Index.{Node, NoMore, row, AreSiblings}
use Rattle.file_model.specs.Groups.{GroupIndex, HasLinks, HasText, index_offsets, node_block}
use Rattle.file_model.specs.WellKept.{BeginsEmpty, IsKeptGroup}
use Rattle.file_model.proofs.NewHeaders.{new_group_held}
use Rattle.group_room.specs.Used.{IsFreeBehind, IsUsedLen}
use Rattle.group_rows.specs.declared.group.GroupAt.{GroupAt}
use Rattle.new_group.specs.Group.{HoldsEmpty, empty_head, group_blocks, root_node}
use Rattle.new_group.proofs.Bytes.{empty_name, group_spelled, head_spelled, node_spelled, segment_last, segment_len}
use Rattle.new_group.proofs.Bytes.{segment_size}

-- the blocks of a new group stand in an array
pub record Stand (c : Array) (g : GroupAt) (segment_at : ℕ) : Type 0 where
  pub header : bytes_of c g.header_at 40 ≡ header_bytes (new.Group g.tree_at g.heap_at)
  pub node : bytes_of c g.tree_at (group_node_len g.ks.internal) ≡ group_node_bytes g.ks.internal root_node
  pub head : bytes_of c g.heap_at 32 ≡ heap_bytes (empty_head segment_at)
  pub segment : bytes_of c segment_at 88 ≡ heap_segment

-- the addresses of its blocks are numbers of 64 bits
pub record AreU64 (g : GroupAt) (segment_at : ℕ) : Type 0 where
  pub tree : g.tree_at < 2 ^ 64
  pub heap : g.heap_at < 2 ^ 64
  pub segment : segment_at < 2 ^ 64

-- the index of the group: one node
only : (at : ℕ) → GroupIndex
only at = Node (record { at = at; node = root_node }) NoMore

only_kept : (at : ℕ) (segment : List ℕ) → HasText segment 0 [] → IsKeptGroup segment (only at)
unfolding only
only_kept at segment text = record { siblings = beside; leftmost = begins; empty_name = text }
  where
    beside : (depth : ℕ) → AreSiblings (λ n. n.at) (λ n. n.node.left) (λ n. n.node.right) undefined
        (row depth (only at))
    beside zero = (refl, refl, tt)
    beside (suc depth) = tt

    begins : (depth : ℕ) → BeginsEmpty (row depth (only at))
    begins zero = refl
    begins (suc depth) = tt

segment_used : (at : ℕ) (segment : List ℕ) → IsUsedLen segment (index_offsets (only at)) 8
unfolding only
segment_used at segment = record {
  whole = refl;
  some = omega arith;
  behind = λ o text has. absurd (omega (arith, has.1));
  least = λ m whole some before. some;
}

segment_free : (segment_at : ℕ) → IsFreeBehind 8 (empty_head segment_at) heap_segment
segment_free segment_at = record {
  head_at = λ room. refl;
  last = λ room. segment_last;
  size = λ room. omega (arith, segment_size, segment_len);
  none = λ short. absurd (omega (arith, short, segment_len));
}

module _ (c : Array) (g : GroupAt) (segment_at : ℕ) (small : g.ks.internal ≤ 1024) (st : Stand c g segment_at)
    (low : AreU64 g segment_at) where
  own : List Block
  own = record { start = g.heap_at; len = 32 } ∷ record { start = segment_at; len = 88 }
      ∷ node_block g.ks g.tree_at ∷ []

  header : SpellsHeader (new.Group g.tree_at g.heap_at) (parts_of (new.Group g.tree_at g.heap_at))
      (bytes_of c g.header_at 40)
  header = subst (SpellsHeader (new.Group g.tree_at g.heap_at) (parts_of (new.Group g.tree_at g.heap_at)))
      (sym st.header) (group_spelled g.tree_at g.heap_at low.tree low.heap)

  node : SpellsGroupNode g.ks.internal root_node (bytes_of c g.tree_at (group_node_len g.ks.internal))
  node = subst (SpellsGroupNode g.ks.internal root_node) (sym st.node) (node_spelled g.ks.internal small)

  head : SpellsHeap (empty_head segment_at) (bytes_of c g.heap_at 32)
  head = subst (SpellsHeap (empty_head segment_at)) (sym st.head) (head_spelled segment_at low.segment)

  links : HasLinks c g.ks g.tree_at g.heap_at [] own
  unfolding only own
  links = record {
    head = empty_head segment_at;
    spelled = head;
    level = 0;
    index = only g.tree_at;
    root = refl;
    stands = (record { spelled = node; level_is = refl; children_are = refl }, tt, tt);
    links = refl;
    ordered = tt;
    blocks = refl;
  }

  -- the heap and the node in the other order
  in_order : IsPermutation (group_blocks g segment_at) (record { start = g.header_at; len = 40 } ∷ own)
  unfolding own
  in_order = IsPermutation-cons (record { start = g.header_at; len = 40 })
      (node_block g.ks g.tree_at ∷ record { start = g.heap_at; len = 32 }
      ∷ record { start = segment_at; len = 88 } ∷ [])
      (record { start = g.heap_at; len = 32 } ∷ record { start = segment_at; len = 88 }
      ∷ node_block g.ks g.tree_at ∷ [])
      (IsPermutation-append_comm (node_block g.ks g.tree_at ∷ [])
      (record { start = g.heap_at; len = 32 } ∷ record { start = segment_at; len = 88 } ∷ []))

  pub holds_empty : HoldsEmpty c g (group_blocks g segment_at)
  unfolding links
  holds_empty = record {
    index = own;
    held = new_group_held c g.ks g.header_at 40 g.tree_at g.heap_at (parts_of (new.Group g.tree_at g.heap_at)) []
        own header links;
    links = links;
    kept = only_kept g.tree_at (bytes_of c segment_at 88)
        (subst (λ (s : List ℕ). HasText s 0 []) (sym st.segment) empty_name);
    level = refl;
    used = segment_used g.tree_at (bytes_of c segment_at 88);
    free = subst (IsFreeBehind 8 (empty_head segment_at)) (sym st.segment) (segment_free segment_at);
    blocks = in_order;
  }
