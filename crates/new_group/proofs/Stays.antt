-- An empty group stays where the bytes of its blocks stay.
use Rattle.std.proofs.Common.{◌≡◌, ℕ, suc, List, [], ◌∷◌, ◌++◌, subst}
use Rattle.outside.specs.Array.{Array, bytes_of}
use Rattle.outside.specs.Blocks.{Block, Agree, placed}
use Rattle.node_codec.specs.Heap.{SpellsHeap}
use Rattle.file_model.specs.EditLaws.{group_at}
use Rattle.file_model.specs.Groups.{HasLinks, IsIndex, index_blocks, index_offsets}
use Rattle.file_model.specs.WellKept.{IsKeptGroup}
use Rattle.file_model.proofs.BlockOrder.{agree_order}
use Rattle.file_model.proofs.FrameBytes.{agree_left, agree_right, bytes_same, placed_same}
use Rattle.file_model.proofs.FrameGroups.{index_stays}
use Rattle.file_model.proofs.FrameLemmas.{group_stays}
use Rattle.group_room.specs.Used.{IsFreeBehind, IsUsedLen}
use Rattle.group_rows.specs.declared.group.GroupAt.{GroupAt}
use Rattle.new_group.specs.Group.{EmptyStays, HoldsEmpty}

module _ (b c : Array) (g : GroupAt) (taken : List Block) (agree : Agree b c taken) (h : HoldsEmpty b g taken) where
  abbrev place : List Block
  place = placed h.links.head.segment_at h.links.head.len

  abbrev nodes : List Block
  nodes = index_blocks g.ks h.links.index

  there : Agree b c (record { start = g.header_at; len = 40 } ∷ h.index)
  there = agree_order b c taken (record { start = g.header_at; len = 40 } ∷ h.index) h.blocks agree

  own : Agree b c (record { start = g.heap_at; len = 32 } ∷ place ++ nodes)
  own = subst (Agree b c) h.links.blocks there.1

  segment : bytes_of b h.links.head.segment_at h.links.head.len ≡ bytes_of c h.links.head.segment_at h.links.head.len
  segment = bytes_same b c h.links.head.segment_at h.links.head.len
      (placed_same b c h.links.head.segment_at h.links.head.len (agree_left b c place nodes own.1))

  links : HasLinks c g.ks g.tree_at g.heap_at [] h.index
  links = record {
    head = h.links.head;
    spelled = subst (SpellsHeap h.links.head) (bytes_same b c g.heap_at 32 own.0) h.links.spelled;
    level = h.links.level;
    index = h.links.index;
    root = h.links.root;
    stands = subst (λ (s : List ℕ). IsIndex c g.ks s (suc h.links.level) h.links.index) segment
        (index_stays b c g.ks (bytes_of b h.links.head.segment_at h.links.head.len) (suc h.links.level) h.links.index
        h.links.stands (agree_right b c place nodes own.1));
    links = h.links.links;
    ordered = h.links.ordered;
    blocks = h.links.blocks;
  }

  stays : HoldsEmpty c g taken
  unfolding links
  stays = record {
    index = h.index;
    held = group_stays b c g.ks (group_at g.header_at 40 g.tree_at g.heap_at h.index) [] there h.held;
    links = links;
    kept = subst (λ (s : List ℕ). IsKeptGroup s h.links.index) segment h.kept;
    level = h.level;
    used = subst (λ (s : List ℕ). IsUsedLen s (index_offsets h.links.index) 8) segment h.used;
    free = subst (IsFreeBehind 8 h.links.head) segment h.free;
    blocks = h.blocks;
  }

pub empty_stays : EmptyStays
empty_stays b c g taken agree h = stays b c g taken agree h
