-- The links of a group stay where the bytes of their blocks stay.
use Rattle.std.proofs.Common.{ℕ, zero, suc, List, ◌∷◌, ◌++◌, subst}
use Rattle.outside.specs.Array.{Array, bytes_of}
use Rattle.node_codec.specs.Snod.{SpellsSnod, snod_len}
use Rattle.node_codec.specs.GroupNodes.{SpellsGroupNode, group_node_len}
use Rattle.node_codec.specs.Heap.{SpellsHeap}
use Rattle.outside.specs.Blocks.{Block, placed, Agree}
use Rattle.file_model.specs.Index.{Bottom, Node, NoMore, Next}
use Rattle.file_model.specs.Groups.{Ks, Found, GroupIndex, GroupIndexes, index_blocks, blocks_within, IsIndex}
use Rattle.file_model.specs.Groups.{AreIndexes}
use Rattle.file_model.specs.Groups.{HasLinks}
use Rattle.file_model.proofs.FrameBytes.{bytes_same, agree_left, agree_right, placed_same}

mutual
  pub index_stays : (b c : Array) (ks : Ks) (segment : List ℕ) (height : ℕ) (x : GroupIndex)
      → IsIndex b ks segment height x → Agree b c (index_blocks ks x) → IsIndex c ks segment height x
  index_stays b c ks segment zero (Bottom s) h agree = record {
    spelled = subst (SpellsSnod ks.leaf s.entries) (bytes_same b c s.at (snod_len ks.leaf) agree.0) h.spelled;
    links = h.links;
    ordered = h.ordered;
  }
  index_stays b c ks segment zero (Node n xs) h agree = absurd h
  index_stays b c ks segment (suc level) (Bottom s) h agree = absurd h
  index_stays b c ks segment (suc level) (Node n xs) h agree = (
    record {
      spelled = subst (SpellsGroupNode ks.internal n.node) (bytes_same b c n.at (group_node_len ks.internal) agree.0)
          h.0.spelled;
      level_is = h.0.level_is;
      children_are = h.0.children_are;
    },
    indexes_stay b c ks segment level xs h.1 agree.1,
    h.2,
  )

  indexes_stay : (b c : Array) (ks : Ks) (segment : List ℕ) (height : ℕ) (xs : GroupIndexes)
      → AreIndexes b ks segment height xs → Agree b c (blocks_within ks xs) → AreIndexes c ks segment height xs
  indexes_stay b c ks segment height NoMore h agree = tt
  indexes_stay b c ks segment height (Next x xs) h agree = (
    index_stays b c ks segment height x h.0 (agree_left b c (index_blocks ks x) (blocks_within ks xs) agree),
    indexes_stay b c ks segment height xs h.1 (agree_right b c (index_blocks ks x) (blocks_within ks xs) agree),
  )

pub links_stay : (b c : Array) (ks : Ks) (tree heap : ℕ) (fs : List Found) (bs : List Block) → Agree b c bs
    → HasLinks b ks tree heap fs bs → HasLinks c ks tree heap fs bs
links_stay b c ks tree heap fs bs agree h =
    let nodes = index_blocks ks h.index in
    let all : Agree b c (record { start = heap; len = 32 } ∷ placed h.head.segment_at h.head.len ++ nodes) =
    subst (Agree b c) h.blocks agree in
    let within = agree_right b c (placed h.head.segment_at h.head.len) nodes all.1 in
    let text = agree_left b c (placed h.head.segment_at h.head.len) nodes all.1 in
    let segment = bytes_same b c h.head.segment_at h.head.len (placed_same b c h.head.segment_at h.head.len text) in
    record {
      head = h.head;
      spelled = subst (SpellsHeap h.head) (bytes_same b c heap 32 all.0) h.spelled;
      level = h.level;
      index = h.index;
      root = h.root;
      stands = subst (λ s. IsIndex c ks s (suc h.level) h.index) segment
          (index_stays b c ks (bytes_of b h.head.segment_at h.head.len) (suc h.level) h.index h.stands within);
      links = h.links;
      ordered = h.ordered;
      blocks = h.blocks;
    }
