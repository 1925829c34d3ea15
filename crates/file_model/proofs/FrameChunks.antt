-- The chunks of a dataset stay where the bytes of their blocks stay.
use Rattle.std.proofs.Common.{ℕ, zero, suc, List, Bool, true, false, length, subst}
use Rattle.outside.specs.Array.{Array}
use Rattle.outside.specs.Blocks.{Block, Agree}
use Rattle.header_codec.specs.declared.types.Layout.{Layout}
use Rattle.header_codec.specs.declared.types.Layout.TheVariants as layout
use Rattle.node_codec.specs.ChunkNodes.{SpellsChunkNode, chunk_node_len}
use Rattle.file_model.specs.Index.{Bottom, Node, NoMore, Next}
use Rattle.file_model.specs.Objects.{DataInfo}
use Rattle.file_model.specs.Chunks.{Chunk, ChunkTreeNode, ChunkIndex, ChunkIndexes, index_blocks, blocks_within}
use Rattle.file_model.specs.Chunks.{IsNode, IsIndex, AreIndexes, is_read, IsIndexed, IsStoredBy}
use Rattle.file_model.proofs.FrameBytes.{Same, bytes_same, agree_left, agree_right}

node_stays : (b c : Array) (k rank level : ℕ) (n : ChunkTreeNode) (children : List ℕ)
    → Same b c n.at (chunk_node_len k rank) → IsNode b k rank level n children → IsNode c k rank level n children
node_stays b c k rank level n children same h = record {
  spelled = subst (SpellsChunkNode k rank n.node) (bytes_same b c n.at (chunk_node_len k rank) same) h.spelled;
  level_is = h.level_is;
  children_are = h.children_are;
}

mutual
  index_stays : (b c : Array) (k rank : ℕ) (sizes : List ℕ) (height : ℕ) (x : ChunkIndex)
      → IsIndex b k rank sizes height x → Agree b c (index_blocks k rank sizes x) → IsIndex c k rank sizes height x
  index_stays b c k rank sizes zero (Bottom d) h agree = h
  index_stays b c k rank sizes zero (Node n xs) h agree = absurd h
  index_stays b c k rank sizes (suc level) (Bottom d) h agree = absurd h
  index_stays b c k rank sizes (suc level) (Node n xs) h agree =
      (node_stays b c k rank level n _ agree.0 h.0, indexes_stay b c k rank sizes level xs h.1 agree.1, h.2)

  indexes_stay : (b c : Array) (k rank : ℕ) (sizes : List ℕ) (height : ℕ) (xs : ChunkIndexes)
      → AreIndexes b k rank sizes height xs → Agree b c (blocks_within k rank sizes xs)
      → AreIndexes c k rank sizes height xs
  indexes_stay b c k rank sizes height NoMore h agree = tt
  indexes_stay b c k rank sizes height (Next x xs) h agree =
      let own = index_blocks k rank sizes x in
      let later = blocks_within k rank sizes xs in (
        index_stays b c k rank sizes height x h.0 (agree_left b c own later agree),
        indexes_stay b c k rank sizes height xs h.1 (agree_right b c own later agree),
      )

indexed_stays : (b c : Array) (read : Bool) (k rank : ℕ) (sizes : List ℕ) (tree : ℕ) (cs : List Chunk)
    (bs : List Block) → IsIndexed read b k rank sizes tree cs bs → Agree b c bs
    → IsIndexed read c k rank sizes tree cs bs
indexed_stays b c false k rank sizes tree cs bs h agree = h
indexed_stays b c true k rank sizes tree cs bs h agree = record {
  level = h.level;
  index = h.index;
  root = h.root;
  stands = index_stays b c k rank sizes (suc h.level) h.index h.stands (subst (Agree b c) h.blocks agree);
  chunks = h.chunks;
  ascending = h.ascending;
  blocks = h.blocks;
}

pub stored_stays : (b c : Array) (k : ℕ) (i : DataInfo) (l : Layout) (cs : List Chunk) (bs : List Block)
    → Agree b c bs → IsStoredBy b k i l cs bs → IsStoredBy c k i l cs bs
stored_stays b c k i (layout.Contiguous at len) cs bs agree h = h
stored_stays b c k i (layout.Chunked tree sizes) cs bs agree h =
    indexed_stays b c (is_read i tree) k (length i.shape.dims) sizes tree cs bs h agree
