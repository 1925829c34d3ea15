-- The chunks under a node of level 0 as far as they were read.
use Rattle.std.proofs.Common.{◌≡◌, ℕ, ◌+◌, ◌<◌, ◌==◌, Bool, true, false, IsTrue, List, [], ◌∷◌, ◌++◌, length, drop, refl, sym, ◌∙◌, subst, arith}
use Rattle.std.proofs.lemmas.List.{length-drop}
use Rattle.outside.specs.Array.{Array}
use Rattle.outside.specs.Blocks.{Block, Bounds}
use Rattle.h5_base.specs.declared.kinds.BlockKind.TheVariants.{Raw, Tree}
use Rattle.h5_base.specs.declared.refusal.Refusal.{Refusal}
use Rattle.h5_base.specs.declared.refusal.Refusal.TheVariants.{Malformed}
use Rattle.dtype.specs.Products.{product}
use Rattle.node_codec.specs.declared.chunk_node.ChunkKey.{ChunkKey}
use Rattle.node_codec.specs.declared.chunk_node.ChunkNode.{ChunkNode}
use Rattle.file_model.specs.Index.{Bottom}
use Rattle.file_model.specs.Chunks.{Chunk, Under, AreAscending, IsAbove, IsBelow, IsFrom, IsStored, comes_before}
use Rattle.outside.specs.Blocks.{AreTaken, IsBlockRefused}
use Rattle.file_model.specs.RefusedChunks.{RefusedChunks, AreChunksRefused, IsChunkRefused, ChunkBlock, AboveKey}
use Rattle.storage_reader.specs.Nodes.{AreChildren, IsChildOf, child_at, refused_child}
use Rattle.storage_reader.specs.declared.form.Form.{Form}
use Rattle.storage_reader.proofs.Children.{AreRead, next_of, none_read, all_read, child_read, offsets_refused}
use Rattle.storage_reader.proofs.Orders.{not_before_itself, one_more, above_more}

-- ---- one chunk

abbrev pub one_chunk : ChunkKey → ℕ → Chunk
one_chunk k a = record { offset = k.offset; at = a }

-- a chunk is refused for its block
pub chunk_block : (e : Bounds) (rank : ℕ) (sizes : List ℕ) (node : ℕ) (met : List Block) (key : ChunkKey) (at len : ℕ) (r : Refusal) → len ≡ product sizes
    → IsBlockRefused e met (record { start = at; len = len }) Raw r → IsChunkRefused e rank sizes node met key at r
chunk_block e rank sizes node met key at len r is h = ChunkBlock (subst (λ (n : ℕ). IsBlockRefused e met (record { start = at; len = n }) Raw r) is h)

-- the block by the bytes of a chunk
pub taken_chunk : (e : Bounds) (met : List Block) (at len : ℕ) (sizes : List ℕ) → len ≡ product sizes → AreTaken e met (record { start = at; len = len } ∷ []) → AreTaken e met (record { start = at; len = product sizes } ∷ [])
taken_chunk e met at len sizes is h = subst (λ (n : ℕ). AreTaken e met (record { start = at; len = n } ∷ [])) is h

-- a chunk that is stored stands at its address
pub chunk_stands : (b : Array) (f : Form) (key : ChunkKey) (at len : ℕ) → len ≡ product f.sizes → IsStored f.rank f.sizes (record { key = key; at = at })
    → child_at b f 0 key at (one_chunk key at ∷ []) (record { start = at; len = len } ∷ [])
chunk_stands b f key at len is h = record {
  index = Bottom (record { key = key; at = at });
  stands = h;
  address = refl;
  behind = refl;
  chunks = refl;
  blocks = λ j. record { start = at; len = is j } ∷ [];
}

-- the children of a node of level 0 are chunks
pub stored_child : (b : Array) (f : Form) (level : ℕ) (key : ChunkKey) (at : ℕ) (cs : List Chunk) (bs : List Block) → level ≡ 0 → child_at b f 0 key at cs bs → child_at b f level key at cs bs
stored_child b f level key at cs bs is h = subst (λ (m : ℕ). child_at b f m key at cs bs) (sym is) h

pub refused_chunk : (b : Array) (f : Form) (level node : ℕ) (e : Bounds) (met : List Block) (key : ChunkKey) (at : ℕ) (r : Refusal) → level ≡ 0 → IsChunkRefused e f.rank f.sizes node met key at r → refused_child b f level node e met key at r
refused_chunk b f level node e met key at r is h = subst (λ (m : ℕ). refused_child b f m node e met key at r) (sym is) h

-- ---- the chunks of a node

-- the first n chunks were read, and the next key is above them
pub record ChunksRead (Child : Under) (Refused : Bounds → RefusedChunks) (node : ℕ) (m : ChunkNode) (n : ℕ) (bs : List Block) : Type 0 where
  pub chunks : List Chunk
  pub read : AreRead Child Refused node m n chunks bs
  pub ordered : AreAscending chunks
  pub above : (key : ChunkKey) (later : List ChunkKey) → drop n m.keys ≡ key ∷ later → n < length m.children → IsAbove key.offset chunks

below_all : (later : List ℕ) (key : List ℕ) (cs : List Chunk) → (0 < length later → IsAbove key cs) → IsBelow later key cs
below_all [] key cs h = tt
below_all (a ∷ later) key cs h = h (omega arith)

below_dropped : (children : List ℕ) (n : ℕ) (key : List ℕ) (cs : List Chunk) → (n < length children → IsAbove key cs) → IsBelow (drop n children) key cs
below_dropped children n key cs h = below_all (drop n children) key cs (λ some. h (omega (arith, length-drop n children, some)))

above_dropped : (later : List ℕ) (key : List ℕ) (cs : List Chunk) → 0 < length later → IsBelow later key cs → IsAbove key cs
above_dropped [] key cs some h = absurd (omega arith)
above_dropped (a ∷ later) key cs some h = h

from_itself : (first : Bool) (key : List ℕ) (at : ℕ) → IsFrom first key (record { offset = key; at = at } ∷ [])
from_itself true key at = tt
from_itself false key at = (not_before_itself key, tt)

same_key : (k l : ChunkKey) (ks ls : List ChunkKey) → k ∷ ks ≡ l ∷ ls → k ≡ l
same_key k l ks ls h = cc

module _ (Child : Under) (Refused : Bounds → RefusedChunks) (node : ℕ) (m : ChunkNode) where
  pub no_chunk_read : ChunksRead Child Refused node m 0 []
  no_chunk_read = record {
    chunks = [];
    read = none_read Child Refused node m;
    ordered = tt;
    above = λ key later is lt. tt;
  }

  module _ (n : ℕ) (k l : ChunkKey) (a : ℕ) (at : IsChildOf m n k l a) (bs own : List Block) (h : ChunksRead Child Refused node m n bs) (child : Child k a (one_chunk k a ∷ []) own) where
    pub chunk_more : (n + 1 < length m.children → IsTrue (comes_before k.offset l.offset)) → ChunksRead Child Refused node m (n + 1) (bs ++ own)
    chunk_more before = record {
      chunks = h.chunks ++ one ∷ [];
      read = child_read Child Refused node m n k l a at h.chunks bs h.read (one ∷ []) own child (record {
        from = from_itself (n == 0) k.offset a;
        below = below_dropped m.children (n + 1) l.offset (one ∷ []) (λ more. (before more, tt));
        ordered = ordered_on;
      });
      ordered = ordered_on;
      above = λ key later is more.
          let same : l ≡ key = same_key l key (drop (n + 1 + 1) m.keys) later (sym (next_of m n k l a at).high_is ∙ is) in
          subst (λ (x : ChunkKey). IsAbove x.offset (h.chunks ++ one ∷ [])) same (above_more l.offset h.chunks one above_here (before more));
    }
      where
        one : Chunk
        one = one_chunk k a

        above_here : IsAbove k.offset h.chunks
        above_here = h.above k (drop (n + 1) m.keys) (next_of m n k l a at).low_is at.inside

        ordered_on : AreAscending (h.chunks ++ one ∷ [])
        ordered_on = one_more k.offset h.chunks one h.ordered above_here

    -- the key behind a chunk isn't above it
    pub key_stopped : (e : Bounds) (met : List Block) → AreTaken e met bs → AreTaken e (met ++ bs) own → n + 1 < length m.children → comes_before k.offset l.offset ≡ false → AreChunksRefused e node Child (Refused e) true m.keys m.children [] met (Malformed node Tree)
    key_stopped e met taken here more behind =
        offsets_refused Child Refused node m n k l a at h.chunks bs h.read (one_chunk k a ∷ []) own child e met (Malformed node Tree) taken here (tt, tt)
        (AboveKey (from_itself (n == 0) k.offset a) (λ below.
        let above = above_dropped (drop (n + 1) m.children) l.offset (one_chunk k a ∷ []) (omega (arith, length-drop (n + 1) m.children)) below in
        let yes = above.0 in
        cc) refl)

  -- all chunks were read
  pub chunks_done : (n : ℕ) (bs : List Block) → n ≡ length m.children → ChunksRead Child Refused node m n bs → (cs : List Chunk) × AreChildren Child true m.keys m.children cs bs × AreAscending cs
  chunks_done n bs end h = (h.chunks, all_read Child Refused node m n h.chunks bs end h.read, h.ordered)
