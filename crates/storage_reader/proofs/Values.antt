-- The children of a node that stand under it, as a value, and the index of the node.
use Rattle.std.proofs.Common.{◌≡◌, ℕ, suc, Bool, true, false, List, [], ◌∷◌, ◌++◌, refl, sym, ◌∙◌, ap, subst}
use Rattle.outside.specs.Array.{Array}
use Rattle.outside.specs.Blocks.{Block}
use Rattle.node_codec.specs.declared.chunk_node.ChunkKey.{ChunkKey}
use Rattle.node_codec.specs.declared.chunk_node.ChunkNode.{ChunkNode}
use Rattle.file_model.specs.Index.{Node, NoMore, Next, each}
use Rattle.file_model.specs.Chunks.{Chunk, ChunkIndexes, AreAscending, IsFrom, IsBelow, address_of, chunks_within}
use Rattle.file_model.specs.Chunks.{chunks_under, blocks_within, AreKeyed, AreIndexes, StandsAt, IsRooted}
use Rattle.storage_reader.specs.Nodes.{AreChildren, AreUnder, IsIndexAt, IsNodeAt, child_at, node_block}
use Rattle.storage_reader.specs.declared.form.Form.{Form}

-- children of this height as a value
record Value (b : Array) (f : Form) (height : ℕ) (first : Bool) (keys : List ChunkKey) (children : List ℕ)
    (cs : List Chunk) (bs : List Block) : Type 0 where
  indexes : ChunkIndexes
  stand : AreIndexes b f.k f.rank f.sizes height indexes
  keyed : AreKeyed first keys indexes
  addresses : each address_of indexes ≡ children
  chunks : cs ≡ chunks_within indexes
  blocks : bs ≡ blocks_within f.k f.rank f.sizes indexes

value_of : (b : Array) (f : Form) (height : ℕ) (first : Bool) (keys : List ChunkKey) (children : List ℕ)
    (cs : List Chunk) (bs : List Block) → AreChildren (child_at b f height) first keys children cs bs
    → Value b f height first keys children cs bs
value_of b f height first keys [] cs bs h = record {
  indexes = NoMore;
  stand = tt;
  keyed = tt;
  addresses = refl;
  chunks = h.0;
  blocks = h.1;
}
value_of b f height first [] (a ∷ rest) cs bs h = absurd h
value_of b f height first (k ∷ []) (a ∷ rest) cs bs h = absurd h
value_of b f height first (k ∷ l ∷ ks) (a ∷ rest) cs bs (here, later, own, more, child, others, from, below, cs_is, bs_is) =
    let v = value_of b f height false (l ∷ ks) rest later more others in
    record {
      indexes = Next child.index v.indexes;
      stand = (child.stands, v.stand);
      keyed = (
        child.behind,
        subst (IsFrom first k.offset) child.chunks from,
        subst (λ (r : List ℕ). IsBelow r l.offset (chunks_under child.index)) (sym v.addresses)
            (subst (IsBelow rest l.offset) child.chunks below),
        v.keyed,
      );
      addresses = λ j. child.address j ∷ v.addresses j;
      chunks = cs_is ∙ (λ j. child.chunks j ++ v.chunks j);
      blocks = bs_is ∙ (λ j. child.blocks j ++ v.blocks j);
    }

-- the index of a node with what stands under it
pub index_of : (b : Array) (f : Form) (at : ℕ) (n : ChunkNode) (cs : List Chunk) (bs : List Block) → IsNodeAt b f at n
    → AreUnder b f n cs bs → IsIndexAt b f n.level at cs (node_block f at ∷ bs)
index_of b f at n cs bs spelled h =
    let v = value_of b f n.level true n.keys n.children cs bs h in
    λ key. record {
      index = Node (record { at = at; node = n }) v.indexes;
      stands = (record { spelled = spelled; level_is = refl; children_are = sym v.addresses }, v.stand, v.keyed);
      address = refl;
      behind = tt;
      chunks = v.chunks;
      blocks = ap (λ (l : List Block). node_block f at ∷ l) v.blocks;
    }

-- an index whose chunks ascend is a dataset's
pub rooted : (b : Array) (f : Form) (level at : ℕ) (cs : List Chunk) (bs : List Block) → IsIndexAt b f level at cs bs
    → AreAscending cs → IsRooted b f.k f.rank f.sizes at cs bs
rooted b f level at cs bs h ordered =
    let s : StandsAt b f.k f.rank f.sizes (suc level) no_key at cs bs = h no_key in
    record {
      level = level;
      index = s.index;
      root = s.address;
      stands = s.stands;
      chunks = s.chunks;
      ascending = ordered;
      blocks = s.blocks;
    }
  where
    no_key : ChunkKey
    no_key = record { bytes = 0; mask = 0; offset = [] }
