-- What no bytes hold: laws that show that the definitions refuse what they should, each a clause of `laws::bites`.
use Rattle.std.specs.Prelude.{◌≡◌, ◌≢◌, ℕ, ◌+◌, ◌-◌, ◌*◌, ◌%◌, ◌^◌, ◌<◌, ◌≤◌, false, List, [], ◌∷◌, ◌++◌, length, Some}
use Rattle.std.specs.Prelude.{◌⊎◌}
use Rattle.outside.specs.Array.{Array}
use Rattle.h5_base.specs.declared.extent.MemClass.{MemClass}
use Rattle.h5_base.specs.Fields.{u64_at}
use Rattle.dtype.specs.Products.{product}
use Rattle.dtype.specs.Types.{size_of}
use Rattle.header_codec.specs.declared.types.Layout.TheVariants as layout
use Rattle.header_codec.specs.declared.types.Prefix.{Prefix}
use Rattle.object_model.specs.Tree.{Name, name_lt}
use Rattle.outside.specs.Blocks.{Block, Bounds, AreKept}
use Rattle.file_model.specs.Headers.{Met, Part, header_blocks}
use Rattle.file_model.specs.Objects.{DataInfo, IsDataHeader}
use Rattle.file_model.specs.Index.{Next}
use Rattle.file_model.specs.Groups.{Ks, Found, LeafNode, GroupIndex, GroupIndexes, HasText, AreKeyed, IsLeaf, HasLinks}
use Rattle.file_model.specs.Groups.{links_under}
use Rattle.file_model.specs.Chunks.{Chunk, StoredChunk, IsStored, stored_at}

-- names out of order in a symbol table node
abbrev pub DisorderInNode : Type 0
DisorderInNode = (b : Array) (ks : Ks) (segment : List ℕ) (s : LeafNode) (f g : Found) (fs : List Found)
    → name_lt f.name g.name ≡ false → s.links ≡ f ∷ g ∷ fs
    → IsLeaf b ks segment s → ⊥

-- and between nodes: in the list of a whole group
abbrev pub DisorderInGroup : Type 0
DisorderInGroup = (b : Array) (ks : Ks) (tree heap : ℕ) (f g : Found) (fs : List Found) (bs : List Block)
    → name_lt f.name g.name ≡ false
    → HasLinks b ks tree heap (f ∷ g ∷ fs) bs → ⊥

-- a name that is not above the key before it
abbrev pub NameBelowKey : Type 0
NameBelowKey = (segment keys : List ℕ) (low : Name) (k : ℕ) (f : Found) (here : List Found) (x : GroupIndex)
    (xs : GroupIndexes) → HasText segment k low → name_lt low f.name ≡ false → links_under x ≡ f ∷ here
    → AreKeyed segment (k ∷ keys) (Next x xs) → ⊥

-- or above the key behind it
abbrev pub NameAboveKey : Type 0
NameAboveKey = (segment keys : List ℕ) (high : Name) (k l : ℕ) (f : Found) (here : List Found) (x : GroupIndex)
    (xs : GroupIndexes) → HasText segment l high → (name_lt high f.name ≡ false → ⊥) → links_under x ≡ f ∷ here
    → AreKeyed segment (k ∷ l ∷ keys) (Next x xs) → ⊥

-- a key beside a child whose text is outside the segment
abbrev pub KeyOutside : Type 0
KeyOutside = (segment keys : List ℕ) (k l : ℕ) (x : GroupIndex) (xs : GroupIndexes)
    → (length segment ≤ k) ⊎ (length segment ≤ l)
    → AreKeyed segment (k ∷ l ∷ keys) (Next x xs) → ⊥

-- two blocks that share a byte
abbrev pub SharedByte : Type 0
SharedByte = (e : Bounds) (x y : Block) (blocks : List Block) (address : ℕ) → x.start ≤ address
    → address < x.start + x.len → y.start ≤ address → address < y.start + y.len
    → AreKept e (x ∷ y ∷ blocks) → ⊥

-- a block past the end of every region
abbrev pub PastEnd : Type 0
PastEnd = (e : Bounds) (x : Block) (blocks : List Block) → ((c : MemClass) → e.ends c < x.start + x.len)
    → AreKept e (x ∷ blocks) → ⊥

-- a first message that is a continuation and names a block within its own header
abbrev pub OwnContinuation : Type 0
OwnContinuation = (e : Bounds) (at : ℕ) (prefix : Prefix) (p : Part) (parts : List Part) (m : Met) (ms : List Met)
    (blocks : List Block)
    → p.messages ≡ m ∷ ms → m.kind ≡ 0x10 → at ≤ u64_at m.body 0 → 0 < u64_at m.body 8
    → u64_at m.body 0 + u64_at m.body 8 ≤ at + 16 + prefix.size
    → AreKept e (header_blocks at prefix (p ∷ parts) ++ blocks) → ⊥

-- a chunk whose offset is no multiple of its size
abbrev pub LooseChunk : Type 0
LooseChunk = (size element n : ℕ) (c : StoredChunk) → c.key.offset ≡ n ∷ [] → n % size ≢ 0
    → IsStored 1 (size ∷ element ∷ []) c → ⊥

-- a dataspace whose elements have too many bytes
abbrev pub HugeSpace : Type 0
HugeSpace = (ms : List Met) (i : DataInfo) → 2 ^ 63 - 1 < product i.shape.dims * size_of i.elem → IsDataHeader ms i → ⊥

-- the chunks of a dataset of 4 by 4 elements of 4 bytes, 2 by 2 in a chunk
abbrev pub four_chunks : List Chunk
four_chunks =
    record { offset = 0 ∷ 0 ∷ []; at = 1000 } ∷ record { offset = 0 ∷ 2 ∷ []; at = 2000 } ∷ record {
      offset = 2 ∷ 0 ∷
          [];
      at = 3000;
    } ∷ record { offset = 2 ∷ 2 ∷ []; at = 4000 } ∷ []

-- the element at 1,3 is the last of the second chunk, and that at 2,1 the second of the third
abbrev pub PlaceInChunk : Type 0
PlaceInChunk = (i : DataInfo) → i.shape.dims ≡ 4 ∷ 4 ∷ [] → size_of i.elem ≡ 4
    → (stored_at i (layout.Chunked 500 (2 ∷ 2 ∷ 4 ∷ [])) four_chunks (1 ∷ 3 ∷ []) ≡ Some 2012)
    × (stored_at i (layout.Chunked 500 (2 ∷ 2 ∷ 4 ∷ [])) four_chunks (2 ∷ 1 ∷ []) ≡ Some 3004)
