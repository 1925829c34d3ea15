-- What the bytes of a file hold: the tree of its objects, by a tree that has each object's place in the file.
-- Cited by what opens, reads and changes a file.
use Rattle.std.specs.Prelude.{◌≡◌, ◌≢◌, ◌⊎◌, ℕ, ◌+◌, min, List, [], ◌∷◌, ◌++◌, slice_index, Option, Some, None}
use Rattle.outside.specs.Array.{Array, bytes_of}
use Rattle.h5_base.specs.declared.extent.MemClass.TheVariants.{Super}
use Rattle.h5_base.specs.Fields.{bytes_at, u32_at, undefined}
use Rattle.super_codec.specs.Super.{Spells, super_len}
use Rattle.super_codec.specs.declared.superblock.Superblock.{Superblock}
use Rattle.header_codec.specs.declared.types.Prefix.{Prefix}
use Rattle.object_model.specs.Tree.{Tree, Group, Leaf, Links, Empty, Link, map_tree}
use Rattle.object_model.specs.Data.{Data}
use Rattle.object_model.specs.Step.{Plain, Object, Dataset, Soft, Other}
use Rattle.outside.specs.Blocks.{Block, Bounds, AreKept}
use Rattle.file_model.specs.Headers.{Part, IsHeader, header_blocks, messages_of, later_header}
use Rattle.file_model.specs.Objects.{DataInfo, IsGroupHeader, IsDataHeader, IsOtherHeader, max_of}
use Rattle.file_model.specs.Groups.{Ks, Found, Target, Header, Text, HasLinks}
use Rattle.file_model.specs.Chunks.{Chunk, IsStoredBy, elements_of, chunk_of}

-- ---- objects with their places; `own` are the blocks that are an object's alone

pub record GroupAt : Type 0 where
  pub header_at : ℕ
  pub tree_at : ℕ
  pub heap_at : ℕ
  pub own : List Block

pub record DataAt : Type 0 where
  pub header_at : ℕ
  pub info : DataInfo
  pub chunks : List Chunk
  pub elements : List (List ℕ)
  pub own : List Block

pub record OtherAt : Type 0 where
  pub header_at : ℕ
  pub own : List Block

pub data LeafAt : Type 0 where
  DataLeaf : DataAt → LeafAt
  SoftLeaf : List ℕ → LeafAt
  OtherLeaf : OtherAt → LeafAt

-- the tree of objects with their places
abbrev pub Full : Type 0
Full = Tree GroupAt LeafAt

abbrev pub FullLinks : Type 0
FullLinks = Links GroupAt LeafAt

-- ---- what a link leads to

abbrev pub leaf_target : LeafAt → Target
leaf_target (DataLeaf d) = Header d.header_at
leaf_target (SoftLeaf text) = Text text
leaf_target (OtherLeaf o) = Header o.header_at

abbrev pub target_of : Full → Target
target_of (Group g ls) = Header g.header_at
target_of (Leaf l) = leaf_target l

abbrev pub founds : FullLinks → List Found
founds Empty = []
founds (Link n t rest) = record { name = n; target = target_of t } ∷ founds rest

-- ---- all blocks of a tree

abbrev pub leaf_blocks : LeafAt → List Block
leaf_blocks (DataLeaf d) = d.own
leaf_blocks (SoftLeaf text) = []
leaf_blocks (OtherLeaf o) = o.own

abbrev mutual
  pub blocks_of : Full → List Block
  blocks_of (Group g ls) = g.own ++ blocks_in ls
  blocks_of (Leaf l) = leaf_blocks l

  pub blocks_in : FullLinks → List Block
  blocks_in Empty = []
  blocks_in (Link n t rest) = blocks_of t ++ blocks_in rest

-- ---- what it is that an object lies in the file

pub record IsGroup (b : Array) (ks : Ks) (g : GroupAt) (fs : List Found) : Type 0 where
  pub prefix : Prefix
  pub parts : List Part
  pub header : IsHeader b g.header_at prefix parts
  pub table : IsGroupHeader (messages_of parts) g.tree_at g.heap_at
  pub index : List Block
  pub links : HasLinks b ks g.tree_at g.heap_at fs index
  pub blocks : g.own ≡ header_blocks g.header_at prefix parts ++ index

pub record IsData (b : Array) (ks : Ks) (d : DataAt) : Type 0 where
  pub prefix : Prefix
  pub parts : List Part
  pub header : IsHeader b d.header_at prefix parts
  pub told : IsDataHeader (messages_of parts) d.info
  pub storage : List Block
  pub stored : IsStoredBy b ks.chunk d.info d.info.layout d.chunks storage
  pub elements : d.elements ≡ elements_of b d.info d.chunks
  pub blocks : d.own ≡ header_blocks d.header_at prefix parts ++ storage

-- an object of neither kind, by its header
pub record IsOther (b : Array) (o : OtherAt) : Type 0 where
  pub prefix : Prefix
  pub parts : List Part
  pub header : IsHeader b o.header_at prefix parts
  pub told : IsOtherHeader (messages_of parts)
  pub blocks : o.own ≡ header_blocks o.header_at prefix parts

pub record IsLater (b : Array) (o : OtherAt) : Type 0 where
  pub signature : bytes_of b o.header_at 4 ≡ later_header
  pub blocks : o.own ≡ record { start = o.header_at; len = 4 } ∷ []

-- an object of neither kind, by its header, or one whose header is of a later version
pub data IsUnknown (b : Array) (o : OtherAt) : Type 0 where
  Unsupported : IsOther b o → IsUnknown b o
  Later : IsLater b o → IsUnknown b o

abbrev pub IsLeafHeld : Array → Ks → LeafAt → Type 0
IsLeafHeld b ks (DataLeaf d) = IsData b ks d
IsLeafHeld b ks (SoftLeaf text) = Unit {0}
IsLeafHeld b ks (OtherLeaf o) = IsUnknown b o

-- each node of the tree lies in the file as its kind wants
abbrev mutual
  pub IsHeld : Array → Ks → Full → Type 0
  IsHeld b ks (Group g ls) = IsGroup b ks g (founds ls) × AreHeld b ks ls
  IsHeld b ks (Leaf l) = IsLeafHeld b ks l

  pub AreHeld : Array → Ks → FullLinks → Type 0
  AreHeld b ks Empty = Unit {0}
  AreHeld b ks (Link n t rest) = IsHeld b ks t × AreHeld b ks rest

-- ---- the tree without places

abbrev pub data_of : DataAt → Data
data_of d = record {
  elem = d.info.elem;
  dims = d.info.shape.dims;
  max = max_of d.info.shape;
  chunk = chunk_of d.info d.info.layout;
  fill = d.info.fill;
  filtered = d.info.filtered;
  elements = d.elements;
}

abbrev pub object_of : LeafAt → Object
object_of (DataLeaf d) = Dataset (data_of d)
object_of (SoftLeaf text) = Soft text
object_of (OtherLeaf o) = Other

abbrev pub plain : Full → Plain
plain t = map_tree (λ _. tt) object_of t

-- ---- the file

abbrev pub ks_of : Superblock → Ks
ks_of s = record { leaf = s.leaf_k; internal = s.internal_k; chunk = s.chunk_k }

-- the driver information block of the stack's own kind: version 0, and this identification
pub record IsDriver (b : Array) (at : ℕ) (ident : List ℕ) : Type 0 where
  pub version : slice_index (bytes_of b at 16) 0 ≡ 0
  pub ident_is : bytes_at (bytes_of b at 16) 8 8 ≡ ident

-- its block, where the stack has a kind and the superblock an address
abbrev pub HasDriver : Array → Option (List ℕ) → ℕ → List Block → Type 0
HasDriver b None at bs = bs ≡ []
HasDriver b (Some ident) at bs =
    ((at ≡ undefined) × (bs ≡ [])) ⊎ ((at ≢ undefined) × IsDriver b at ident
    × (bs ≡ record { start = at; len = 16 + u32_at (bytes_of b at 16) 4 } ∷ []))

-- the superblock is spelled by the bytes from address 0 on that lie below the end of its region
abbrev pub super_bytes_of : Array → Bounds → List ℕ
super_bytes_of b e = bytes_of b 0 (min 100 (e.ends Super))

-- The bytes hold a tree of places.
pub record HoldsFull (b : Array) (e : Bounds) (s : Superblock) (g : GroupAt) (ls : FullLinks) : Type 0 where
  pub super : Spells s (super_bytes_of b e)
  pub driver : List Block
  pub driver_is : HasDriver b e.own s.driver_at driver
  pub root : g.header_at ≡ s.root.header_at
  pub held : IsHeld b (ks_of s) (Group g ls)
  pub kept : AreKept e (record { start = 0; len = super_len s.version } ∷ driver ++ blocks_of (Group g ls))

-- The bytes and ends hold the tree t.
pub record Holds (b : Array) (e : Bounds) (t : Plain) : Type 0 where
  pub super : Superblock
  pub root : GroupAt
  pub links : FullLinks
  pub full : HoldsFull b e super root links
  pub tree : t ≡ plain (Group root links)
