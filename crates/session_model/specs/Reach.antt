-- Reach: which addresses a done line may change, besides the blocks that it takes.
-- Cited by what a done line leaves, and by what a fault within a line leaves.
use Rattle.std.specs.Prelude.{◌≡◌, ◌⊎◌, ℕ, ◌+◌, ◌<◌, ◌≤◌, ◌&&◌, not, Bool, IsTrue, List, [], ◌∷◌, length}
use Rattle.std.specs.Prelude.{Option, Some, Ok}
use Rattle.outside.specs.Array.{Array}
use Rattle.outside.specs.Blocks.{Block}
use Rattle.block_space.specs.Plans.{LiesInOne}
use Rattle.dtype.specs.Types.{size_of}
use Rattle.header_codec.specs.declared.types.Prefix.{Prefix}
use Rattle.header_codec.specs.declared.types.Layout.{Layout}
use Rattle.header_codec.specs.declared.types.Layout.TheVariants as layout
use Rattle.super_codec.specs.declared.superblock.Superblock.{Superblock}
use Rattle.object_model.specs.declared.command.Command.{Command}
use Rattle.object_model.specs.declared.command.Command.TheVariants as command
use Rattle.object_model.specs.Boxes.{in_box, all_lt}
use Rattle.object_model.specs.Tree.{Group, Name, walk, dir_of}
use Rattle.file_model.specs.Index.{gather}
use Rattle.file_model.specs.Headers.{Part, IsHeader, header_blocks}
use Rattle.file_model.specs.Groups.{Ks, HasLinks}
use Rattle.file_model.specs.Chunks.{IsRooted, node_block, stored_at}
use Rattle.file_model.specs.Holds.{GroupAt, DataAt, Full, FullLinks, founds, ks_of}
use Rattle.session_model.specs.Room.{LeadsTo}
use Rattle.session_model.specs.EndFields.{InEndFields}

-- Of the index and the heap of the group that all names of a path but the last lead to: its heap header and segment,
-- B-tree nodes and symbol table nodes.
pub record InParent (b : Array) (ks : Ks) (t : Full) (p : List Name) (a : ℕ) : Type 0 where
  pub group : GroupAt
  pub links : FullLinks
  pub parent : walk t (dir_of p) ≡ Ok (Group group links)
  pub blocks : List Block
  pub has : HasLinks b ks group.tree_at group.heap_at (founds links) blocks
  pub inside : LiesInOne blocks a 1

-- of an object's header, with its continuations
pub record InHeader (b : Array) (at a : ℕ) : Type 0 where
  pub prefix : Prefix
  pub parts : List Part
  pub header : IsHeader b at prefix parts
  pub inside : LiesInOne (header_blocks at prefix parts) a 1

-- of the nodes of a chunk index
pub record InNodes (b : Array) (k : ℕ) (d : DataAt) (tree : ℕ) (sizes : List ℕ) (a : ℕ) : Type 0 where
  pub blocks : List Block
  pub rooted : IsRooted b k (length d.info.shape.dims) sizes tree d.chunks blocks
  pub inside :
      LiesInOne (gather (λ n. node_block k (length d.info.shape.dims) n.at ∷ []) (λ c. []) rooted.index) a 1

abbrev pub InIndex : Array → ℕ → DataAt → Layout → ℕ → Type 0
InIndex b k d (layout.Contiguous at len) a = ⊥
InIndex b k d (layout.Chunked tree sizes) a = InNodes b k d tree sizes a

-- of the stored elements at some indices
pub record InElements (d : DataAt) (these : List ℕ → Bool) (a : ℕ) : Type 0 where
  pub index : List ℕ
  pub one : IsTrue (these index)
  pub at : ℕ
  pub stored : stored_at d.info d.info.layout d.chunks index ≡ Some at
  pub behind : at ≤ a
  pub before : a < at + size_of d.info.elem

-- the indices that become visible where a dataset gets these sizes
abbrev pub is_newly_seen : DataAt → List ℕ → List ℕ → Bool
is_newly_seen d dims index = all_lt index dims && not (all_lt index d.info.shape.dims)

-- The reach of a line besides the blocks that it takes: a group's index and heap, a dataset's header, index and
-- elements, or the end fields.
abbrev pub Reach : Option (List ℕ) → Array → Superblock → Full → Command → ℕ → Type 0
Reach own b s t (command.Mkgroup p) a = InParent b (ks_of s) t p a
Reach own b s t (command.Mkdata p elem dims chunk max fill) a = InParent b (ks_of s) t p a
Reach own b s t (command.Rm p) a = InParent b (ks_of s) t p a
Reach own b s t (command.Write p start count values) a =
    (d : DataAt) × LeadsTo t p d
    × (InHeader b d.header_at a ⊎ InIndex b s.chunk_k d d.info.layout a ⊎ InElements d (in_box start count) a)
Reach own b s t (command.Extend p dims) a =
    (d : DataAt) × LeadsTo t p d × (InHeader b d.header_at a ⊎ InElements d (is_newly_seen d dims) a)
Reach own b s t command.Flush a = InEndFields own s b a
Reach own b s t (command.Commit comment) a = InEndFields own s b a
Reach own b s t c a = ⊥
