-- The limits within which a file is opened.
-- Cited by what opens a file.
use Rattle.std.specs.Prelude.{ℕ, ◌+◌, ◌≤◌, max, List, length}
use Rattle.std.specs.List.{sum_by}
use Rattle.outside.specs.Array.{Array, bytes_of}
use Rattle.header_codec.specs.declared.types.Prefix.{Prefix}
use Rattle.node_codec.specs.Heap.{SpellsHeap}
use Rattle.node_codec.specs.declared.heap.HeapHead.{HeapHead}
use Rattle.object_model.specs.Tree.{Group, Leaf, Empty, Link}
use Rattle.outside.specs.Blocks.{Block, most_blocks}
use Rattle.file_model.specs.Groups.{Found, Target, Header, Text}
use Rattle.file_model.specs.Headers.{Part, IsHeader, header_blocks}
use Rattle.file_model.specs.Holds.{LeafAt, DataLeaf, SoftLeaf, OtherLeaf, Full, FullLinks}

-- the root has depth 0
abbrev pub most_depth : ℕ
most_depth = 32

-- groups, datasets and others
abbrev pub most_objects : ℕ
most_objects = 65536

-- a header with its continuations, in bytes
abbrev pub most_header : ℕ
most_header = 1048576

-- the segment of a local heap, in bytes
abbrev pub most_segment : ℕ
most_segment = 16777216

-- The names and the soft links' values of a file that are kept, in bytes. A file with more isn't refused: there is no
-- memory for it.
abbrev pub most_texts : ℕ
most_texts = 268435456

abbrev pub target_bytes : Target → ℕ
target_bytes (Header at) = 0
target_bytes (Text text) = length text

-- the bytes of the names and the soft links' values of links
abbrev pub text_bytes : List Found → ℕ
text_bytes = sum_by (λ f. length f.name + target_bytes f.target)

-- soft links are no objects
abbrev pub leaf_objects : LeafAt → ℕ
leaf_objects (DataLeaf d) = 1
leaf_objects (SoftLeaf text) = 0
leaf_objects (OtherLeaf o) = 1

-- How many links lead down to the deepest object of what a link leads to, that link counted; and how many from a group
-- down to the deepest object below it.
abbrev mutual
  pub depth_to : Full → ℕ
  depth_to (Group g ls) = depth_in ls + 1
  depth_to (Leaf l) = leaf_objects l

  pub depth_in : FullLinks → ℕ
  depth_in Empty = 0
  depth_in (Link n t rest) = max (depth_to t) (depth_in rest)

-- all groups, datasets and others
abbrev mutual
  pub objects_of : Full → ℕ
  objects_of (Group g ls) = objects_in ls + 1
  objects_of (Leaf l) = leaf_objects l

  pub objects_in : FullLinks → ℕ
  objects_in Empty = 0
  objects_in (Link n t rest) = objects_of t + objects_in rest

-- the bytes of a header with its continuations
abbrev pub header_bytes : ℕ → Prefix → List Part → ℕ
header_bytes at prefix parts = sum_by (λ x. x.len) (header_blocks at prefix parts)

abbrev pub IsShort : Array → ℕ → Type 0
IsShort b at = (prefix : Prefix) (parts : List Part) → IsHeader b at prefix parts
    → header_bytes at prefix parts ≤ most_header

abbrev pub IsSmallHeap : Array → ℕ → Type 0
IsSmallHeap b at = (head : HeapHead) → SpellsHeap head (bytes_of b at 32) → head.len ≤ most_segment

abbrev pub LeafFits : Array → LeafAt → Type 0
LeafFits b (DataLeaf d) = IsShort b d.header_at
LeafFits b (SoftLeaf text) = Unit {0}
LeafFits b (OtherLeaf o) = IsShort b o.header_at

-- each header and each heap segment is small enough
abbrev mutual
  pub Fits : Array → Full → Type 0
  Fits b (Group g ls) = IsShort b g.header_at × IsSmallHeap b g.heap_at × AllFit b ls
  Fits b (Leaf l) = LeafFits b l

  pub AllFit : Array → FullLinks → Type 0
  AllFit b Empty = Unit {0}
  AllFit b (Link n t rest) = Fits b t × AllFit b rest

-- A tree that is opened; `blocks` are all of the file. The root has depth 0, so that what leads to it counts one more.
pub record IsWithinLimits (b : Array) (blocks : List Block) (t : Full) : Type 0 where
  pub depth : depth_to t ≤ most_depth + 1
  pub objects : objects_of t ≤ most_objects
  pub block_count : length blocks ≤ most_blocks
  pub parts : Fits b t
