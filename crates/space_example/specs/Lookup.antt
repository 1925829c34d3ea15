-- What a path leads to in the tree that a file holds, as a lookup answers it.
-- Cited by `lookup` and its steps.
use Rattle.std.specs.Prelude.{◌≡◌, List, Option, Some, None, Result, Ok, Err}
use Rattle.outside.specs.Array.{Array}
use Rattle.outside.specs.Blocks.{Bounds}
use Rattle.super_codec.specs.declared.superblock.Superblock.{Superblock}
use Rattle.object_model.specs.declared.answer.Code.{Code}
use Rattle.object_model.specs.Tree.{Group, Leaf, Name, walk}
use Rattle.file_model.specs.Holds.{GroupAt, LeafAt, DataLeaf, SoftLeaf, OtherLeaf, Full, FullLinks, HoldsFull}
use Rattle.tree_nodes.specs.declared.node.Node.{Node}
use Rattle.tree_nodes.specs.declared.node.Node.TheVariants as node
use Rattle.tree_nodes.specs.declared.node.NodeId.{NodeId}
use Rattle.tree_nodes.specs.Shown.{Keyed, key_of, node_of}
use Rattle.space_example.specs.declared.looking.Found.{Found}
use Rattle.space_example.specs.declared.looking.Found.TheVariants as found

-- The bytes hold this tree of objects with their places.
pub record IsFileTree (b : Array) (e : Bounds) (t : Full) : Type 0 where
  pub superblock : Superblock
  pub root : GroupAt
  pub links : FullLinks
  pub full : HoldsFull b e superblock root links
  pub tree : t ≡ Group root links

-- what is there
abbrev pub leaf_there : LeafAt → Found
leaf_there (DataLeaf d) = found.Dataset d.header_at d.info.elem d.info.filtered
leaf_there (SoftLeaf text) = found.Soft text
leaf_there (OtherLeaf o) = found.Other o.header_at

abbrev pub there : Full → Found
there (Group g ls) = found.Group g.header_at
there (Leaf l) = leaf_there l

-- nothing where the path leads nowhere
abbrev pub reached : Result Full Code → Option Found
reached (Ok t) = Some (there t)
reached (Err code) = None

-- what a path leads to
abbrev pub looked : Full → List Name → Option Found
looked t p = reached (walk t p)

-- ---- the same in a tree with keys

abbrev pub told : Node → Found
told (node.Group header tree heap) = found.Group header
told (node.Dataset header shape elem fill layout filtered) = found.Dataset header elem filtered
told (node.Soft text) = found.Soft text
told (node.Other header) = found.Other header

abbrev pub reached_node : Result Keyed Code → Option Found
reached_node (Ok t) = Some (told (node_of t))
reached_node (Err code) = None

abbrev pub reached_id : Result Keyed Code → Option NodeId
reached_id (Ok t) = Some (record { key = key_of t })
reached_id (Err code) = None
