-- When the tree that the program keeps is a tree of objects: names and objects agree, and of datasets all but the
-- elements. Cited by `answer`, and by the theorem of a script's run.
use Rattle.std.specs.Prelude.{◌≡◌, Bool}
use Rattle.dtype.specs.Types.{size_of}
use Rattle.dtype.specs.declared.types.ElemType.{ElemType}
use Rattle.dtype.specs.declared.types.Shape.{Shape}
use Rattle.header_codec.specs.declared.types.Fill.{Fill}
use Rattle.header_codec.specs.declared.types.Layout.{Layout}
use Rattle.object_model.specs.Tree.{Group, Leaf, Empty, Link}
use Rattle.object_model.specs.Data.{Data}
use Rattle.object_model.specs.Step.{Plain, PlainLinks, Object, Dataset, Soft, Other}
use Rattle.file_model.specs.Objects.{DataInfo, fill_bytes, max_of}
use Rattle.file_model.specs.Chunks.{chunk_of}
use Rattle.tree_nodes.specs.declared.node.Node.{Node}
use Rattle.tree_nodes.specs.declared.node.Node.TheVariants as node
use Rattle.tree_nodes.specs.declared.tree.ObjectTree.{ObjectTree}
use Rattle.tree_nodes.specs.Shown.{Keyed, KeyedLinks, Shows}

-- what a dataset's node tells
abbrev pub info_of : Shape → ElemType → Fill → Layout → Bool → DataInfo
info_of shape elem fill layout filtered = record {
  shape = shape;
  elem = elem;
  fill = fill_bytes
      (size_of elem) fill;
  layout = layout;
  filtered = filtered;
}

-- This is told of the dataset; its elements are free, since no given command shows one.
pub record ShowsData (i : DataInfo) (d : Data) : Type 0 where
  pub elem : d.elem ≡ i.elem
  pub dims : d.dims ≡ i.shape.dims
  pub max : d.max ≡ max_of i.shape
  pub chunk : d.chunk ≡ chunk_of i i.layout
  pub fill : d.fill ≡ i.fill
  pub filtered : d.filtered ≡ i.filtered

-- the node is this object's
abbrev pub ShowsObject : Node → Object → Type 0
ShowsObject (node.Dataset header shape elem fill layout filtered) (Dataset d) = ShowsData
    (info_of shape elem fill layout filtered) d
ShowsObject (node.Soft text) (Soft target) = text ≡ target
ShowsObject (node.Other header) Other = Unit {0}
ShowsObject _ _ = ⊥

-- the tree with keys has at each place the node of the object that stands there
abbrev mutual
  pub ShowsPlain : Keyed → Plain → Type 0
  ShowsPlain (Group x ks) (Group g ls) = ShowsLinks ks ls
  ShowsPlain (Group x ks) (Leaf o) = ⊥
  ShowsPlain (Leaf x) (Group g ls) = ⊥
  ShowsPlain (Leaf x) (Leaf o) = ShowsObject x.node o

  pub ShowsLinks : KeyedLinks → PlainLinks → Type 0
  ShowsLinks Empty Empty = Unit {0}
  ShowsLinks Empty (Link m u more) = ⊥
  ShowsLinks (Link n t rest) Empty = ⊥
  ShowsLinks (Link n t rest) (Link m u more) = (n ≡ m) × ShowsPlain t u × ShowsLinks rest more

-- The tree that is kept is this tree of objects.
pub record IsTreeOf (kept : ObjectTree) (t : Plain) : Type 0 where
  pub keyed : Keyed
  pub shown : Shows kept keyed
  pub same : ShowsPlain keyed t
