-- A sound tree is a tree of objects.
use Rattle.std.proofs.Common.{◌≡◌, ℕ, false, [], Option, refl}
use Rattle.object_model.specs.Tree.{Group, Leaf, Empty, Link}
use Rattle.object_model.specs.Step.{Plain, PlainLinks, Object, Dataset, Soft, Other}
use Rattle.file_model.specs.Objects.{max_of}
use Rattle.file_model.specs.Chunks.{chunk_of}
use Rattle.tree_nodes.specs.declared.node.Node.{Node}
use Rattle.tree_nodes.specs.declared.node.Node.TheVariants as node
use Rattle.tree_nodes.specs.Nodes.{Kept, is_group}
use Rattle.tree_nodes.specs.Entries.{entry_of}
use Rattle.tree_nodes.specs.Shown.{Keyed, KeyedLinks, AreKept, AreKeptBelow}
use Rattle.tree_answers.specs.Shown.{info_of, ShowsObject, ShowsPlain, ShowsLinks}
use Rattle.tree_answers.specs.Laws.{SoundIs}

-- the object of a node that is no group, of a dataset without its elements
shown_object : (n : Node) → is_group n ≡ false → (o : Object) × ShowsObject n o
shown_object (node.Group header tree heap) none = absurd cc
shown_object (node.Dataset header shape elem fill layout filtered) none =
    let i = info_of shape elem fill layout filtered in (
      Dataset (record {
        elem = i.elem;
        dims = i.shape.dims;
        max = max_of i.shape;
        chunk = chunk_of i i.layout;
        fill = i.fill;
        filtered = i.filtered;
        elements = [];
      }),
      record { elem = refl; dims = refl; max = refl; chunk = refl; fill = refl; filtered = refl },
    )
shown_object (node.Soft text) none = (Soft text, refl)
shown_object (node.Other header) none = (Other, tt)

mutual
  shown_plain : (at : ℕ → Option Kept) (k : Keyed) → AreKept at k → (t : Plain) × ShowsPlain k t
  shown_plain at (Group x ks) h =
      let (ls, shows) = shown_links at ks h.2 in
      (Group tt ls, shows)
  shown_plain at (Leaf x) h =
      let (o, shows) = shown_object x.node h.0 in
      (Leaf o, shows)

  shown_links : (at : ℕ → Option Kept) (ks : KeyedLinks) → AreKeptBelow at ks → (ls : PlainLinks) × ShowsLinks ks ls
  shown_links at Empty h = (Empty, tt)
  shown_links at (Link n k rest) h =
      let (t, shows) = shown_plain at k h.0 in
      let (ls, more) = shown_links at rest h.1 in
      (Link n t ls, (refl, shows, more))

pub sound_is : SoundIs
sound_is kept sound =
    let (t, same) = shown_plain (entry_of kept) sound.tree sound.shown.nodes in
    (t, record { keyed = sound.tree; shown = sound.shown; same = same })
