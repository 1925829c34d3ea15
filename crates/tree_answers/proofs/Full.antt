-- A tree of objects that is kept is a tree of places.
use Rattle.std.proofs.Common.{◌≡◌, ℕ, true, [], Option, refl, sym, ap}
use Rattle.object_model.specs.Tree.{Group, Leaf, Empty, Link, map_links}
use Rattle.object_model.specs.Step.{Plain, PlainLinks, Object, Dataset, Soft, Other}
use Rattle.file_model.specs.Holds.{GroupAt, LeafAt, DataLeaf, SoftLeaf, OtherLeaf, Full, FullLinks, object_of, plain}
use Rattle.tree_nodes.specs.declared.node.Node.{Node}
use Rattle.tree_nodes.specs.declared.node.Node.TheVariants as node
use Rattle.tree_nodes.specs.Nodes.{Kept, is_group}
use Rattle.tree_nodes.specs.Entries.{entry_of}
use Rattle.tree_nodes.specs.Shown.{Keyed, KeyedLinks, AreKept, AreKeptBelow}
use Rattle.object_tree.specs.Opened.{IsGroupNode, IsLeafNode, Matches, MatchesLinks}
use Rattle.tree_answers.specs.Shown.{info_of, ShowsObject, ShowsPlain, ShowsLinks}
use Rattle.tree_answers.specs.Laws.{PlacesAre, PlacesOf}
use Rattle.tree_answers.proofs.Opened.{matches_shown}

group_place : (n : Node) → is_group n ≡ true → (g : GroupAt) × IsGroupNode n g
group_place (node.Group header tree heap) is =
    (record { header_at = header; tree_at = tree; heap_at = heap; own = [] }, (refl, refl, refl))
group_place (node.Dataset header shape elem fill layout filtered) is = absurd cc
group_place (node.Soft text) is = absurd cc
group_place (node.Other header) is = absurd cc

leaf_place : (n : Node) (o : Object) → ShowsObject n o → (l : LeafAt) × IsLeafNode n l × (object_of l ≡ o)
leaf_place (node.Group header tree heap) o h = absurd h
leaf_place (node.Dataset header shape elem fill layout filtered) (Dataset d) h = (
  DataLeaf (record {
    header_at = header;
    info = info_of shape elem fill layout filtered;
    chunks = [];
    elements = d.elements;
    own = [];
  }),
  (refl, refl, refl, refl, refl, refl),
  λ j. Dataset (record {
    elem = sym h.elem j;
    dims = sym h.dims j;
    max = sym h.max j;
    chunk = sym h.chunk j;
    fill = sym h.fill j;
    filtered = sym h.filtered j;
    elements = d.elements;
  }),
)
leaf_place (node.Dataset header shape elem fill layout filtered) (Soft target) h = absurd h
leaf_place (node.Dataset header shape elem fill layout filtered) Other h = absurd h
leaf_place (node.Soft text) (Dataset d) h = absurd h
leaf_place (node.Soft text) (Soft target) h = (SoftLeaf text, refl, ap Soft h)
leaf_place (node.Soft text) Other h = absurd h
leaf_place (node.Other header) (Dataset d) h = absurd h
leaf_place (node.Other header) (Soft target) h = absurd h
leaf_place (node.Other header) Other h = (OtherLeaf (record { header_at = header; own = [] }), refl, refl)

mutual
  tree_place : (at : ℕ → Option Kept) (k : Keyed) (t : Plain) → AreKept at k → ShowsPlain k t
      → (f : Full) × Matches k f × (plain f ≡ t)
  tree_place at (Group x ks) (Group g ls) nodes h =
      let (p, here) = group_place x.node nodes.0 in
      let (fs, below, is) = links_place at ks ls nodes.2 h in
      (Group p fs, (here, below), ap (Group tt) is)
  tree_place at (Group x ks) (Leaf o) nodes h = absurd h
  tree_place at (Leaf x) (Group g ls) nodes h = absurd h
  tree_place at (Leaf x) (Leaf o) nodes h =
      let (l, here, is) = leaf_place x.node o h in
      (Leaf l, here, ap Leaf is)

  links_place : (at : ℕ → Option Kept) (ks : KeyedLinks) (ls : PlainLinks) → AreKeptBelow at ks → ShowsLinks ks ls
      → (fs : FullLinks) × MatchesLinks ks fs × (map_links (λ _. tt) object_of fs ≡ ls)
  links_place at Empty Empty nodes h = (Empty, tt, refl)
  links_place at Empty (Link m t more) nodes h = absurd h
  links_place at (Link n k rest) Empty nodes h = absurd h
  links_place at (Link n k rest) (Link m t more) nodes h =
      let (f, here, is) = tree_place at k t nodes.0 h.1 in
      let (fs, later, are) = links_place at rest more nodes.1 h.2 in
      (Link n f fs, (refl, here, later), λ j. Link (h.0 j) (is j) (are j))

pub places_are : PlacesAre
places_are kept f h = record { keyed = h.keyed; shown = h.shown; same = matches_shown h.keyed f h.same }

pub places_of : PlacesOf
places_of kept t h =
    let (f, same, is) = tree_place (entry_of kept) h.keyed t h.shown.nodes h.same in
    (f, record { keyed = h.keyed; shown = h.shown; same = same }, is)
