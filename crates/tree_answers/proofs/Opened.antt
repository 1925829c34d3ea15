-- The tree of an opened file is the one that its bytes hold.
use Rattle.std.proofs.Common.{◌≡◌, refl, sym, subst}
use Rattle.object_model.specs.Tree.{Group, Leaf, Empty, Link, map_links}
use Rattle.object_model.specs.Step.{Plain}
use Rattle.file_model.specs.Objects.{DataInfo}
use Rattle.file_model.specs.Holds.{DataAt, LeafAt, DataLeaf, SoftLeaf, OtherLeaf, Full, FullLinks, data_of, object_of, plain}
use Rattle.file_model.proofs.UniqueTree.{one_tree}
use Rattle.tree_nodes.specs.declared.node.Node.{Node}
use Rattle.tree_nodes.specs.declared.node.Node.TheVariants as node
use Rattle.tree_nodes.specs.Shown.{Keyed, KeyedLinks}
use Rattle.tree_nodes.specs.Entries.{superblock_of}
use Rattle.object_tree.specs.Opened.{IsDataNode, IsLeafNode, Matches, MatchesLinks}
use Rattle.tree_answers.specs.Shown.{info_of, ShowsData, ShowsObject, ShowsPlain, ShowsLinks, IsTreeOf}
use Rattle.tree_answers.specs.Laws.{Held, OpenedIs}

data_shown : (n : Node) (d : DataAt) → IsDataNode n d → ShowsObject n (object_of (DataLeaf d))
data_shown (node.Group header tree heap) d h = absurd h
data_shown (node.Dataset header shape elem fill layout filtered) d h =
    let (at, shape_is, elem_is, fill_is, layout_is, filtered_is) = h in
    let is : info_of shape elem fill layout filtered ≡ record { shape = d.info.shape; elem = d.info.elem; fill = d.info.fill; layout = d.info.layout; filtered = d.info.filtered } = cc in
    subst (λ (i : DataInfo). ShowsData i (data_of d)) (sym is)
    (record { elem = refl; dims = refl; max = refl; chunk = refl; fill = refl; filtered = refl })
data_shown (node.Soft text) d h = absurd h
data_shown (node.Other header) d h = absurd h

leaf_shown : (n : Node) (l : LeafAt) → IsLeafNode n l → ShowsObject n (object_of l)
leaf_shown n (DataLeaf d) h = data_shown n d h
leaf_shown n (SoftLeaf text) h = subst (λ (m : Node). ShowsObject m (object_of (SoftLeaf text))) (sym h) refl
leaf_shown n (OtherLeaf o) h = subst (λ (m : Node). ShowsObject m (object_of (OtherLeaf o))) (sym h) tt

mutual
  pub matches_shown : (k : Keyed) (f : Full) → Matches k f → ShowsPlain k (plain f)
  matches_shown (Group x ks) (Group g ls) h = matches_links ks ls h.1
  matches_shown (Group x ks) (Leaf l) h = absurd h
  matches_shown (Leaf x) (Group g ls) h = absurd h
  matches_shown (Leaf x) (Leaf l) h = leaf_shown x.node l h

  matches_links : (ks : KeyedLinks) (ls : FullLinks) → MatchesLinks ks ls
      → ShowsLinks ks (map_links (λ _. tt) object_of ls)
  matches_links Empty Empty h = tt
  matches_links Empty (Link m f more) h = absurd h
  matches_links (Link n k rest) Empty h = absurd h
  matches_links (Link n k rest) (Link m f more) h = (h.0, matches_shown k f h.1, matches_links rest more h.2)

pub held : Held
held b e kept o =
    let t : Plain = plain (Group o.root o.links) in (
      t,
      record { super = superblock_of kept; root = o.root; links = o.links; full = o.full; tree = refl },
      record { keyed = o.tree; shown = o.shown; same = matches_shown o.tree (Group o.root o.links) o.same },
    )

pub opened_is : OpenedIs
opened_is b e kept o t holds =
    let (u, also, is) = held b e kept o in
    subst (IsTreeOf kept) (one_tree b e u t also holds) is
