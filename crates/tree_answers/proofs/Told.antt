-- What is answered of a node, beside what is answered of the object that stands there.
use Rattle.std.proofs.Common.{◌≡◌, ℕ, ◌+◌, true, false, List, [], ◌∷◌, ◌++◌, map, length, get_or, slice_get, take, Option, Some, Result, Ok, Err, if◌then◌else◌, refl, sym, ap, ◌∙◌, arith}
use Rattle.std.specs.Result.{is_ok, is_err}
use Rattle.std.proofs.lemmas.List.{length-replicate, take_more}
use Rattle.std.proofs.lemmas.Option.{get_or_from_slice_get, slice_get_within}
use Rattle.dtype.specs.Types.{size_of}
use Rattle.header_codec.specs.Fills.{IsOfSize}
use Rattle.header_codec.specs.declared.types.Fill.{Fill}
use Rattle.header_codec.specs.declared.types.Fill.TheVariants as fill
use Rattle.object_model.specs.declared.answer.Answer.TheVariants as answer
use Rattle.object_model.specs.declared.answer.LinkLine.{LinkLine}
use Rattle.object_model.specs.declared.answer.Shown.TheVariants as shown
use Rattle.object_model.specs.Tree.{Group, Leaf, Empty, Link}
use Rattle.object_model.specs.Step.{Plain, PlainLinks, Object, Dataset, Soft, Other, shown_of, lines_of, count, stat_of}
use Rattle.script.specs.Print.{HasText}
use Rattle.file_model.specs.Objects.{fill_bytes}
use Rattle.tree_nodes.specs.declared.node.Node.{Node}
use Rattle.tree_nodes.specs.declared.node.Node.TheVariants as node
use Rattle.tree_nodes.specs.declared.node.NodeId.{NodeId}
use Rattle.tree_nodes.specs.declared.tree.ObjectTree.{ObjectTree}
use Rattle.tree_nodes.specs.Nodes.{Kept, is_group}
use Rattle.tree_nodes.specs.Entries.{entry_of}
use Rattle.tree_nodes.specs.Shown.{Keyed, KeyedLinks, key_of, node_of, links_of, child_links, AreKept, AreKeptBelow}
use Rattle.tree_nodes.proofs.ChangeLemmas.{kept_first}
use Rattle.header_reader.specs.Told.{IsSoundNode}
use Rattle.tree_answers.specs.Shown.{ShowsObject, ShowsPlain, ShowsLinks}
use Rattle.tree_answers.specs.Kept.{IsAt, stat_by, shown_by, shown_in, line_by}
use Rattle.tree_answers.proofs.Places.{kept_at}

-- ---- links

group_by : (n : Node) → is_group n ≡ true → shown_by n ≡ shown.Group
group_by (node.Group header tree heap) is = refl
group_by (node.Dataset header shape elem fill layout filtered) is = cc
group_by (node.Soft text) is = cc
group_by (node.Other header) is = cc

object_by : (n : Node) (o : Object) → ShowsObject n o → shown_by n ≡ shown_of (Leaf o)
object_by (node.Group header tree heap) o h = absurd h
object_by (node.Dataset header shape elem fill layout filtered) (Dataset d) h = refl
object_by (node.Dataset header shape elem fill layout filtered) (Soft target) h = absurd h
object_by (node.Dataset header shape elem fill layout filtered) Other h = absurd h
object_by (node.Soft text) (Dataset d) h = absurd h
object_by (node.Soft text) (Soft target) h = ap shown.Soft h
object_by (node.Soft text) Other h = absurd h
object_by (node.Other header) (Dataset d) h = absurd h
object_by (node.Other header) (Soft target) h = absurd h
object_by (node.Other header) Other h = refl

same_shown : (at : ℕ → Option Kept) (k : Keyed) (t : Plain) → AreKept at k → ShowsPlain k t → shown_by (node_of k) ≡ shown_of t
same_shown at (Group x ks) (Group g ls) nodes h = group_by x.node nodes.0
same_shown at (Group x ks) (Leaf o) nodes h = absurd h
same_shown at (Leaf x) (Group g ls) nodes h = absurd h
same_shown at (Leaf x) (Leaf o) nodes h = object_by x.node o h

same_lines : (kept : ObjectTree) (ks : KeyedLinks) (ls : PlainLinks) → AreKeptBelow (entry_of kept) ks → ShowsLinks ks ls → map (line_by kept) (child_links ks) ≡ lines_of ls
same_lines kept Empty Empty nodes h = refl
same_lines kept Empty (Link m t more) nodes h = absurd h
same_lines kept (Link n k rest) Empty nodes h = absurd h
same_lines kept (Link n k rest) (Link m t more) nodes h =
    let there : shown_in (entry_of kept (key_of k)) ≡ shown_of t = ap shown_in (kept_first (entry_of kept) k nodes.0) ∙ same_shown (entry_of kept) k t nodes.0 h.1 in
    let later = same_lines kept rest more nodes.1 h.2 in
    let name : n ≡ m = h.0 in
    cc

pub lines_at : (kept : ObjectTree) (id : NodeId) (e : Kept) → entry_of kept id.key ≡ Some e → (ls : PlainLinks) → IsAt kept id (Group tt ls) → map (line_by kept) e.links ≡ lines_of ls
lines_at kept id e at ls h = ap (λ (x : Kept). map (line_by kept) x.links) (kept_at kept id (Group tt ls) h e at) ∙ go h.keyed h.nodes h.same
  where
    go : (k : Keyed) → AreKept (entry_of kept) k → ShowsPlain k (Group tt ls) → map (line_by kept) (links_of k) ≡ lines_of ls
    go (Group x ks) nodes same = same_lines kept ks ls nodes.2 same
    go (Leaf x) nodes same = absurd same

-- ---- what a node is

same_count : (ks : KeyedLinks) (ls : PlainLinks) → ShowsLinks ks ls → length (child_links ks) ≡ count ls
same_count Empty Empty h = refl
same_count Empty (Link m t more) h = absurd h
same_count (Link n k rest) Empty h = absurd h
same_count (Link n k rest) (Link m t more) h = let later = same_count rest more h.2 in omega (arith, later)

group_stat : (n : Node) (links : ℕ) → is_group n ≡ true → stat_by n links ≡ answer.Group links
group_stat (node.Group header tree heap) links is = refl
group_stat (node.Dataset header shape elem fill layout filtered) links is = cc
group_stat (node.Soft text) links is = cc
group_stat (node.Other header) links is = cc

object_stat : (n : Node) (o : Object) (links : ℕ) → ShowsObject n o → stat_by n links ≡ stat_of (Leaf o)
object_stat (node.Group header tree heap) o links h = absurd h
object_stat (node.Dataset header shape elem fill layout filtered) (Dataset d) links h = cc (h.elem, h.dims, h.max, h.chunk, h.fill, h.filtered)
object_stat (node.Dataset header shape elem fill layout filtered) (Soft target) links h = absurd h
object_stat (node.Dataset header shape elem fill layout filtered) Other links h = absurd h
object_stat (node.Soft text) (Dataset d) links h = absurd h
object_stat (node.Soft text) (Soft target) links h = ap answer.Soft h
object_stat (node.Soft text) Other links h = absurd h
object_stat (node.Other header) (Dataset d) links h = absurd h
object_stat (node.Other header) (Soft target) links h = absurd h
object_stat (node.Other header) Other links h = refl

same_stat : (at : ℕ → Option Kept) (k : Keyed) (t : Plain) → AreKept at k → ShowsPlain k t → stat_by (node_of k) (length (links_of k)) ≡ stat_of t
same_stat at (Group x ks) (Group g ls) nodes h = group_stat x.node (length (child_links ks)) nodes.0 ∙ ap answer.Group (same_count ks ls h)
same_stat at (Group x ks) (Leaf o) nodes h = absurd h
same_stat at (Leaf x) (Group g ls) nodes h = absurd h
same_stat at (Leaf x) (Leaf o) nodes h = object_stat x.node o 0 h

pub stat_at : (kept : ObjectTree) (id : NodeId) (e : Kept) → entry_of kept id.key ≡ Some e → (t : Plain) → IsAt kept id t → stat_by e.node (length e.links) ≡ stat_of t
stat_at kept id e at t h = ap (λ (x : Kept). stat_by x.node (length x.links)) (kept_at kept id t h e at) ∙ same_stat (entry_of kept) h.keyed t h.nodes h.same

-- ---- texts

filled : (size : ℕ) (f : Fill) → IsOfSize size f → length (fill_bytes size f) ≡ size
filled size fill.Zeros h = length-replicate size 0
filled size (fill.Value bytes) h = h

pub text_by : (n : Node) (links : ℕ) → IsSoundNode n → HasText (stat_by n links)
text_by (node.Group header tree heap) links h = tt
text_by (node.Dataset header shape elem fill layout filtered) links h = (h.elem_is, filled (size_of elem) fill h.fill_is)
text_by (node.Soft text) links h = tt
text_by (node.Other header) links h = tt

-- ---- lines so far

pub one_more : {T E : Type 0} (r : Result T E) (xs old new : List LinkLine) (k : ℕ) (x : LinkLine) → is_err r ≡ false → new ≡ (if is_ok r then old ++ x ∷ [] else old) → old ≡ take k xs → slice_get xs k ≡ Some x → new ≡ take (k + 1) xs
one_more (Ok done) xs old new k x ok pushed before is =
    let got : get_or xs k x ≡ x = get_or_from_slice_get xs k x x is in
    let more = take_more xs k x (slice_get_within xs k x is) in
    pushed ∙ ap (λ (l : List LinkLine). l ++ x ∷ []) before ∙ sym (more ∙ ap (λ (y : LinkLine). take k xs ++ y ∷ []) got)
one_more (Err stop) xs old new k x ok pushed before is = absurd cc
