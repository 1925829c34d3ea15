-- A path leads to the same in a file's tree and in the tree of the nodes that match it.
use Rattle.std.proofs.Common.{◌≡◌, Bool, true, false, cond, List, [], ◌∷◌, Option, Some, None, Result, Ok, Err, IfOk, ok_or, refl, sym, ap, ◌∙◌, subst}
use Rattle.outside.specs.Array.{Array}
use Rattle.outside.specs.Blocks.{Bounds}
use Rattle.outside.specs.Space.{SpaceView, bounds_of}
use Rattle.h5_base.specs.declared.refusal.Stop.{Stop}
use Rattle.h5_base.specs.Refusals.{refusal_of}
use Rattle.super_codec.specs.declared.superblock.Superblock.{Superblock}
use Rattle.object_model.specs.declared.answer.Code.TheVariants.{Absent}
use Rattle.object_model.specs.Tree.{Group, Leaf, Empty, Link, Name, same_name, find, walk, ◌>>=◌}
use Rattle.file_model.specs.Holds.{GroupAt, LeafAt, DataLeaf, SoftLeaf, OtherLeaf, Full, FullLinks, HoldsFull}
use Rattle.file_model.specs.Limits.{IsWithinLimits}
use Rattle.file_model.specs.Laws.{all_blocks}
use Rattle.file_model.proofs.UniqueTree.{one_full}
use Rattle.tree_nodes.specs.declared.node.Node.{Node}
use Rattle.tree_nodes.specs.declared.node.Node.TheVariants as node
use Rattle.tree_nodes.specs.declared.tree.ObjectTree.{ObjectTree}
use Rattle.tree_nodes.specs.Entries.{superblock_of}
use Rattle.tree_nodes.specs.Shown.{Keyed, KeyedLinks, Shows, node_of}
use Rattle.object_tree.specs.Opened.{IsGroupNode, IsLeafNode, Matches, MatchesLinks, IsOpened}
use Rattle.space_example.specs.declared.looking.Found.{Found}
use Rattle.space_example.specs.declared.looking.Found.TheVariants as found
use Rattle.space_example.specs.Lookup.{IsFileTree, there, leaf_there, told, looked, reached, reached_node}

group_told : (n : Node) (g : GroupAt) → IsGroupNode n g → told n ≡ found.Group g.header_at
group_told (node.Group header tree heap) g h = ap found.Group h.0
group_told (node.Dataset header shape elem fill layout filtered) g h = absurd h
group_told (node.Soft text) g h = absurd h
group_told (node.Other header) g h = absurd h

leaf_told : (n : Node) (l : LeafAt) → IsLeafNode n l → told n ≡ leaf_there l
leaf_told (node.Group header tree heap) (DataLeaf d) h = absurd h
leaf_told (node.Dataset header shape elem fill layout filtered) (DataLeaf d) h = (λ j. found.Dataset (h.0 j) (h.2 j) (h.5 j))
leaf_told (node.Soft text) (DataLeaf d) h = absurd h
leaf_told (node.Other header) (DataLeaf d) h = absurd h
leaf_told n (SoftLeaf text) h = ap told h
leaf_told n (OtherLeaf o) h = ap told h

told_there : (t : Keyed) (u : Full) → Matches t u → told (node_of t) ≡ there u
told_there (Group x kls) (Group g ls) h = group_told x.node g h.0
told_there (Group x kls) (Leaf l) h = absurd h
told_there (Leaf x) (Group g ls) h = absurd h
told_there (Leaf x) (Leaf l) h = leaf_told x.node l h

-- both or none, and these match
abbrev AreBoth : Option Keyed → Option Full → Type 0
AreBoth None None = Unit {0}
AreBoth None (Some u) = ⊥
AreBoth (Some t) None = ⊥
AreBoth (Some t) (Some u) = Matches t u

find_both : (kls : KeyedLinks) (ls : FullLinks) (n : Name) → MatchesLinks kls ls → AreBoth (find kls n) (find ls n)
find_both Empty Empty n h = tt
find_both Empty (Link m u rest) n h = absurd h
find_both (Link m t rest) Empty n h = absurd h
find_both (Link m t rest) (Link k u more) n h =
    subst (λ (x : Name). AreBoth (find (Link m t rest) n) (find (Link x u more) n)) h.0 (go (same_name m n) (find_both rest more n h.2))
  where
    go : (b : Bool) → AreBoth (find rest n) (find more n) → AreBoth (cond b (Some t) (find rest n)) (cond b (Some u) (find more n))
    go true later = h.1
    go false later = later

same_reached : (p : List Name) (t : Keyed) (u : Full) → Matches t u → reached_node (walk t p) ≡ reached (walk u p)
same_reached [] t u h = ap Some (told_there t u h)
same_reached (n ∷ ns) (Group x kls) (Group g ls) h = go (find kls n) (find ls n) (find_both kls ls n h.1) (same_reached ns)
  where
    go : (a : Option Keyed) (b : Option Full) → AreBoth a b → ((v : Keyed) (w : Full) → Matches v w → reached_node (walk v ns) ≡ reached (walk w ns)) → reached_node (ok_or a Absent >>= λ v. walk v ns) ≡ reached (ok_or b Absent >>= λ w. walk w ns)
    go None None m next = refl
    go None (Some w) m next = absurd m
    go (Some v) None m next = absurd m
    go (Some v) (Some w) m next = next v w m
same_reached (n ∷ ns) (Group x kls) (Leaf l) h = absurd h
same_reached (n ∷ ns) (Leaf x) (Group g ls) h = absurd h
same_reached (n ∷ ns) (Leaf x) (Leaf l) h = refl

-- the tree of an opened file, and what a path leads to in it
file_tree : (b : Array) (e : Bounds) (kept : ObjectTree) → (o : IsOpened b e kept) → IsFileTree b e (Group o.root o.links)
file_tree b e kept o = record { superblock = superblock_of kept; root = o.root; links = o.links; full = o.full; tree = refl }

abbrev LooksUp : ObjectTree → List Name → Option Found → Type 0
LooksUp kept p o = (t : Keyed) → Shows kept t → o ≡ reached_node (walk t p)

looked_up : (b : Array) (e : Bounds) (kept : ObjectTree) (p : List Name) (o : Option Found) (h : IsOpened b e kept) → LooksUp kept p o → o ≡ looked (Group h.root h.links) p
looked_up b e kept p o h look = look h.tree h.shown ∙ same_reached p h.tree (Group h.root h.links) h.same

one_tree : (b : Array) (e : Bounds) (t u : Full) → IsFileTree b e t → IsFileTree b e u → t ≡ u
one_tree b e t u x y = x.tree ∙ (one_full b e x.superblock y.superblock x.root y.root x.links y.links x.full y.full).1 ∙ sym y.tree

pub all_found : {E : Type 0} (b : Array) (e : Bounds) (kept : ObjectTree) (p : List Name) (r : Result (Option Found) E) → IsOpened b e kept → IfOk r (LooksUp kept p)
    → IfOk r (λ o. (t : Full) × IsFileTree b e t × (o ≡ looked t p))
all_found b e kept p (Ok o) h look = (Group h.root h.links, file_tree b e kept h, looked_up b e kept p o h look)
all_found b e kept p (Err x) h look = tt

pub all_there : {E : Type 0} (b : Array) (e : Bounds) (kept : ObjectTree) (p : List Name) (r : Result (Option Found) E) → IsOpened b e kept → IfOk r (LooksUp kept p)
    → IfOk r (λ o. (t : Full) → IsFileTree b e t → o ≡ looked t p)
all_there b e kept p (Ok o) h look = λ t is. looked_up b e kept p o h look ∙ ap (λ (u : Full). looked u p) (one_tree b e (Group h.root h.links) t (file_tree b e kept h) is)
all_there b e kept p (Err x) h look = tt

-- ---- the same over the space that was handed in

pub opened_over : {V : Type 0} (view : V → SpaceView) (a b : V) (kept : ObjectTree) → a ≡ b → IsOpened (view a).array (bounds_of (view a) None) kept → IsOpened (view b).array (bounds_of (view b) None) kept
opened_over {V = V} view a b kept same h = subst (λ (s : V). IsOpened (view s).array (bounds_of (view s) None) kept) same h

-- a file whose tree is held within the limits isn't refused so
abbrev NeverStops : SpaceView → Stop → Type 0
NeverStops v stop =
    (s : Superblock) (g : GroupAt) (ls : FullLinks) (h : HoldsFull v.array (bounds_of v None) s g ls) → IsWithinLimits v.array (all_blocks s h.driver (Group g ls)) (Group g ls) → refusal_of stop ≡ None

pub never_over : {V : Type 0} (view : V → SpaceView) (a b : V) (stop : Stop) → a ≡ b → NeverStops (view a) stop → NeverStops (view b) stop
never_over {V = V} view a b stop same h = subst (λ (s : V). NeverStops (view s) stop) same h
