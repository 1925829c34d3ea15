-- The links of a group that were read so far, each with all below it.
use Rattle.std.proofs.Common.{◌≡◌, ℕ, ◌+◌, ◌≤◌, List, length, [], ◌∷◌, ◌++◌, map, Option, IfSome, refl, sym, ◌∙◌, ap, subst, arith, inl, inr}
use Rattle.std.proofs.lemmas.List.{append_assoc, append-nil, map-append}
use Rattle.outside.specs.Array.{Array}
use Rattle.outside.specs.Blocks.{Block, Bounds, AreTaken}
use Rattle.outside.proofs.Taken.{taken_first, taken_rest}
use Rattle.outside.specs.Space.{SpaceView, bounds_of}
use Rattle.block_space.specs.Blocks.{Keeps, space_of}
use Rattle.block_space.proofs.Taken.{taken_over}
use Rattle.block_space.specs.declared.blocks.Blocks.{Blocks}
use Rattle.h5_base.specs.declared.refusal.Stop.{Stop}
use Rattle.h5_base.specs.Refusals.{refusal_of}
use Rattle.block_space.proofs.Stopped.{if_some}
use Rattle.object_model.specs.Tree.{Empty, Link, Group, Leaf, Name, names, AreOrdered}
use Rattle.file_model.specs.Groups.{Ks, Found}
use Rattle.file_model.specs.Holds.{LeafAt, DataLeaf, SoftLeaf, OtherLeaf, Full, FullLinks, AreHeld, IsHeld, founds, blocks_in, blocks_of, target_of as full_target}
use Rattle.file_model.specs.Limits.{Fits, AllFit, depth_in, depth_to, objects_of as full_objects, objects_in, leaf_objects}
use Rattle.h5_base.specs.declared.refusal.Refusal.{Refusal}
use Rattle.file_model.specs.RefusedTree.{RefusedObject, IsTargetRefused, AreLinksRefused, IsObjectRefused, WasOpened}
use Rattle.group_reader.specs.declared.link.FoundLink.{FoundLink}
use Rattle.group_reader.specs.Links.{found_of, target_of}
use Rattle.tree_nodes.specs.declared.node.Node.{Node}
use Rattle.tree_nodes.specs.declared.node.Node.TheVariants as node
use Rattle.tree_nodes.specs.declared.node.NodeId.{NodeId}
use Rattle.tree_nodes.specs.declared.tree.ObjectTree.{ObjectTree}
use Rattle.tree_nodes.specs.Nodes.{objects_at}
use Rattle.tree_nodes.specs.Entries.{object_count, LacksLink}
use Rattle.tree_nodes.specs.Shown.{Keyed, KeyedLinks, objects_of, objects_below}
use Rattle.object_tree.specs.Opened.{IsGroupNode, IsLeafNode, Matches, MatchesLinks}
use Rattle.object_tree.specs.Grown.{Grows, LinksAscend, IsBareGroup, AreOpened, IsOpenedAt}
use Rattle.object_tree.proofs.Growth.{last_link, names-last, lacks_next, ascend_next}

-- the names of links that were read
abbrev pub names_in : List FoundLink → List Name
names_in = map (λ x. x.name)

front_ordered : (ms : List Name) (n : Name) (ns : List Name) → AreOrdered (ms ++ n ∷ ns) → AreOrdered (ms ++ n ∷ [])
front_ordered [] n ns h = (tt, tt)
front_ordered (m ∷ []) n ns h = (h.0, (tt, tt))
front_ordered (m ∷ k ∷ ms) n ns h = (h.0, front_ordered (k ∷ ms) n ns h.1)

-- the names up to the next link's ascend
pub next_ordered : (items ys : List FoundLink) (x : FoundLink) (rest : List FoundLink) → items ≡ ys ++ x ∷ rest → AreOrdered (names_in items) → AreOrdered (names_in ys ++ x.name ∷ [])
next_ordered items ys x rest is h = front_ordered (names_in ys) x.name (names_in rest) (subst AreOrdered (ap names_in is ∙ map-append (λ y. y.name) ys (x ∷ rest)) h)

pub next_link : (items ys left : List FoundLink) (x : FoundLink) (rest : List FoundLink) → items ≡ ys ++ left → left ≡ x ∷ rest → items ≡ ys ++ x ∷ rest
next_link items ys left x rest is first = is ∙ ap (λ (l : List FoundLink). ys ++ l) first

-- nothing is left
pub all_links : (items ys left : List FoundLink) (len : ℕ) → items ≡ ys ++ left → len ≡ length left → len ≡ 0 → ys ≡ items
all_links items ys [] len is size none = sym (is ∙ append-nil ys)
all_links items ys (x ∷ xs) len is size none = absurd (omega (arith, size, none))

-- what is so far in the tree
abbrev pub GrownSoFar : (old mid : ObjectTree) → ℕ → List FoundLink → KeyedLinks → Type 0
GrownSoFar old mid key ys kls = Grows old mid key kls × (names kls ≡ names_in ys)

pub lacks_link : (old mid : ObjectTree) (id : NodeId) (items ys : List FoundLink) (x : FoundLink) (rest : List FoundLink) (kls : KeyedLinks) → Grows old mid id.key kls → names kls ≡ names_in ys → IsBareGroup old id.key
    → items ≡ ys ++ x ∷ rest → AreOrdered (names_in items) → LacksLink mid id x.name
lacks_link old mid id items ys x rest kls h same bare is ordered =
    lacks_next old mid id kls x.name h bare (subst (λ (l : List Name). AreOrdered (l ++ x.name ∷ [])) (sym same) (next_ordered items ys x rest is ordered))

-- ---- what is held of the links so far

held_last : (b : Array) (ks : Ks) (ls : FullLinks) (n : Name) (u : Full) → AreHeld b ks ls → IsHeld b ks u → AreHeld b ks (last_link ls n u)
held_last b ks Empty n u h k = (k, tt)
held_last b ks (Link m v rest) n u h k = (h.0, held_last b ks rest n u h.1 k)

fit_last : (b : Array) (ls : FullLinks) (n : Name) (u : Full) → AllFit b ls → Fits b u → AllFit b (last_link ls n u)
fit_last b Empty n u h k = (k, tt)
fit_last b (Link m v rest) n u h k = (h.0, fit_last b rest n u h.1 k)

depth_last : (levels : ℕ) (ls : FullLinks) (n : Name) (u : Full) → depth_in ls ≤ levels → depth_to u ≤ levels → depth_in (last_link ls n u) ≤ levels
depth_last levels Empty n u h k = omega (arith, k)
depth_last levels (Link m v rest) n u h k = let later = depth_last levels rest n u (omega (arith, h)) k in omega (arith, h, later)

same_last : (kls : KeyedLinks) (ls : FullLinks) (n : Name) (t : Keyed) (u : Full) → MatchesLinks kls ls → Matches t u → MatchesLinks (last_link kls n t) (last_link ls n u)
same_last Empty Empty n t u h k = (refl, k, tt)
same_last Empty (Link m v rest) n t u h k = absurd h
same_last (Link m v rest) Empty n t u h k = absurd h
same_last (Link m v rest) (Link o w more) n t u h k = (h.0, h.1, same_last rest more n t u h.2 k)

founds_last : (ls : FullLinks) (n : Name) (u : Full) → founds (last_link ls n u) ≡ founds ls ++ record { name = n; target = full_target u } ∷ []
founds_last Empty n u = refl
founds_last (Link m v rest) n u = ap (λ (l : List Found). record { name = m; target = full_target v } ∷ l) (founds_last rest n u)

blocks_last : (ls : FullLinks) (n : Name) (u : Full) → blocks_in (last_link ls n u) ≡ blocks_in ls ++ blocks_of u
blocks_last Empty n u = append-nil (blocks_of u)
blocks_last (Link m v rest) n u = ap (λ (l : List Block). blocks_of v ++ l) (blocks_last rest n u) ∙ sym (append_assoc (blocks_of v) (blocks_in rest) (blocks_of u))

-- as many objects in the tree as in the file
leaf_count : (n : Node) (l : LeafAt) → IsLeafNode n l → objects_at n ≡ leaf_objects l
leaf_count (node.Group header tree heap) (DataLeaf d) h = absurd h
leaf_count (node.Dataset header shape elem fill layout filtered) (DataLeaf d) h = refl
leaf_count (node.Soft text) (DataLeaf d) h = absurd h
leaf_count (node.Other header) (DataLeaf d) h = absurd h
leaf_count n (SoftLeaf text) h = ap objects_at h
leaf_count n (OtherLeaf o) h = ap objects_at h

group_count : (n : Node) (g : _) → IsGroupNode n g → objects_at n ≡ 1
group_count (node.Group header tree heap) g h = refl
group_count (node.Dataset header shape elem fill layout filtered) g h = absurd h
group_count (node.Soft text) g h = absurd h
group_count (node.Other header) g h = absurd h

mutual
  pub count_same : (t : Keyed) (u : Full) → Matches t u → objects_of t ≡ full_objects u
  count_same (Group x kls) (Group g ls) h = let own = group_count x.node g h.0 in let below = counts_same kls ls h.1 in omega (arith, own, below)
  count_same (Group x kls) (Leaf l) h = absurd h
  count_same (Leaf x) (Group g ls) h = absurd h
  count_same (Leaf x) (Leaf l) h = leaf_count x.node l h

  pub counts_same : (kls : KeyedLinks) (ls : FullLinks) → MatchesLinks kls ls → objects_below kls ≡ objects_in ls
  counts_same Empty Empty h = refl
  counts_same Empty (Link m v rest) h = absurd h
  counts_same (Link n t rest) Empty h = absurd h
  counts_same (Link n t rest) (Link m v more) h = let one = count_same t v h.1 in let later = counts_same rest more h.2 in omega (arith, one, later)

abbrev pub SoFar : {V : Type 0} → (V → SpaceView) → (old now : Blocks V) → Array → Ks → ℕ → KeyedLinks → List Found → Type 0
SoFar view old now b ks levels kls fs = (met : List Block) → Keeps view old met → (ls : FullLinks) × AreOpened b ks levels kls ls × (founds ls ≡ fs) × Keeps view now (met ++ blocks_in ls)

pub so_far_none : {V : Type 0} (view : V → SpaceView) (blocks : Blocks V) (b : Array) (ks : Ks) (levels : ℕ) → SoFar view blocks blocks b ks levels Empty []
so_far_none view blocks b ks levels met keeps = (Empty, record { held = tt; fit = tt; depth = omega arith; same = tt }, refl, subst (Keeps view blocks) (sym (append-nil met)) keeps)

pub so_far_more : {V : Type 0} (view : V → SpaceView) (old mid new : Blocks V) (b c : Array) (ks : Ks) (levels : ℕ) (kls : KeyedLinks) (ys : List FoundLink) (x : FoundLink) (t : Keyed) → b ≡ c
    → SoFar view old mid b ks levels kls (map found_of ys)
    → ((met : List Block) → Keeps view mid met → (u : Full) × IsOpenedAt c ks levels (target_of x.target) t u × Keeps view new (met ++ blocks_of u))
    → SoFar view old new b ks levels (last_link kls x.name t) (map found_of (ys ++ x ∷ []))
so_far_more view old mid new b c ks levels kls ys x t same first next met keeps =
    let (ls, opened, is, kept) = first met keeps in
    let (u, one, kept') = next (met ++ blocks_in ls) kept in
    let held : IsHeld b ks u = subst (λ (a : Array). IsHeld a ks u) (sym same) one.held in
    let fits : Fits b u = subst (λ (a : Array). Fits a u) (sym same) one.fits in
    let blocks : (met ++ blocks_in ls) ++ blocks_of u ≡ met ++ blocks_in (last_link ls x.name u) =
    append_assoc met (blocks_in ls) (blocks_of u) ∙ ap (λ (l : List Block). met ++ l) (sym (blocks_last ls x.name u)) in (
      last_link ls x.name u,
      record {
        held = held_last b ks ls x.name u opened.held held;
        fit = fit_last b ls x.name u opened.fit fits;
        depth = depth_last levels ls x.name u opened.depth one.depth;
        same = same_last kls ls x.name t u opened.same one.same;
      },
      founds_last ls x.name u ∙ (λ j. is j ++ record { name = x.name; target = one.target_is j } ∷ []) ∙ sym (map-append found_of ys (x ∷ [])),
      subst (Keeps view new) blocks kept',
    )

-- ---- refusals

-- a refusal behind links that were read
pub refused_later : (Refused : RefusedObject) (b : Array) (e : Bounds) (ks : Ks) (levels objects : ℕ) (met : List Block) (ls : FullLinks) (fs : List Found) (r : Refusal)
    → AreHeld b ks ls → AllFit b ls → depth_in ls ≤ levels → objects + objects_in ls ≤ 65536 → AreTaken e met (blocks_in ls)
    → AreLinksRefused Refused b e ks levels (objects + objects_in ls) (met ++ blocks_in ls) fs r → AreLinksRefused Refused b e ks levels objects met (founds ls ++ fs) r
refused_later Refused b e ks levels objects met Empty fs r held fit depth few taken x =
    let none : objects + 0 ≡ objects = omega arith in
    subst (λ (n : ℕ). AreLinksRefused Refused b e ks levels n met fs r) none (subst (λ (l : List Block). AreLinksRefused Refused b e ks levels (objects + 0) l fs r) (append-nil met) x)
refused_later Refused b e ks levels objects met (Link n t rest) fs r held fit depth few taken x =
    let count : objects + (full_objects t + objects_in rest) ≡ (objects + full_objects t) + objects_in rest = omega arith in
    let x' = subst (λ (k : ℕ). AreLinksRefused Refused b e ks levels k (met ++ (blocks_of t ++ blocks_in rest)) fs r) count x in
    let x'' = subst (λ (l : List Block). AreLinksRefused Refused b e ks levels ((objects + full_objects t) + objects_in rest) l fs r) (sym (append_assoc met (blocks_of t) (blocks_in rest))) x' in
    let opened : WasOpened b e ks levels objects met t = record {
      held = held.0;
      taken = taken_first e met (blocks_of t) (blocks_in rest) taken;
      depth = omega (arith, depth);
      few = omega (arith, few);
      fits = fit.0;
    } in
    inr (
      t,
      opened,
      refl,
      refused_later Refused b e ks levels (objects + full_objects t) (met ++ blocks_of t) rest fs r held.1 fit.1 (omega (arith, depth)) (omega (arith, few))
          (taken_rest e met (blocks_of t) (blocks_in rest) taken) x'',
    )

pub refused_next : {V : Type 0} (view : V → SpaceView) (old mid : Blocks V) (v w : SpaceView) (ks : Ks) (levels : ℕ) (before now : ObjectTree) (key : ℕ) (kls : KeyedLinks) (items ys : List FoundLink) (x : FoundLink) (rest : List FoundLink)
    (stop : Stop) → v ≡ w → v ≡ view (space_of mid) → object_count now ≤ 65536 → items ≡ ys ++ x ∷ rest → Grows before now key kls → SoFar view old mid v.array ks levels kls (map found_of ys)
    → ((met : List Block) (own : Option (List ℕ)) → Keeps view mid met → IfSome (refusal_of stop) (IsTargetRefused (IsObjectRefused w.array (bounds_of w own) ks levels) (object_count now) met (target_of x.target)))
    → (met : List Block) (own : Option (List ℕ)) → Keeps view old met
    → IfSome (refusal_of stop) (AreLinksRefused (IsObjectRefused v.array (bounds_of v own) ks levels) v.array (bounds_of v own) ks levels (object_count before) met (map found_of items))
refused_next view old mid v w ks levels before now key kls items ys x rest stop same here most is grows first next met own keeps =
    let (ls, opened, fs, kept) = first met keeps in
    let e = bounds_of v own in
    let Refused : RefusedObject = IsObjectRefused v.array e ks levels in
    let h : IfSome (refusal_of stop) (IsTargetRefused Refused (object_count now) (met ++ blocks_in ls) (target_of x.target)) =
    subst (λ (a : SpaceView). IfSome (refusal_of stop) (IsTargetRefused (IsObjectRefused a.array (bounds_of a own) ks levels) (object_count now) (met ++ blocks_in ls) (target_of x.target))) (sym same) (next (met ++ blocks_in ls) own kept) in
    let count : object_count now ≡ object_count before + objects_in ls = grows.objects ∙ ap (λ (k : ℕ). object_count before + k) (counts_same kls ls opened.same) in
    let list : founds ls ++ map found_of (x ∷ rest) ≡ map found_of items = ap (λ (l : List Found). l ++ map found_of (x ∷ rest)) fs ∙ sym (map-append found_of ys (x ∷ rest)) ∙ ap (map found_of) (sym is) in
    if_some (refusal_of stop) (IsTargetRefused Refused (object_count now) (met ++ blocks_in ls) (target_of x.target)) (AreLinksRefused Refused v.array e ks levels (object_count before) met (map found_of items))
    (λ r y. subst (λ (l : List Found). AreLinksRefused Refused v.array e ks levels (object_count before) met l r) list
    (refused_later Refused v.array e ks levels (object_count before) met ls (map found_of (x ∷ rest)) r opened.held opened.fit opened.depth (omega (arith, count, most))
    (taken_over view mid v met (blocks_in ls) own here kept)
    (inl (subst (λ (k : ℕ). IsTargetRefused Refused k (met ++ blocks_in ls) (target_of x.target) r) count y)))) h

-- the names with one more ascend, and are those of the links with one more
pub names_more : (items ys : List FoundLink) (x : FoundLink) (rest : List FoundLink) (kls : KeyedLinks) → names kls ≡ names_in ys → items ≡ ys ++ x ∷ rest → AreOrdered (names_in items)
    → AreOrdered (names kls ++ x.name ∷ []) × ((t : Keyed) → names (last_link kls x.name t) ≡ names_in (ys ++ x ∷ []))
names_more items ys x rest kls same is ordered = (
  subst (λ (l : List Name). AreOrdered (l ++ x.name ∷ [])) (sym same) (next_ordered items ys x rest is ordered),
  λ t. names-last kls x.name t ∙ ap (λ (l : List Name). l ++ x.name ∷ []) same ∙ sym (map-append (λ (y : FoundLink). y.name) ys (x ∷ [])),
)

pub ascend_link : (old mid : ObjectTree) (id : NodeId) (items ys : List FoundLink) (x : FoundLink) (rest : List FoundLink) (kls : KeyedLinks) → Grows old mid id.key kls → names kls ≡ names_in ys → IsBareGroup old id.key
    → items ≡ ys ++ x ∷ rest → AreOrdered (names_in items) → LinksAscend mid id.key
ascend_link old mid id items ys x rest kls h same bare is ordered =
    ascend_next old mid id.key kls x.name h bare (subst (λ (l : List Name). AreOrdered (l ++ x.name ∷ [])) (sym same) (next_ordered items ys x rest is ordered))
