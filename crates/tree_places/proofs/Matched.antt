-- A tree with keys and a tree of places that match: what is found in both, and what edits leave.
use Rattle.std.proofs.Common.{◌≡◌, Bool, true, false, cond, List, [], ◌∷◌, Option, Some, None, is_some, Result, Ok}
use Rattle.std.proofs.Common.{Err, ok_or, refl, sym, ap, ◌∙◌, subst}
use Rattle.object_model.specs.declared.answer.Code.{Code}
use Rattle.object_model.specs.declared.answer.Code.TheVariants.{Absent, Exists, NotEmpty}
use Rattle.object_model.specs.Tree.{Group, Leaf, Empty, Link, Name, name_lt, same_name, find, child, walk, edit}
use Rattle.object_model.specs.Tree.{replace, insert, remove, dir_of, last_of, ◌>>=◌}
use Rattle.file_model.specs.Holds.{GroupAt, Full, FullLinks}
use Rattle.tree_nodes.specs.declared.node.Node.{Node}
use Rattle.tree_nodes.specs.declared.node.Node.TheVariants as node
use Rattle.tree_nodes.specs.declared.node.NodeId.{NodeId}
use Rattle.tree_nodes.specs.declared.tree.ObjectTree.{ObjectTree}
use Rattle.tree_nodes.specs.Entries.{entry_of}
use Rattle.tree_nodes.specs.Shown.{Keyed, KeyedLinks, Shows, AreKept}
use Rattle.tree_nodes.proofs.EditLemmas.{kept_walked}
use Rattle.object_tree.specs.Opened.{IsGroupNode, Matches, MatchesLinks}
use Rattle.tree_places.specs.Places.{regroup, has_children, lacking, loosely, to_add, to_remove}
use Rattle.tree_places.specs.Kept.{Agrees, Finds, FindsPlace, HasPlaces, IsSameGroup}
use Rattle.tree_places.specs.Laws.{MatchesWalk, MatchesToAdd, MatchesToRemove, MatchesEdit, MatchesAdd, MatchesRemove}
use Rattle.tree_places.specs.Laws.{OpenedPlaces}

-- ---- what is found

abbrev AreAlike : Option Keyed → Option Full → Type 0
AreAlike None None = Unit {0}
AreAlike None (Some t) = ⊥
AreAlike (Some k) None = ⊥
AreAlike (Some k) (Some t) = Matches k t

alike_found : (ks : KeyedLinks) (ls : FullLinks) (n : Name) → MatchesLinks ks ls → AreAlike (find ks n) (find ls n)
alike_found Empty Empty n h = tt
alike_found Empty (Link m t more) n h = absurd h
alike_found (Link m k rest) Empty n h = absurd h
alike_found (Link m k rest) (Link o t more) n h =
    let later = alike_found rest more n h.2 in
    subst (λ (q : Name). AreAlike (find (Link m k rest) n) (find (Link q t more) n)) h.0
    (elim (same_name m n) as (λ b. AreAlike (cond b (Some k) (find rest n)) (cond b (Some t) (find more n))) [
      | true ↦ h.1
      | false ↦ later
    ])

agree_or : (a : Option Keyed) (b : Option Full) → AreAlike a b → Agrees (ok_or a Absent) (ok_or b Absent)
agree_or None None h = refl
agree_or None (Some t) h = absurd h
agree_or (Some k) None h = absurd h
agree_or (Some k) (Some t) h = h

agree_child : (k : Keyed) (t : Full) (n : Name) → Matches k t → Agrees (child k n) (child t n)
agree_child (Group x ks) (Group g ls) n h = agree_or (find ks n) (find ls n) (alike_found ks ls n h.1)
agree_child (Group x ks) (Leaf l) n h = absurd h
agree_child (Leaf x) (Group g ls) n h = absurd h
agree_child (Leaf x) (Leaf l) n h = refl

agree_then : (a : Result Keyed Code) (b : Result Full Code) (f : Keyed → Result Keyed Code) (g : Full
    → Result Full Code) → Agrees a b → ((x : Keyed) (y : Full) → Matches x y → Agrees (f x) (g y))
    → Agrees (a >>= f) (b >>= g)
agree_then (Ok x) (Ok y) f g h next = next x y h
agree_then (Ok x) (Err code) f g h next = absurd h
agree_then (Err code) (Ok y) f g h next = absurd h
agree_then (Err code) (Err other) f g h next = h

pub matches_walk : MatchesWalk
matches_walk [] k t h = h
matches_walk (n ∷ ns) k t h = agree_then (child k n) (child t n) (λ u. walk u ns) (λ u. walk u ns)
    (agree_child k t n h) (λ x y m. matches_walk ns x y m)

agree_lacking : (k : Keyed) (t : Full) (n : Name) → Matches k t → Agrees (lacking k n) (lacking t n)
agree_lacking (Group x ks) (Group g ls) n h = go (find ks n) (find ls n) (alike_found ks ls n h.1)
  where
    go : (a : Option Keyed) (b : Option Full) → AreAlike a b → Agrees (cond (is_some a) (Err Exists) (Ok
        (Group x ks))) (cond (is_some b) (Err Exists) (Ok (Group g ls)))
    go None None m = h
    go None (Some u) m = absurd m
    go (Some v) None m = absurd m
    go (Some v) (Some u) m = refl
agree_lacking (Group x ks) (Leaf l) n h = absurd h
agree_lacking (Leaf x) (Group g ls) n h = absurd h
agree_lacking (Leaf x) (Leaf l) n h = refl

agree_loose : (k : Keyed) (t : Full) (v : Keyed) (u : Full) → Matches k t → Matches v u
    → Agrees (cond (has_children v) (Err NotEmpty) (Ok k)) (cond (has_children u) (Err NotEmpty) (Ok t))
agree_loose k t (Group x Empty) (Group g Empty) h m = h
agree_loose k t (Group x Empty) (Group g (Link n u more)) h m = absurd m.1
agree_loose k t (Group x (Link n v rest)) (Group g Empty) h m = absurd m.1
agree_loose k t (Group x (Link n v rest)) (Group g (Link o u more)) h m = refl
agree_loose k t (Group x ks) (Leaf l) h m = absurd m
agree_loose k t (Leaf x) (Group g ls) h m = absurd m
agree_loose k t (Leaf x) (Leaf l) h m = h

agree_loosely : (k : Keyed) (t : Full) (n : Name) → Matches k t → Agrees (loosely k n) (loosely t n)
agree_loosely k t n h = agree_then (child k n) (child t n) _ _ (agree_child k t n h) (λ x y m. agree_loose k t x y h m)

pub matches_to_add : MatchesToAdd
matches_to_add p k t h = agree_then (walk k (dir_of p)) (walk t (dir_of p)) (λ u. lacking u (last_of p))
    (λ u. lacking u (last_of p)) (matches_walk (dir_of p) k t h) (λ x y m. agree_lacking x y (last_of p) m)

pub matches_to_remove : MatchesToRemove
matches_to_remove p k t h = agree_then (walk k (dir_of p)) (walk t (dir_of p)) (λ u. loosely u (last_of p))
    (λ u. loosely u (last_of p)) (matches_walk (dir_of p) k t h) (λ x y m. agree_loosely x y (last_of p) m)

-- ---- what is found in the tree of places

placed : (kept : ObjectTree) (a : Result Keyed Code) (b : Result Full Code) (r : Result NodeId Code) → Agrees a b
    → ((u : Keyed) → a ≡ Ok u → AreKept (entry_of kept) u) → Finds a r → FindsPlace kept b r
placed kept (Ok u) (Ok t) (Ok id) h nodes found = record { keyed = u; key = found; nodes = nodes u refl; same = h }
placed kept (Ok u) (Ok t) (Err code) h nodes found = absurd found
placed kept (Ok u) (Err code) r h nodes found = absurd h
placed kept (Err code) (Ok t) r h nodes found = absurd h
placed kept (Err code) (Err other) (Ok id) h nodes found = absurd found
placed kept (Err code) (Err other) (Err last) h nodes found = cc

-- a step that went on
went : (a : Result Keyed Code) (f : Keyed → Result Keyed Code) (y : Keyed) → (a >>= f) ≡ Ok y
    → (x : Keyed) × (a ≡ Ok x) × (f x ≡ Ok y)
went (Ok x) f y h = (x, refl, h)
went (Err code) f y h = absurd cc

lacking_same : (k y : Keyed) (n : Name) → lacking k n ≡ Ok y → k ≡ y
lacking_same (Group x ks) y n h = go (is_some (find ks n)) h
  where
    go : (b : Bool) → cond b (Err Exists) (Ok (Group x ks)) ≡ Ok y → Group x ks ≡ y
    go true q = absurd cc
    go false q = cc
lacking_same (Leaf x) y n h = absurd cc

loosely_same : (k y : Keyed) (n : Name) → loosely k n ≡ Ok y → k ≡ y
loosely_same k y n h =
    let (v, leads, is) = went (child k n) (λ old. cond (has_children old) (Err NotEmpty) (Ok k)) y h in
    go (has_children v) is
  where
    go : (b : Bool) → cond b (Err NotEmpty) (Ok k) ≡ Ok y → k ≡ y
    go true q = absurd cc
    go false q = cc

pub found_walk : (kept : ObjectTree) (p : List Name) (r : Result NodeId Code) → ((k : Keyed) → Shows kept k
    → Finds (walk k p) r) → (t : Full) → HasPlaces kept t → FindsPlace kept (walk t p) r
found_walk kept p r found t h =
    placed kept (walk h.keyed p) (walk t p) r (matches_walk p h.keyed t h.same) (λ u w. kept_walked
    (entry_of kept) p h.keyed u w h.shown.nodes) (found h.keyed h.shown)

-- what is found at the end of a walk is kept
kept_then : (kept : ObjectTree) (p : List Name) (k u : Keyed) (f : Keyed → Result Keyed Code) → Shows kept k
    → ((x y : Keyed) → f x ≡ Ok y → x ≡ y) → (walk k p >>= f) ≡ Ok u → AreKept (entry_of kept) u
kept_then kept p k u f shows same h =
    let (x, w, is) = went (walk k p) f u h in
    subst (AreKept (entry_of kept)) (same x u is) (kept_walked (entry_of kept) p k x w shows.nodes)

pub found_add : (kept : ObjectTree) (p : List Name) (r : Result NodeId Code) → ((k : Keyed) → Shows kept k
    → Finds (to_add k p) r) → (t : Full) → HasPlaces kept t → FindsPlace kept (to_add t p) r
found_add kept p r found t h =
    placed kept (to_add h.keyed p) (to_add t p) r (matches_to_add p h.keyed t h.same) (λ u is. kept_then kept
    (dir_of p) h.keyed u (λ x. lacking x (last_of p)) h.shown (λ x y e. lacking_same x y (last_of p) e) is)
    (found h.keyed h.shown)

pub found_remove : (kept : ObjectTree) (p : List Name) (r : Result NodeId Code) → ((k : Keyed) → Shows kept k
    → Finds (to_remove k p) r) → (t : Full) → HasPlaces kept t → FindsPlace kept (to_remove t p) r
found_remove kept p r found t h =
    placed kept (to_remove h.keyed p) (to_remove t p) r (matches_to_remove p h.keyed t h.same)
    (λ u is. kept_then kept (dir_of p) h.keyed u (λ x. loosely x (last_of p)) h.shown
    (λ x y e. loosely_same x y (last_of p) e) is) (found h.keyed h.shown)

-- ---- edits

matches_replace : (ks : KeyedLinks) (ls : FullLinks) (n : Name) (h : Keyed → Keyed) (f : Full → Full)
    → MatchesLinks ks ls
    → ((x : Keyed) (y : Full) → find ks n ≡ Some x → find ls n ≡ Some y → Matches x y → Matches (h x) (f y))
    → MatchesLinks (replace ks n h) (replace ls n f)
matches_replace Empty Empty n h f m same = tt
matches_replace Empty (Link o t more) n h f m same = absurd m
matches_replace (Link o k rest) Empty n h f m same = absurd m
matches_replace (Link o k rest) (Link q t more) n h f m same = go (same_name o n) (same_name q n) refl refl
    (matches_replace rest more n h f m.2)
  where
    go : (a b : Bool) → same_name o n ≡ a → same_name q n ≡ b
        → (((x : Keyed) (y : Full) → find rest n ≡ Some x → find more n ≡ Some y → Matches x y
        → Matches (h x) (f y)) → MatchesLinks (replace rest n h) (replace more n f))
        → MatchesLinks (cond a (Link o (h k) rest) (Link o k (replace rest n h))) (cond b (Link q (f t) more)
        (Link q t (replace more n f)))
    go true true ia ib later = (m.0, same k t (rw ia refl) (rw ib refl) m.1, m.2)
    go false false ia ib later = (m.0, m.1, later (λ x y fx fy e. same x y (rw ia fx) (rw ib fy) e))
    go true false ia ib later = let both : true ≡ false = sym ia ∙ ap (λ (z : Name). same_name z n) m.0
        ∙ ib in absurd cc
    go false true ia ib later = let both : false ≡ true = sym ia ∙ ap (λ (z : Name). same_name z n) m.0
        ∙ ib in absurd cc

pub matches_edit : MatchesEdit
matches_edit [] h f k t m same = same k t refl refl m
matches_edit (n ∷ ns) h f (Group x ks) (Group g ls) m same = (
  m.0,
  matches_replace ks ls n (edit ns h) (edit ns f) m.1 (λ y z fy fz e. matches_edit ns h f y z e
      (λ u v wu wv. same u v (rw fy wu) (rw fz wv))),
)
matches_edit (n ∷ ns) h f (Group x ks) (Leaf l) m same = absurd m
matches_edit (n ∷ ns) h f (Leaf x) (Group g ls) m same = absurd m
matches_edit (n ∷ ns) h f (Leaf x) (Leaf l) m same = m

matches_insert : (ks : KeyedLinks) (ls : FullLinks) (n : Name) (k : Keyed) (t : Full) → MatchesLinks ks ls
    → Matches k t → MatchesLinks (insert ks n k) (insert ls n t)
matches_insert Empty Empty n k t m e = (refl, e, tt)
matches_insert Empty (Link q u more) n k t m e = absurd m
matches_insert (Link o v rest) Empty n k t m e = absurd m
matches_insert (Link o v rest) (Link q u more) n k t m e =
    subst (λ (z : Name). MatchesLinks (insert (Link o v rest) n k) (insert (Link z u more) n t)) m.0
    (elim (name_lt n o) as (λ b. MatchesLinks (cond b (Link n k (Link o v rest)) (Link o v (insert rest n k)))
    (cond b (Link n t (Link o u more)) (Link o u (insert more n t)))) [
      | true ↦ (refl, e, (refl, m.1, m.2))
      | false ↦ (refl, m.1, matches_insert rest more n k t m.2 e)
    ])

matches_removed : (ks : KeyedLinks) (ls : FullLinks) (n : Name) → MatchesLinks ks ls
    → MatchesLinks (remove ks n) (remove ls n)
matches_removed Empty Empty n m = tt
matches_removed Empty (Link q u more) n m = absurd m
matches_removed (Link o v rest) Empty n m = absurd m
matches_removed (Link o v rest) (Link q u more) n m =
    subst (λ (z : Name). MatchesLinks (remove (Link o v rest) n) (remove (Link z u more) n)) m.0
    (elim (same_name o n) as (λ b. MatchesLinks (cond b rest (Link o v (remove rest n))) (cond b more (Link o u
    (remove more n)))) [
      | true ↦ m.2
      | false ↦ (refl, m.1, matches_removed rest more n m.2)
    ])

same_node : (n : Node) (g h : GroupAt) → IsSameGroup g h → IsGroupNode n h → IsGroupNode n g
same_node (node.Group header tree heap) g h same m = let header_is = same.header in let tree_is = same.tree in let
    heap_is = same.heap in let (a, b, c) = m in (cc, cc, cc)
same_node (node.Dataset header shape elem fill layout filtered) g h same m = absurd m
same_node (node.Soft text) g h same m = absurd m
same_node (node.Other header) g h same m = absurd m

pub matches_add : MatchesAdd
matches_add p f k new t u m e leaves = matches_edit (dir_of p) _ _ k t m (λ x y wx wy s. go x y wy s)
  where
    go : (x : Keyed) (y : Full) → walk t (dir_of p) ≡ Ok y → Matches x y
        → Matches (regroup (λ z. z) (λ ls. insert ls (last_of p) new) x) (regroup f (λ ls. insert ls (last_of p) u) y)
    go (Group x ks) (Group g ls) w s = (
      same_node x.node (f g) g (leaves g ls w) s.0,
      matches_insert ks ls
          (last_of p) new u s.1 e,
    )
    go (Group x ks) (Leaf l) w s = absurd s
    go (Leaf x) (Group g ls) w s = absurd s
    go (Leaf x) (Leaf l) w s = s

pub matches_remove : MatchesRemove
matches_remove p f k t m leaves = matches_edit (dir_of p) _ _ k t m (λ x y wx wy s. go x y wy s)
  where
    go : (x : Keyed) (y : Full) → walk t (dir_of p) ≡ Ok y → Matches x y
        → Matches (regroup (λ z. z) (λ ls. remove ls (last_of p)) x) (regroup f (λ ls. remove ls (last_of p)) y)
    go (Group x ks) (Group g ls) w s = (
      same_node x.node (f g) g (leaves g ls w) s.0,
      matches_removed ks ls
          (last_of p) s.1,
    )
    go (Group x ks) (Leaf l) w s = absurd s
    go (Leaf x) (Group g ls) w s = absurd s
    go (Leaf x) (Leaf l) w s = s

pub opened_places : OpenedPlaces
opened_places b e kept o = record { keyed = o.tree; shown = o.shown; same = o.same }
