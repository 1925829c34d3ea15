-- What an edit leaves of a tree with keys.
use Rattle.std.proofs.Common.{◌≡◌, ℕ, ◌+◌, true, false, cond, List, [], ◌∷◌, Option, Some, None, Ok, ok_or, refl, sym, ap, ◌∙◌, subst, inl, inr, ◌⊎◌, arith}
use Rattle.object_model.specs.declared.answer.Code.TheVariants.{Absent}
use Rattle.object_model.specs.Tree.{Group, Leaf, Empty, Link, Name, same_name, find, walk, edit, replace, ◌>>=◌}
use Rattle.tree_nodes.specs.declared.node.ChildLink.{ChildLink}
use Rattle.tree_nodes.specs.Nodes.{Kept, child_link}
use Rattle.tree_nodes.specs.Shown.{Placed, Keyed, KeyedLinks, key_of, child_links, objects_of, objects_below, HasKey, HasKeyBelow, AreDistinct, AreDistinctBelow, AreKept, AreKeptBelow}

-- ---- one step of a path

pub first_step : (x : Placed) (ls : KeyedLinks) (n : Name) (ns : List Name) (u : Keyed) → walk (Group x ls) (n ∷ ns) ≡ Ok u → (v : Keyed) × (find ls n ≡ Some v) × (walk v ns ≡ Ok u)
first_step x ls n ns u w = go (find ls n) refl w
  where
    go : (o : Option Keyed) → find ls n ≡ o → (ok_or o Absent >>= λ t. walk t ns) ≡ Ok u → (v : Keyed) × (find ls n ≡ Some v) × (walk v ns ≡ Ok u)
    go None is h = absurd cc
    go (Some v) is h = (v, is, h)

leaf_step : (x : Placed) (n : Name) (ns : List Name) (u : Keyed) → walk (Leaf x) (n ∷ ns) ≡ Ok u → ⊥
leaf_step x n ns u w = cc

at_end : (t u : Keyed) → walk t [] ≡ Ok u → t ≡ u
at_end t u w = cc

-- ---- keys

pub own_key : (t : Keyed) → HasKey t (key_of t)
own_key (Group x ls) = inl refl
own_key (Leaf x) = refl

pub found_key : (ls : KeyedLinks) (n : Name) (v : Keyed) (k : ℕ) → find ls n ≡ Some v → HasKey v k → HasKeyBelow ls k
found_key Empty n v k is h = absurd cc
found_key (Link m t rest) n v k is h =
    (elim (same_name m n) as (λ b. cond b (Some t) (find rest n) ≡ Some v → HasKey t k ⊎ HasKeyBelow rest k) [
      | true ↦ λ q. let same : v ≡ t = cc in inl (subst (λ (y : Keyed). HasKey y k) same h)
      | false ↦ λ q. inr (found_key rest n v k q h)
    ]) is

pub walked_key : (p : List Name) (t u : Keyed) (k : ℕ) → walk t p ≡ Ok u → HasKey u k → HasKey t k
walked_key [] t u k w h = subst (λ (y : Keyed). HasKey y k) (sym (at_end t u w)) h
walked_key (n ∷ ns) (Leaf x) u k w h = absurd (leaf_step x n ns u w)
walked_key (n ∷ ns) (Group x ls) u k w h =
    let (v, is, next) = first_step x ls n ns u w in
    inr (found_key ls n v k is (walked_key ns v u k next h))

pub key-edit : (p : List Name) (f : Keyed → Keyed) (t u : Keyed) → walk t p ≡ Ok u → key_of (f u) ≡ key_of u → key_of (edit p f t) ≡ key_of t
key-edit [] f t u w same = let is = at_end t u w in subst (λ (y : Keyed). key_of (f y) ≡ key_of y) (sym is) same
key-edit (n ∷ ns) f (Leaf x) u w same = refl
key-edit (n ∷ ns) f (Group x ls) u w same = refl

replaced_key : (ls : KeyedLinks) (n : Name) (g : Keyed → Keyed) (v : Keyed) (k : ℕ) → find ls n ≡ Some v → HasKeyBelow (replace ls n g) k → HasKeyBelow ls k ⊎ HasKey (g v) k
replaced_key Empty n g v k is h = absurd h
replaced_key (Link m t rest) n g v k is h =
    (elim (same_name m n) as (λ b. cond b (Some t) (find rest n) ≡ Some v → HasKeyBelow (cond b (Link m (g t) rest) (Link m t (replace rest n g))) k → HasKeyBelow (Link m t rest) k ⊎ HasKey (g v) k) [
      | true ↦ λ q l. let same : t ≡ v = cc in elim l [ inl a ↦ inr (subst (λ (y : Keyed). HasKey (g y) k) same a) | inr b ↦ inl (inr b) ]
      | false ↦ λ q l. elim l [ inl a ↦ inl (inl a) | inr b ↦ elim (replaced_key rest n g v k q b) [ inl a ↦ inl (inr a) | inr a ↦ inr a ] ]
    ]) is h

pub edited_key : (p : List Name) (f : Keyed → Keyed) (t u : Keyed) (k : ℕ) → walk t p ≡ Ok u → HasKey (edit p f t) k → HasKey t k ⊎ HasKey (f u) k
edited_key [] f t u k w h = inr (subst (λ (y : Keyed). HasKey (f y) k) (at_end t u w) h)
edited_key (n ∷ ns) f (Leaf x) u k w h = absurd (leaf_step x n ns u w)
edited_key (n ∷ ns) f (Group x ls) u k w h =
    let (v, is, next) = first_step x ls n ns u w in
    elim h [
      | inl own ↦ inl (inl own)
      | inr below ↦ elim (replaced_key ls n (edit ns f) v k is below) [
        | inl before ↦ inl (inr before)
        | inr there ↦ elim (edited_key ns f v u k next there) [ inl a ↦ inl (inr (found_key ls n v k is a)) | inr a ↦ inr a ]
      ]
    ]

-- ---- what is kept

mutual
  pub kept_same : (at at' : ℕ → Option Kept) (t : Keyed) → ((k : ℕ) → HasKey t k → at' k ≡ at k) → AreKept at t → AreKept at' t
  kept_same at at' (Group x ls) same h = (h.0, same x.key (inl refl) ∙ h.1, kept_same_below at at' ls (λ k has. same k (inr has)) h.2)
  kept_same at at' (Leaf x) same h = (h.0, same x.key refl ∙ h.1)

  pub kept_same_below : (at at' : ℕ → Option Kept) (ls : KeyedLinks) → ((k : ℕ) → HasKeyBelow ls k → at' k ≡ at k) → AreKeptBelow at ls → AreKeptBelow at' ls
  kept_same_below at at' Empty same h = tt
  kept_same_below at at' (Link n t rest) same h = (kept_same at at' t (λ k has. same k (inl has)) h.0, kept_same_below at at' rest (λ k has. same k (inr has)) h.1)

links-replace : (ls : KeyedLinks) (n : Name) (g : Keyed → Keyed) (v : Keyed) → find ls n ≡ Some v → key_of (g v) ≡ key_of v → child_links (replace ls n g) ≡ child_links ls
links-replace Empty n g v is same = refl
links-replace (Link m t rest) n g v is same =
    (elim (same_name m n) as (λ b. cond b (Some t) (find rest n) ≡ Some v → child_links (cond b (Link m (g t) rest) (Link m t (replace rest n g))) ≡ child_link m (key_of t) ∷ child_links rest) [
      | true ↦ λ q. let here : v ≡ t = cc in let key : key_of (g t) ≡ key_of t = subst (λ (y : Keyed). key_of (g y) ≡ key_of y) here same in ap (λ (k : ℕ). child_link m k ∷ child_links rest) key
      | false ↦ λ q. ap (λ (l : List ChildLink). child_link m (key_of t) ∷ l) (links-replace rest n g v q same)
    ]) is

kept_replace : (at at' : ℕ → Option Kept) (ls : KeyedLinks) (n : Name) (g : Keyed → Keyed) (v : Keyed) → find ls n ≡ Some v → AreKeptBelow at ls → AreDistinctBelow ls → AreKept at' (g v)
    → ((k : ℕ) → HasKeyBelow ls k → (HasKey v k → ⊥) → at' k ≡ at k) → AreKeptBelow at' (replace ls n g)
kept_replace at at' Empty n g v is h d new same = tt
kept_replace at at' (Link m t rest) n g v is h d new same =
    (elim (same_name m n) as (λ b. cond b (Some t) (find rest n) ≡ Some v → AreKeptBelow at' (cond b (Link m (g t) rest) (Link m t (replace rest n g)))) [
      | true ↦ λ q.
          let here : v ≡ t = cc in
          (subst (λ (y : Keyed). AreKept at' (g y)) here new, kept_same_below at at' rest (λ k has. same k (inr has) (λ inside. d.2 k (subst (λ (y : Keyed). HasKey y k) here inside) has)) h.1)
      | false ↦ λ q.
          (kept_same at at' t (λ k has. same k (inl has) (λ inside. d.2 k has (found_key rest n v k q inside))) h.0, kept_replace at at' rest n g v q h.1 d.1 new (λ k has. same k (inr has)))
    ]) is

pub kept_found : (at : ℕ → Option Kept) (ls : KeyedLinks) (n : Name) (v : Keyed) → find ls n ≡ Some v → AreKeptBelow at ls → AreKept at v
kept_found at Empty n v is h = absurd cc
kept_found at (Link m t rest) n v is h =
    (elim (same_name m n) as (λ b. cond b (Some t) (find rest n) ≡ Some v → AreKept at v) [
      | true ↦ λ q. let here : t ≡ v = cc in subst (AreKept at) here h.0
      | false ↦ λ q. kept_found at rest n v q h.1
    ]) is

pub distinct_found : (ls : KeyedLinks) (n : Name) (v : Keyed) → find ls n ≡ Some v → AreDistinctBelow ls → AreDistinct v
distinct_found Empty n v is d = absurd cc
distinct_found (Link m t rest) n v is d =
    (elim (same_name m n) as (λ b. cond b (Some t) (find rest n) ≡ Some v → AreDistinct v) [
      | true ↦ λ q. let here : t ≡ v = cc in subst AreDistinct here d.0
      | false ↦ λ q. distinct_found rest n v q d.1
    ]) is

pub kept_walked : (at : ℕ → Option Kept) (p : List Name) (t u : Keyed) → walk t p ≡ Ok u → AreKept at t → AreKept at u
kept_walked at [] t u w h = subst (AreKept at) (at_end t u w) h
kept_walked at (n ∷ ns) (Leaf x) u w h = absurd (leaf_step x n ns u w)
kept_walked at (n ∷ ns) (Group x ls) u w h = let (v, is, next) = first_step x ls n ns u w in kept_walked at ns v u next (kept_found at ls n v is h.2)

pub distinct_walked : (p : List Name) (t u : Keyed) → walk t p ≡ Ok u → AreDistinct t → AreDistinct u
distinct_walked [] t u w d = subst AreDistinct (at_end t u w) d
distinct_walked (n ∷ ns) (Leaf x) u w d = absurd (leaf_step x n ns u w)
distinct_walked (n ∷ ns) (Group x ls) u w d = let (v, is, next) = first_step x ls n ns u w in distinct_walked ns v u next (distinct_found ls n v is d.1)

-- an edit that is kept, where all beside it is as before
pub kept_edit : (at at' : ℕ → Option Kept) (f : Keyed → Keyed) (p : List Name) (t u : Keyed) → walk t p ≡ Ok u → AreKept at t → AreDistinct t → key_of (f u) ≡ key_of u → AreKept at' (f u)
    → ((k : ℕ) → HasKey t k → (HasKey u k → ⊥) → at' k ≡ at k) → AreKept at' (edit p f t)
kept_edit at at' f [] t u w h d key new same = subst (λ (y : Keyed). AreKept at' (f y)) (sym (at_end t u w)) new
kept_edit at at' f (n ∷ ns) (Leaf x) u w h d key new same = absurd (leaf_step x n ns u w)
kept_edit at at' f (n ∷ ns) (Group x ls) u w h d key new same =
    let (v, is, next) = first_step x ls n ns u w in
    let inner : AreKept at' (edit ns f v) = kept_edit at at' f ns v u next (kept_found at ls n v is h.2) (distinct_found ls n v is d.1) key new (λ k has. same k (inr (found_key ls n v k is has))) in
    let own : at' x.key ≡ at x.key = same x.key (inl refl) (λ inside. d.0 (found_key ls n v x.key is (walked_key ns v u x.key next inside))) in
    let links : child_links (replace ls n (edit ns f)) ≡ child_links ls = links-replace ls n (edit ns f) v is (key-edit ns f v u next key) in (
      h.0,
      own ∙ h.1 ∙ ap (λ (l : List ChildLink). Some (record { node = x.node; links = l })) (sym links),
      kept_replace at at' ls n (edit ns f) v is h.2 d.1 inner (λ k has apart. same k (inr has) (λ inside. apart (walked_key ns v u k next inside))),
    )

-- ---- distinct keys

distinct_replace : (ls : KeyedLinks) (n : Name) (g : Keyed → Keyed) (v : Keyed) → find ls n ≡ Some v → AreDistinctBelow ls → AreDistinct (g v) → ((k : ℕ) → HasKey (g v) k → HasKey v k ⊎ (HasKeyBelow ls k → ⊥)) → AreDistinctBelow (replace ls n g)
distinct_replace Empty n g v is d new fresh = tt
distinct_replace (Link m t rest) n g v is d new fresh =
    (elim (same_name m n) as (λ b. cond b (Some t) (find rest n) ≡ Some v → AreDistinctBelow (cond b (Link m (g t) rest) (Link m t (replace rest n g)))) [
      | true ↦ λ q.
          let here : v ≡ t = cc in (
            subst (λ (y : Keyed). AreDistinct (g y)) here new,
            d.1,
            λ k a b. elim (fresh k (subst (λ (y : Keyed). HasKey (g y) k) (sym here) a)) [
              | inl old ↦ d.2 k (subst (λ (y : Keyed). HasKey y k) here old) b
              | inr lacks ↦ lacks (inr b)
            ],
          )
      | false ↦ λ q. (
        d.0,
        distinct_replace rest n g v q d.1 new (λ k a. elim (fresh k a) [ inl old ↦ inl old | inr lacks ↦ inr (λ b. lacks (inr b)) ]),
        λ k a b. elim (replaced_key rest n g v k q b) [
          | inl before ↦ d.2 k a before
          | inr there ↦ elim (fresh k there) [ inl old ↦ d.2 k a (found_key rest n v k q old) | inr lacks ↦ lacks (inl a) ]
        ],
      )
    ]) is

pub distinct_edit : (f : Keyed → Keyed) (p : List Name) (t u : Keyed) → walk t p ≡ Ok u → AreDistinct t → AreDistinct (f u) → ((k : ℕ) → HasKey (f u) k → HasKey u k ⊎ (HasKey t k → ⊥)) → AreDistinct (edit p f t)
distinct_edit f [] t u w d new fresh = subst (λ (y : Keyed). AreDistinct (f y)) (sym (at_end t u w)) new
distinct_edit f (n ∷ ns) (Leaf x) u w d new fresh = absurd (leaf_step x n ns u w)
distinct_edit f (n ∷ ns) (Group x ls) u w d new fresh =
    let (v, is, next) = first_step x ls n ns u w in
    let known : (k : ℕ) → HasKey (edit ns f v) k → HasKey v k ⊎ (HasKeyBelow ls k → ⊥) = λ k a. elim (edited_key ns f v u k next a) [
      | inl old ↦ inl old
      | inr made ↦ elim (fresh k made) [ inl old ↦ inl (walked_key ns v u k next old) | inr lacks ↦ inr (λ b. lacks (inr b)) ]
    ] in
    let inner : AreDistinct (edit ns f v) = distinct_edit f ns v u next (distinct_found ls n v is d.1) new (λ k a. elim (fresh k a) [ inl old ↦ inl old | inr lacks ↦ inr (λ b. lacks (inr (found_key ls n v k is b))) ]) in (
      λ below. elim (replaced_key ls n (edit ns f) v x.key is below) [
        | inl before ↦ d.0 before
        | inr there ↦ elim (edited_key ns f v u x.key next there) [
          | inl old ↦ d.0 (found_key ls n v x.key is old)
          | inr made ↦ elim (fresh x.key made) [ inl old ↦ d.0 (found_key ls n v x.key is (walked_key ns v u x.key next old)) | inr lacks ↦ lacks (inl refl) ]
        ]
      ],
      distinct_replace ls n (edit ns f) v is d.1 inner known,
    )

-- ---- objects

objects-replace : (ls : KeyedLinks) (n : Name) (g : Keyed → Keyed) (v : Keyed) → find ls n ≡ Some v → objects_below (replace ls n g) + objects_of v ≡ objects_below ls + objects_of (g v)
objects-replace Empty n g v is = absurd cc
objects-replace (Link m t rest) n g v is =
    (elim (same_name m n) as (λ b. cond b (Some t) (find rest n) ≡ Some v → objects_below (cond b (Link m (g t) rest) (Link m t (replace rest n g))) + objects_of v ≡ (objects_of t + objects_below rest) + objects_of (g v)) [
      | true ↦ λ q.
          let here : t ≡ v = cc in
          let old : objects_of t ≡ objects_of v = ap objects_of here in
          let new : objects_of (g t) ≡ objects_of (g v) = ap (λ (y : Keyed). objects_of (g y)) here in
          omega (arith, old, new)
      | false ↦ λ q. let later = objects-replace rest n g v q in omega (arith, later)
    ]) is

pub objects-edit : (f : Keyed → Keyed) (p : List Name) (t u : Keyed) → walk t p ≡ Ok u → objects_of (edit p f t) + objects_of u ≡ objects_of t + objects_of (f u)
objects-edit f [] t u w =
    let is = at_end t u w in
    let old : objects_of t ≡ objects_of u = ap objects_of is in
    let new : objects_of (f t) ≡ objects_of (f u) = ap (λ (y : Keyed). objects_of (f y)) is in
    omega (arith, old, new)
objects-edit f (n ∷ ns) (Leaf x) u w = absurd (leaf_step x n ns u w)
objects-edit f (n ∷ ns) (Group x ls) u w =
    let (v, is, next) = first_step x ls n ns u w in
    let inner = objects-edit f ns v u next in
    let outer = objects-replace ls n (edit ns f) v is in
    omega (arith, inner, outer)
