-- How many objects a tree of places has, and how deep they lie, after an edit.
use Rattle.std.proofs.Common.{◌≡◌, ◌≤◌, ℕ, ◌+◌, max, true, false, cond, List, [], ◌∷◌, length, Option, Some, None, Ok}
use Rattle.std.proofs.Common.{ok_or, refl, sym, ap, ◌∙◌, subst, arith}
use Rattle.object_model.specs.declared.answer.Code.TheVariants.{Absent}
use Rattle.object_model.specs.Tree.{Group, Leaf, Empty, Link, Name, name_lt, same_name, find, walk, edit, replace}
use Rattle.object_model.specs.Tree.{insert, remove, dir_of, last_of, ◌>>=◌}
use Rattle.file_model.specs.Holds.{GroupAt, Full, FullLinks}
use Rattle.file_model.specs.Limits.{objects_of, objects_in, depth_to, depth_in}
use Rattle.object_tree.proofs.SoFar.{count_same}
use Rattle.tree_places.specs.Places.{regroup}
use Rattle.tree_places.specs.Laws.{PlacesCount, AddLimits, RemoveLimits}

pub places_count : PlacesCount
places_count kept t h = sym h.shown.objects ∙ count_same h.keyed t h.same

-- ---- one step of a path

first_step : (g : GroupAt) (ls : FullLinks) (n : Name) (ns : List Name) (u : Full)
    → walk (Group g ls) (n ∷ ns) ≡ Ok u → (v : Full) × (find ls n ≡ Some v) × (walk v ns ≡ Ok u)
first_step g ls n ns u w = go (find ls n) refl w
  where
    go : (o : Option Full) → find ls n ≡ o → (ok_or o Absent >>= λ t. walk t ns) ≡ Ok u
        → (v : Full) × (find ls n ≡ Some v) × (walk v ns ≡ Ok u)
    go None is h = absurd cc
    go (Some v) is h = (v, is, h)

-- ---- objects

objects_replaced : (ls : FullLinks) (n : Name) (f : Full → Full) (v : Full) → find ls n ≡ Some v
    → objects_in (replace ls n f) + objects_of v ≡ objects_in ls + objects_of (f v)
objects_replaced Empty n f v is = absurd cc
objects_replaced (Link m t rest) n f v is =
    (elim (same_name m n) as (λ b. cond b (Some t) (find rest n) ≡ Some v
    → objects_in (cond b (Link m (f t) rest) (Link m t (replace rest n f))) + objects_of v ≡
    (objects_of t + objects_in rest) + objects_of (f v)) [
      | true ↦ λ q.
          let here : t ≡ v = cc in
          let old : objects_of t ≡ objects_of v = ap objects_of here in
          let new : objects_of (f t) ≡ objects_of (f v) = ap (λ (y : Full). objects_of (f y)) here in
          omega (arith, old, new)
      | false ↦ λ q. let later = objects_replaced rest n f v q in omega (arith, later)
    ]) is

objects_edited : (p : List Name) (f : Full → Full) (t u : Full) → walk t p ≡ Ok u
    → objects_of (edit p f t) + objects_of u ≡ objects_of t + objects_of (f u)
objects_edited [] f t u w =
    let is : t ≡ u = cc in
    let old : objects_of t ≡ objects_of u = ap objects_of is in
    let new : objects_of (f t) ≡ objects_of (f u) = ap (λ (y : Full). objects_of (f y)) is in
    omega (arith, old, new)
objects_edited (n ∷ ns) f (Leaf l) u w = absurd cc
objects_edited (n ∷ ns) f (Group g ls) u w =
    let (v, is, next) = first_step g ls n ns u w in
    let inner = objects_edited ns f v u next in
    let outer = objects_replaced ls n (edit ns f) v is in
    omega (arith, inner, outer)

objects_inserted : (ls : FullLinks) (n : Name) (u : Full) → objects_in (insert ls n u) ≡ objects_in ls + objects_of u
objects_inserted Empty n u = omega arith
objects_inserted (Link m t rest) n u =
    elim (name_lt n m) as (λ b. objects_in (cond b (Link n u (Link m t rest)) (Link m t (insert rest n u))) ≡
    (objects_of t + objects_in rest) + objects_of u) [
      | true ↦ omega arith
      | false ↦ let later = objects_inserted rest n u in omega (arith, later)
    ]

objects_removed : (ls : FullLinks) (n : Name) (v : Full) → find ls n ≡ Some v
    → objects_in (remove ls n) + objects_of v ≡ objects_in ls
objects_removed Empty n v is = absurd cc
objects_removed (Link m t rest) n v is =
    (elim (same_name m n) as (λ b. cond b (Some t) (find rest n) ≡ Some v
    → objects_in (cond b rest (Link m t (remove rest n))) + objects_of v ≡ objects_of t + objects_in rest) [
      | true ↦ λ q.
          let here : t ≡ v = cc in
          let old : objects_of t ≡ objects_of v = ap objects_of here in
          omega (arith, old)
      | false ↦ λ q. let later = objects_removed rest n v q in omega (arith, later)
    ]) is

-- ---- depth

depth_replaced : (ls : FullLinks) (n : Name) (f : Full → Full) (v : Full) (k : ℕ) → find ls n ≡ Some v
    → depth_to (f v) ≡ max (depth_to v) k → depth_in (replace ls n f) ≡ max (depth_in ls) k
depth_replaced Empty n f v k is same = absurd cc
depth_replaced (Link m t rest) n f v k is same =
    (elim (same_name m n) as (λ b. cond b (Some t) (find rest n) ≡ Some v
    → depth_in (cond b (Link m (f t) rest) (Link m t (replace rest n f))) ≡ max (max (depth_to t)
    (depth_in rest)) k) [
      | true ↦ λ q.
          let here : v ≡ t = cc in
          let there : depth_to (f t) ≡ max (depth_to t) k = subst (λ (y : Full). depth_to (f y) ≡ max
          (depth_to y) k) here same in
          omega (arith, there)
      | false ↦ λ q. let later = depth_replaced rest n f v k q same in omega (arith, later)
    ]) is

depth_edited : (p : List Name) (f : Full → Full) (t u : Full) (k : ℕ) → walk t p ≡ Ok u
    → depth_to (f u) ≡ max (depth_to u) k → depth_to (edit p f t) ≡ max (depth_to t) (length p + k)
depth_edited [] f t u k w same =
    let is : u ≡ t = cc in
    let there : depth_to (f t) ≡ max (depth_to t) k = subst (λ (y : Full). depth_to (f y) ≡ max
    (depth_to y) k) is same in
    omega (arith, there)
depth_edited (n ∷ ns) f (Leaf l) u k w same = absurd cc
depth_edited (n ∷ ns) f (Group g ls) u k w same =
    let (v, is, next) = first_step g ls n ns u w in
    let inner = depth_edited ns f v u k next same in
    let outer = depth_replaced ls n (edit ns f) v (length ns + k) is inner in
    omega (arith, outer)

depth_inserted : (ls : FullLinks) (n : Name) (u : Full) → depth_in (insert ls n u) ≡ max (depth_in ls) (depth_to u)
depth_inserted Empty n u = omega arith
depth_inserted (Link m t rest) n u =
    elim (name_lt n m) as (λ b. depth_in (cond b (Link n u (Link m t rest)) (Link m t (insert rest n u))) ≡ max
    (max (depth_to t) (depth_in rest)) (depth_to u)) [
      | true ↦ omega arith
      | false ↦ let later = depth_inserted rest n u in omega (arith, later)
    ]

depth_removed : (ls : FullLinks) (n : Name) → depth_in (remove ls n) ≤ depth_in ls
depth_removed Empty n = omega arith
depth_removed (Link m t rest) n =
    elim (same_name m n) as (λ b. depth_in (cond b rest (Link m t (remove rest n))) ≤ max (depth_to t)
    (depth_in rest)) [
      | true ↦ omega arith
      | false ↦ let later = depth_removed rest n in omega (arith, later)
    ]

replaced_lower : (ls : FullLinks) (n : Name) (f : Full → Full) → ((u : Full) → depth_to (f u) ≤ depth_to u)
    → depth_in (replace ls n f) ≤ depth_in ls
replaced_lower Empty n f lower = omega arith
replaced_lower (Link m t rest) n f lower =
    elim (same_name m n) as (λ b. depth_in (cond b (Link m (f t) rest) (Link m t (replace rest n f))) ≤ max
    (depth_to t) (depth_in rest)) [
      | true ↦ let here = lower t in omega (arith, here)
      | false ↦ let later = replaced_lower rest n f lower in omega (arith, later)
    ]

edited_lower : (p : List Name) (f : Full → Full) (t : Full) → ((u : Full) → depth_to (f u) ≤ depth_to u)
    → depth_to (edit p f t) ≤ depth_to t
edited_lower [] f t lower = lower t
edited_lower (n ∷ ns) f (Leaf l) lower = omega arith
edited_lower (n ∷ ns) f (Group g ls) lower = let below = replaced_lower ls n (edit ns f)
    (λ u. edited_lower ns f u lower) in omega (arith, below)

-- ---- one link more and one fewer

pub add_limits : AddLimits
add_limits f p new t g ls w =
    let h : Full → Full = regroup f (λ l. insert l (last_of p) new) in
    let sums = objects_edited (dir_of p) h t (Group g ls) w in
    let more = objects_inserted ls (last_of p) new in
    let deeper = depth_inserted ls (last_of p) new in
    (omega (arith, sums, more), depth_edited (dir_of p) h t (Group g ls) (depth_to new + 1) w (omega (arith, deeper)))

lower_group : (f : GroupAt → GroupAt) (n : Name) (u : Full) → depth_to (regroup f (λ ls. remove ls n) u) ≤ depth_to u
lower_group f n (Group g ls) = let below = depth_removed ls n in omega (arith, below)
lower_group f n (Leaf l) = omega arith

pub remove_limits : RemoveLimits
remove_limits f p t old g ls w leads =
    let h : Full → Full = regroup f (λ l. remove l (last_of p)) in
    let sums = objects_edited (dir_of p) h t (Group g ls) w in
    let fewer = objects_removed ls (last_of p) old leads in
    (omega (arith, sums, fewer), edited_lower (dir_of p) h t (lower_group f (last_of p)))
