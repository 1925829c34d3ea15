-- A tree of places after an edit: its root, and the links of the group that was edited.
use Rattle.std.proofs.Common.{◌≡◌, true, false, List, [], ◌∷◌, ◌++◌, map, refl, sym, ap, ◌∙◌, subst}
use Rattle.std.proofs.lemmas.Slice.Eq.{bytes_eq-Decides}
use Rattle.object_model.specs.Tree.{Group, Empty, Link, Name, name_lt, same_name, names, AreOrdered, insert, remove}
use Rattle.object_model.specs.Tree.{replace, edit, dir_of, last_of}
use Rattle.object_model.proofs.OrderLemmas.{lt_trans}
use Rattle.file_model.specs.Groups.{Found}
use Rattle.file_model.specs.Holds.{Full, FullLinks, GroupAt, founds, target_of}
use Rattle.tree_nodes.proofs.PlaceLemmas.{lt_asym, lt_not_same}
use Rattle.tree_places.specs.Places.{regroup}
use Rattle.tree_places.specs.Laws.{RootStays, InsertedLinks, RemovedLinks, NewGroupPlace}

pub new_group_place : NewGroupPlace
new_group_place key at len tree heap index = ((refl, refl, refl), tt)

-- ---- the root

abbrev IsGroup : Full → Type 0
IsGroup t = (h : GroupAt) × (ks : FullLinks) × (t ≡ Group h ks)

root_group : (p : List Name) (f : GroupAt → GroupAt) (h : FullLinks → FullLinks) (g : GroupAt) (ls : FullLinks)
    → IsGroup (edit p (regroup f h) (Group g ls))
root_group [] f h g ls = (f g, h ls, refl)
root_group (n ∷ ns) f h g ls = (g, replace ls n (edit ns (regroup f h)), refl)

pub root_stays : RootStays
root_stays f p new g ls = (
  root_group (dir_of p) f (λ l. insert l (last_of p) new) g ls,
  root_group (dir_of p) f
      (λ l. remove l (last_of p)) g ls,
)

-- ---- links

abbrev name_of : Found → Name
name_of f = f.name

-- an earlier name comes before
comes_before : (m : Name) (fs : List Found) (x : Found) (later : List Found)
    → AreOrdered (m ∷ map name_of (fs ++ x ∷ later)) → name_lt m x.name ≡ true
comes_before m [] x later o = o.0
comes_before m (f ∷ fs) x later o = lt_trans m f.name x.name o.0 (comes_before f.name fs x later o.1)

heads : (a b : Found) (xs ys : List Found) → a ∷ xs ≡ b ∷ ys → (a ≡ b) × (xs ≡ ys)
heads a b xs ys is = (cc, cc)

abbrev found : Name → Full → Found
found n t = record { name = n; target = target_of t }

inserted : (ls : FullLinks) (n : Name) (new : Full) (before later : List Found) → founds ls ≡ before ++ later
    → AreOrdered (map name_of (before ++ found n new ∷ later))
    → before ++ found n new ∷ later ≡ founds (insert ls n new)
inserted Empty n new [] later is o = ap (λ (l : List Found). found n new ∷ l) (sym is)
inserted Empty n new (b ∷ bs) later is o = absurd cc
inserted (Link m u rest) n new [] later is o =
    let first : name_lt n m ≡ true = (subst (λ (l : List Found). AreOrdered (n ∷ map name_of l)) (sym is) o).0 in
    rw first (ap (λ (l : List Found). found n new ∷ l) (sym is))
inserted (Link m u rest) n new (b ∷ bs) later is o =
    let (same, more) = heads (found m u) b (founds rest) (bs ++ later) is in
    let before : name_lt b.name n ≡ true = comes_before b.name bs (found n new) later o in
    let here : name_lt m n ≡ true = subst (λ (f : Found). name_lt f.name n ≡ true) (sym same) before in
    let after : name_lt n m ≡ false = lt_asym m n here in
    rw after (ap (λ (f : Found). f ∷ (bs ++ found n new ∷ later)) (sym same)
    ∙ ap (λ (l : List Found). found m u ∷ l) (inserted rest n new bs later more o.1))

pub inserted_links : InsertedLinks
inserted_links ls n new fs o h = h.whole ∙ inserted ls n new h.before h.later h.without (subst (λ
    (l : List Found). AreOrdered (map name_of l)) h.whole o)

found_names : (ls : FullLinks) → map name_of (founds ls) ≡ names ls
found_names Empty = refl
found_names (Link n t rest) = ap (λ (l : List Name). n ∷ l) (found_names rest)

removed : (ls : FullLinks) (n : Name) (old : Found) (before later : List Found)
    → founds ls ≡ before ++ old ∷ later → old.name ≡ n → AreOrdered (map name_of (before ++ old ∷ later))
    → before ++ later ≡ founds (remove ls n)
removed Empty n old [] later is named o = absurd cc
removed Empty n old (b ∷ bs) later is named o = absurd cc
removed (Link m u rest) n old [] later is named o =
    let (same, more) = heads (found m u) old (founds rest) later is in
    let here : m ≡ n = ap name_of same ∙ named in
    let first : same_name m n ≡ true = (bytes_eq-Decides m n).1 here in
    rw first (sym more)
removed (Link m u rest) n old (b ∷ bs) later is named o =
    let (same, more) = heads (found m u) b (founds rest) (bs ++ old ∷ later) is in
    let before : name_lt b.name old.name ≡ true = comes_before b.name bs old later o in
    let here : name_lt m n ≡ true = subst (λ (k : Name). name_lt m k ≡ true) named (subst (λ
    (f : Found). name_lt f.name old.name ≡ true) (sym same) before) in
    let apart : same_name m n ≡ false = lt_not_same m n here in
    rw apart (ap (λ (f : Found). f ∷ (bs ++ later)) (sym same)
    ∙ ap (λ (l : List Found). found m u ∷ l) (removed rest n old bs later more named o.1))

pub removed_links : RemovedLinks
removed_links ls n old fs o named h =
    h.without ∙ removed ls n old h.before h.later h.whole named (subst AreOrdered (sym (found_names ls)
    ∙ ap (map name_of) h.whole) o)
