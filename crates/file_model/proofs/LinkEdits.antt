-- Links with one more and one fewer, and edits without places.
use Rattle.std.proofs.Common.{◌≡◌, ◌≢◌, Bool, true, false, cond, List, [], ◌∷◌, ◌++◌, Option, Some, None, Ok, ok_or, refl, sym, ap, subst, inl, inr, ◌⊎◌}
use Rattle.std.specs.Option.{option_map}
use Rattle.std.proofs.lemmas.List.{append_assoc}
use Rattle.std.specs.List.Sorted.{IsPermutation}
use Rattle.std.proofs.lemmas.List.Sorted.{IsPermutation-refl, IsPermutation-trans, IsPermutation-append_left, IsPermutation-append_right, IsPermutation-append_comm}
use Rattle.object_model.specs.declared.answer.Code.TheVariants.{Absent}
use Rattle.object_model.specs.Tree.{Group, Leaf, Empty, Link, Name, same_name, name_lt, find, walk, edit, replace, insert, remove, ◌>>=◌}
use Rattle.object_model.specs.Step.{Plain}
use Rattle.object_model.proofs.TreeLemmas.{same_or_not}
use Rattle.object_model.proofs.OrderLemmas.{ordered-insert, ordered-remove}
use Rattle.outside.specs.Blocks.{Block}
use Rattle.file_model.specs.Groups.{Found}
use Rattle.file_model.specs.Holds.{Full, FullLinks, founds, target_of, blocks_of, blocks_in, plain}
use Rattle.file_model.specs.EditLaws.{IsOneMore, InsertOne, RemoveOne, InsertOrder, RemoveOrder, EditThere, PlainFind, PlainInsert, PlainRemove, PlainWalk, PlainChange, plain_links}

-- ---- one more

more_behind : (f x : Found) (xs ys : List Found) → IsOneMore x xs ys → IsOneMore x (f ∷ xs) (f ∷ ys)
more_behind f x xs ys h = record {
  before = f ∷ h.before;
  later = h.later;
  without = ap (λ (l : List Found). f ∷ l) h.without;
  whole = ap (λ (l : List Found). f ∷ l) h.whole;
}

blocks_behind : (ts us rest all : List Block) → IsPermutation (ts ++ rest) all → IsPermutation (ts ++ (us ++ rest)) (us ++ all)
blocks_behind ts us rest all h =
    let turned : IsPermutation ((ts ++ us) ++ rest) ((us ++ ts) ++ rest) = IsPermutation-append_left rest _ _ (IsPermutation-append_comm ts us) in
    IsPermutation-trans _ _ _ (rw (append_assoc ts us rest, append_assoc us ts rest) at turned) (IsPermutation-append_right us _ _ h)

abbrev found : Name → Full → Found
found n t = record { name = n; target = target_of t }

abbrev Inserted : FullLinks → FullLinks → Name → Full → Type 0
Inserted ls more n t = IsOneMore (found n t) (founds ls) (founds more) × IsPermutation (blocks_of t ++ blocks_in ls) (blocks_in more)

pub insert_one : InsertOne
insert_one Empty n t = (record { before = []; later = []; without = refl; whole = refl }, IsPermutation-refl _)
insert_one (Link m u rest) n t = go (name_lt n m) (insert_one rest n t)
  where
    go : (s : Bool) → Inserted rest (insert rest n t) n t → Inserted (Link m u rest) (cond s (Link n t (Link m u rest)) (Link m u (insert rest n t))) n t
    go true later = (record { before = []; later = founds (Link m u rest); without = refl; whole = refl }, IsPermutation-refl _)
    go false later = (more_behind (found m u) (found n t) _ _ later.0, blocks_behind (blocks_of t) (blocks_of u) (blocks_in rest) _ later.1)

pub remove_one : RemoveOne
remove_one Empty n t h = cc
remove_one (Link m u rest) n t h = go (same_name m n) (same_or_not m n) refl (remove_one rest n t)
  where
    go : (s : Bool) → (same_name m n ≡ true) × (m ≡ n) ⊎ (same_name m n ≡ false) × (m ≢ n) → same_name m n ≡ s → (find rest n ≡ Some t → Inserted (remove rest n) rest n t)
        → Inserted (cond s rest (Link m u (remove rest n))) (Link m u rest) n t
    go true (inl same) is later =
        let there : Some u ≡ Some t = rw is at h in
        let here : u ≡ t = cc in (
          record { before = []; later = founds rest; without = refl; whole = λ j. found (same.1 j) (here j) ∷ founds rest },
          subst (λ (x : Full). IsPermutation (blocks_of t ++ blocks_in rest) (blocks_of x ++ blocks_in rest)) (sym here) (IsPermutation-refl _),
        )
    go true (inr other) is later = cc
    go false other is later =
        let rest_is = later (rw is at h) in
        (more_behind (found m u) (found n t) _ _ rest_is.0, blocks_behind (blocks_of t) (blocks_of u) (blocks_in (remove rest n)) _ rest_is.1)

pub insert_order : InsertOrder
insert_order ls n t o none = ordered-insert ls n t o none

pub remove_order : RemoveOrder
remove_order ls n o = ordered-remove ls n o

-- ---- an edit by what stands there

replace_there : (ls : FullLinks) (n : Name) (f g : Full → Full) → ((x : Full) → find ls n ≡ Some x → f x ≡ g x) → replace ls n f ≡ replace ls n g
replace_there Empty n f g same = refl
replace_there (Link m t rest) n f g same = go (same_name m n) refl (replace_there rest n f g)
  where
    go : (s : Bool) → same_name m n ≡ s → (((x : Full) → find rest n ≡ Some x → f x ≡ g x) → replace rest n f ≡ replace rest n g)
        → cond s (Link m (f t) rest) (Link m t (replace rest n f)) ≡ cond s (Link m (g t) rest) (Link m t (replace rest n g))
    go true is later = ap (λ (x : Full). Link m x rest) (same t (rw is refl))
    go false is later = ap (Link m t) (later (λ x there. same x (rw is there)))

pub edit_there : EditThere
edit_there [] f t u h = let here : t ≡ u = cc in ap f here
edit_there (n ∷ ns) f (Leaf l) u h = refl
edit_there (n ∷ ns) f (Group g ls) u h =
    ap (Group g) (replace_there ls n (edit ns f) (edit ns (λ _. f u)) (λ x there. edit_there ns f x u (rw there at h)))

-- ---- without places

pub plain_find : PlainFind
plain_find Empty n = refl
plain_find (Link m t rest) n = go (same_name m n) (plain_find rest n)
  where
    go : (s : Bool) → find (plain_links rest) n ≡ option_map plain (find rest n) → cond s (Some (plain t)) (find (plain_links rest) n) ≡ option_map plain (cond s (Some t) (find rest n))
    go true later = refl
    go false later = later

pub plain_insert : PlainInsert
plain_insert Empty n t = refl
plain_insert (Link m u rest) n t = go (name_lt n m) (plain_insert rest n t)
  where
    go : (s : Bool) → plain_links (insert rest n t) ≡ insert (plain_links rest) n (plain t)
        → plain_links (cond s (Link n t (Link m u rest)) (Link m u (insert rest n t))) ≡ cond s (Link n (plain t) (Link m (plain u) (plain_links rest))) (Link m (plain u) (insert (plain_links rest) n (plain t)))
    go true later = refl
    go false later = ap (Link m (plain u)) later

pub plain_remove : PlainRemove
plain_remove Empty n = refl
plain_remove (Link m u rest) n = go (same_name m n) (plain_remove rest n)
  where
    go : (s : Bool) → plain_links (remove rest n) ≡ remove (plain_links rest) n → plain_links (cond s rest (Link m u (remove rest n))) ≡ cond s (plain_links rest) (Link m (plain u) (remove (plain_links rest) n))
    go true later = refl
    go false later = ap (Link m (plain u)) later

pub plain_walk : PlainWalk
plain_walk [] t = refl
plain_walk (n ∷ ns) (Leaf l) = refl
plain_walk (n ∷ ns) (Group g ls) = rw (plain_find ls n) (go (find ls n) (plain_walk ns))
  where
    go : (o : Option Full) → ((x : Full) → walk (plain x) ns ≡ (walk x ns >>= λ u. Ok (plain u))) → (ok_or (option_map plain o) Absent >>= λ x. walk x ns) ≡ ((ok_or o Absent >>= λ x. walk x ns) >>= λ u. Ok (plain u))
    go None below = refl
    go (Some x) below = below x

plain_replaced : (ls : FullLinks) (n : Name) (f : Full → Full) (h : Plain → Plain) → ((x : Full) → find ls n ≡ Some x → plain (f x) ≡ h (plain x)) → plain_links (replace ls n f) ≡ replace (plain_links ls) n h
plain_replaced Empty n f h same = refl
plain_replaced (Link m t rest) n f h same = go (same_name m n) refl (plain_replaced rest n f h)
  where
    go : (s : Bool) → same_name m n ≡ s → (((x : Full) → find rest n ≡ Some x → plain (f x) ≡ h (plain x)) → plain_links (replace rest n f) ≡ replace (plain_links rest) n h)
        → plain_links (cond s (Link m (f t) rest) (Link m t (replace rest n f))) ≡ cond s (Link m (h (plain t)) (plain_links rest)) (Link m (plain t) (replace (plain_links rest) n h))
    go true is later = ap (λ (x : Plain). Link m x (plain_links rest)) (same t (rw is refl))
    go false is later = ap (Link m (plain t)) (later (λ x there. same x (rw is there)))

pub plain_change : PlainChange
plain_change [] f h t same = same t refl
plain_change (n ∷ ns) f h (Leaf l) same = refl
plain_change (n ∷ ns) f h (Group g ls) same =
    ap (Group tt) (plain_replaced ls n (edit ns f) (edit ns h) (λ x there. plain_change ns f h x (λ u on. same u (rw there on))))
