-- Names that ascend, by the first and the last of them.
use Rattle.std.proofs.Common.{◌≡◌, ℕ, ◌-◌, suc, Bool, true, false, not, IsTrue, List, [], ◌∷◌, ◌++◌, length, Some, None, refl, sym, ◌∙◌, ap, subst, arith}
use Rattle.std.specs.List.{slice_get}
use Rattle.std.proofs.lemmas.List.{map-append}
use Rattle.object_model.specs.Tree.{Name, name_lt, AreOrdered}
use Rattle.object_model.proofs.OrderLemmas.{lt_trans}
use Rattle.file_model.specs.Groups.{Found, Header, AreBetween}
use Rattle.file_model.specs.RefusedGroups.{names_of}
use Rattle.group_reader.specs.declared.link.FoundLink.{FoundLink}
use Rattle.group_reader.specs.Links.{found_of, links_of}

-- the last of a list that begins so
abbrev pub last_of : Found → List Found → Found
last_of f [] = f
last_of f (g ∷ fs) = last_of g fs

last_is : (x : FoundLink) (xs : List FoundLink) (y : FoundLink) → slice_get (x ∷ xs) (length (x ∷ xs) - 1) ≡ Some y → last_of (found_of x) (links_of xs) ≡ found_of y
last_is x [] y h = let e : x ≡ y = cc in ap found_of e
last_is x (z ∷ xs) y h =
    let e : length (x ∷ z ∷ xs) - 1 ≡ suc (length (z ∷ xs) - 1) = omega arith in
    last_is z xs y (subst (λ (n : ℕ). slice_get (x ∷ z ∷ xs) n ≡ Some y) e h)

-- ---- two lists, one behind the other

join : (f : Found) (fs : List Found) (g : Found) (gs : List Found) → AreOrdered (names_of (f ∷ fs)) → AreOrdered (names_of (g ∷ gs)) → name_lt (last_of f fs).name g.name ≡ true → AreOrdered (names_of ((f ∷ fs) ++ g ∷ gs))
join f [] g gs o p lt = (lt, p)
join f (h ∷ fs) g gs o p lt = (o.0, join h fs g gs o.1 p lt)

joined : (f : Found) (fs : List Found) (g : Found) (gs : List Found) → AreOrdered (names_of ((f ∷ fs) ++ g ∷ gs)) → name_lt (last_of f fs).name g.name ≡ true
joined f [] g gs o = o.0
joined f (h ∷ fs) g gs o = joined h fs g gs o.1

abbrev pub IsAnswer : Bool → Type 0 → Type 0
IsAnswer r P = (IsTrue r → P) × (P → IsTrue r)

pub both_ascend : (xs : List FoundLink) (x : FoundLink) (g : Found) (gs : List Found) (r : Bool) → slice_get xs (length xs - 1) ≡ Some x → r ≡ name_lt x.name g.name → AreOrdered (names_of (links_of xs)) → AreOrdered (names_of (g ∷ gs))
    → IsAnswer r (AreOrdered (names_of (links_of xs ++ g ∷ gs)))
both_ascend [] x g gs r last is o p = let none : None ≡ Some x = last in cc
both_ascend (z ∷ xs) x g gs r last is o p =
    let e : last_of (found_of z) (links_of xs) ≡ found_of x = last_is z xs x last in
    let same : r ≡ name_lt (last_of (found_of z) (links_of xs)).name g.name = is ∙ ap (λ (f : Found). name_lt f.name g.name) (sym e) in
    (λ yes. join (found_of z) (links_of xs) g gs o p (sym same ∙ yes), λ all. same ∙ joined (found_of z) (links_of xs) g gs all)

pub name_ascends : (xs : List FoundLink) (x : FoundLink) (n : Name) (r : Bool) → slice_get xs (length xs - 1) ≡ Some x → r ≡ name_lt x.name n → AreOrdered (names_of (links_of xs))
    → IsAnswer r (AreOrdered (names_of (links_of xs) ++ n ∷ []))
name_ascends xs x n r last is o =
    let g : Found = record { name = n; target = Header 0 } in
    subst (λ (l : List Name). IsAnswer r (AreOrdered l)) (map-append (λ (f : Found). f.name) (links_of xs) (g ∷ [])) (both_ascend xs x g [] r last is o (tt, tt))

pub first_is : (xs : List FoundLink) (x : FoundLink) → slice_get xs 0 ≡ Some x → (rest : List FoundLink) × (xs ≡ x ∷ rest)
first_is [] x h = let none : None ≡ Some x = h in cc
first_is (z ∷ xs) x h = let e : z ≡ x = cc in (xs, ap (λ (y : FoundLink). y ∷ xs) e)

pub lists_ascend : (xs ys : List FoundLink) (x y : FoundLink) (r : Bool) → slice_get xs (length xs - 1) ≡ Some x → slice_get ys 0 ≡ Some y → r ≡ name_lt x.name y.name → AreOrdered (names_of (links_of xs)) → AreOrdered (names_of (links_of ys))
    → IsAnswer r (AreOrdered (names_of (links_of xs ++ links_of ys)))
lists_ascend xs ys x y r last first is o p =
    let e = first_is ys y first in
    let p' : AreOrdered (names_of (links_of (y ∷ e.0))) = subst (λ (l : List FoundLink). AreOrdered (names_of (links_of l))) e.1 p in
    subst (λ (l : List FoundLink). IsAnswer r (AreOrdered (names_of (links_of xs ++ links_of l)))) (sym e.1) (both_ascend xs x (found_of y) (links_of e.0) r last is o p')

-- ---- between two names

contrary : (b : Bool) → (b ≡ true → ⊥) → b ≡ false
contrary true h = absurd (h refl)
contrary false h = refl

at_most : (high : Name) (f : Found) (fs : List Found) → AreOrdered (names_of (f ∷ fs)) → name_lt high (last_of f fs).name ≡ false → name_lt high f.name ≡ false
at_most high f [] o h = h
at_most high f (g ∷ fs) o h =
    contrary (name_lt high f.name) (λ yes. let a = at_most high g fs o.1 h in let b : name_lt high g.name ≡ true = lt_trans high f.name g.name yes o.0 in cc)

all_between : (low high : Name) (f : Found) (fs : List Found) → AreOrdered (names_of (f ∷ fs)) → name_lt low f.name ≡ true → name_lt high (last_of f fs).name ≡ false → AreBetween low high (f ∷ fs)
all_between low high f [] o above below = ((above, below), tt)
all_between low high f (g ∷ fs) o above below =
    ((above, at_most high f (g ∷ fs) o below), all_between low high g fs o.1 (lt_trans low f.name g.name above o.0) below)

last_between : (low high : Name) (f : Found) (fs : List Found) → AreBetween low high (f ∷ fs) → name_lt high (last_of f fs).name ≡ false
last_between low high f [] h = h.0.1
last_between low high f (g ∷ fs) h = last_between low high g fs h.1

pub lie_between : (low high : Name) (xs : List FoundLink) (x y : FoundLink) → slice_get xs 0 ≡ Some x → slice_get xs (length xs - 1) ≡ Some y → AreOrdered (names_of (links_of xs)) → name_lt low x.name ≡ true → name_lt high y.name ≡ false
    → AreBetween low high (links_of xs)
lie_between low high [] x y first last o above below = tt
lie_between low high (z ∷ xs) x y first last o above below =
    let e : z ≡ x = cc in
    let f : last_of (found_of z) (links_of xs) ≡ found_of y = last_is z xs y last in
    all_between low high (found_of z) (links_of xs) o (ap (λ (l : FoundLink). name_lt low l.name) e ∙ above) (ap (λ (l : Found). name_lt high l.name) f ∙ below)

pub lies_below : (low high : Name) (xs : List FoundLink) (y : FoundLink) → slice_get xs (length xs - 1) ≡ Some y → AreBetween low high (links_of xs) → name_lt high y.name ≡ false
lies_below low high [] y last h = let none : None ≡ Some y = last in cc
lies_below low high (z ∷ xs) y last h =
    let f : last_of (found_of z) (links_of xs) ≡ found_of y = last_is z xs y last in
    ap (λ (l : Found). name_lt high l.name) (sym f) ∙ last_between low high (found_of z) (links_of xs) h

pub between_answer : (low high : Name) (xs : List FoundLink) (x y : FoundLink) (r : Bool) → slice_get xs 0 ≡ Some x → slice_get xs (length xs - 1) ≡ Some y → name_lt low x.name ≡ true → r ≡ name_lt high y.name → AreOrdered (names_of (links_of xs))
    → IsAnswer (not r) (AreBetween low high (links_of xs))
between_answer low high xs x y true first last above is o = (λ yes. (cc), λ all. let no = lies_below low high xs y last all in (cc))
between_answer low high xs x y false first last above is o = (λ yes. lie_between low high xs x y first last o above (sym is), λ all. refl)
