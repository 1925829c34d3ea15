-- Edits of a tree that is held.
use Rattle.std.proofs.Common.{◌≡◌, Bool, true, false, cond, List, [], ◌∷◌, ◌++◌, Option, Some, None, Result, Ok, Err, refl, sym, ◌∙◌, ap, subst}
use Rattle.outside.specs.Array.{Array}
use Rattle.object_model.specs.declared.answer.Code.{Code}
use Rattle.object_model.specs.declared.answer.Code.TheVariants.{Absent}
use Rattle.object_model.specs.Tree.{Group, Leaf, Empty, Link, Name, same_name, name_lt, find, walk, edit, insert, remove, replace, map_links}
use Rattle.object_model.specs.Step.{Plain, PlainLinks}
use Rattle.outside.specs.Blocks.{Agree}
use Rattle.file_model.specs.Groups.{Ks, Found}
use Rattle.file_model.specs.Holds.{Full, FullLinks, GroupAt, founds, target_of, IsHeld, AreHeld, IsGroup, blocks_of, blocks_in, object_of, plain}
use Rattle.file_model.specs.Laws.{EditLaw, InsertLaw, RemoveLaw, ReplaceLaw, PlainEdit, beside, beside_in}
use Rattle.file_model.proofs.FrameBytes.{agree_left, agree_right}
use Rattle.file_model.proofs.FrameLemmas.{frame, group_stays, links_held}

abbrev okay : Full → Result Full Code
okay t = Ok t

ok_is : (t u : Full) → okay t ≡ okay u → t ≡ u
ok_is t u h = cc

some_is : (t u : Full) → Some t ≡ Some u → t ≡ u
some_is t u h = cc

-- what a name leads to, on the way to the end of a path
record Leads (ls : FullLinks) (n : Name) (ns : List Name) (u : Full) : Type 0 where
  child : Full
  found : find ls n ≡ Some child
  on : walk child ns ≡ okay u

leads_on : (g : GroupAt) (ls : FullLinks) (n : Name) (ns : List Name) (u : Full) → walk (Group g ls) (n ∷ ns) ≡ okay u → Leads ls n ns u
leads_on g ls n ns u h = go (find ls n) refl
  where
    go : (o : Option Full) → find ls n ≡ o → Leads ls n ns u
    go None is = let none : walk (Group g ls) (n ∷ ns) ≡ Err Absent = rw is refl in cc
    go (Some x) is = record { child = x; found = is; on = rw is at h }

target_stays : (p : List Name) (t u v : Full) → walk t p ≡ okay u → target_of v ≡ target_of u → target_of (edit p (λ _. v) t) ≡ target_of t
target_stays [] t u v h same = same ∙ ap target_of (sym (ok_is t u h))
target_stays (n ∷ ns) (Group g ls) u v h same = refl
target_stays (n ∷ ns) (Leaf l) u v h same = refl

founds_stay : (ls : FullLinks) (n : Name) (f : Full → Full) → ((x : Full) → find ls n ≡ Some x → target_of (f x) ≡ target_of x) → founds (replace ls n f) ≡ founds ls
founds_stay Empty n f same = refl
founds_stay (Link m t rest) n f same = go (same_name m n) refl (founds_stay rest n f)
  where
    go : (b : Bool) → same_name m n ≡ b → (((x : Full) → find rest n ≡ Some x → target_of (f x) ≡ target_of x) → founds (replace rest n f) ≡ founds rest)
        → founds (cond b (Link m (f t) rest) (Link m t (replace rest n f))) ≡ record { name = m; target = target_of t } ∷ founds rest
    go true is later = let e : target_of (f t) ≡ target_of t = same t (rw is refl) in (λ j. record { name = m; target = e j } ∷ founds rest)
    go false is later = ap (λ (fs : List Found). record { name = m; target = target_of t } ∷ fs) (later (λ x found. same x (rw is found)))

links_edit : (b c : Array) (ks : Ks) (n : Name) (ns : List Name) (ls : FullLinks) (u v : Full)
    → ((x : Full) → walk x ns ≡ okay u → IsHeld b ks x → Agree b c (beside ns x) → IsHeld c ks (edit ns (λ _. v) x))
    → Leads ls n ns u → AreHeld b ks ls → Agree b c (beside_in n ns ls) → AreHeld c ks (replace ls n (edit ns (λ _. v)))
links_edit b c ks n ns Empty u v below leads h agree = let none = leads.found in cc
links_edit b c ks n ns (Link m t rest) u v below leads h agree = go (same_name m n) refl agree (links_edit b c ks n ns rest u v below)
  where
    go : (s : Bool) → same_name m n ≡ s → Agree b c (cond s (beside ns t ++ blocks_in rest) (blocks_of t ++ beside_in n ns rest))
        → (Leads rest n ns u → AreHeld b ks rest → Agree b c (beside_in n ns rest) → AreHeld c ks (replace rest n (edit ns (λ _. v))))
        → AreHeld c ks (cond s (Link m (edit ns (λ _. v) t) rest) (Link m t (replace rest n (edit ns (λ _. v)))))
    go true is agree later =
        let found : find (Link m t rest) n ≡ Some t = rw is refl in
        let here : leads.child ≡ t = some_is leads.child t (sym leads.found ∙ found) in
        let on : walk t ns ≡ okay u = ap (λ (x : Full). walk x ns) (sym here) ∙ leads.on in
        (below t on h.0 (agree_left b c (beside ns t) (blocks_in rest) agree), links_held b c ks rest (agree_right b c (beside ns t) (blocks_in rest) agree) h.1)
    go false is agree later =
        let found : find rest n ≡ Some leads.child = rw is at leads.found in (
          frame b c ks t (agree_left b c (blocks_of t) (beside_in n ns rest) agree) h.0,
          later (record { child = leads.child; found = found; on = leads.on }) h.1 (agree_right b c (blocks_of t) (beside_in n ns rest) agree),
        )

pub edit_held : EditLaw
edit_held b c ks [] t u v leads h agree new same = new
edit_held b c ks (n ∷ ns) (Leaf l) u v leads h agree new same = cc
edit_held b c ks (n ∷ ns) (Group g ls) u v leads h agree new same =
    let on = leads_on g ls n ns u leads in
    let links : founds (replace ls n (edit ns (λ _. v))) ≡ founds ls =
    founds_stay ls n (edit ns (λ _. v)) (λ x found.
    let here : on.child ≡ x = some_is on.child x (sym on.found ∙ found) in
    target_stays ns x u v (ap (λ (y : Full). walk y ns) (sym here) ∙ on.on) same) in (
      subst (IsGroup c ks g) (sym links) (group_stays b c ks g (founds ls) (agree_left b c g.own (beside_in n ns ls) agree) h.0),
      links_edit b c ks n ns ls u v (λ x leads' hx agree'. edit_held b c ks ns x u v leads' hx agree' new same) on h.1 (agree_right b c g.own (beside_in n ns ls) agree),
    )

pub insert_held : InsertLaw
insert_held b ks Empty n t h new = (new, tt)
insert_held b ks (Link m u rest) n t h new = go (name_lt n m) (insert_held b ks rest n t h.1 new)
  where
    go : (s : Bool) → AreHeld b ks (insert rest n t) → AreHeld b ks (cond s (Link n t (Link m u rest)) (Link m u (insert rest n t)))
    go true later = (new, h)
    go false later = (h.0, later)

pub remove_held : RemoveLaw
remove_held b ks Empty n h = tt
remove_held b ks (Link m u rest) n h = go (same_name m n) (remove_held b ks rest n h.1)
  where
    go : (s : Bool) → AreHeld b ks (remove rest n) → AreHeld b ks (cond s rest (Link m u (remove rest n)))
    go true later = h.1
    go false later = (h.0, later)

pub replace_held : ReplaceLaw
replace_held b ks Empty n t h new = tt
replace_held b ks (Link m u rest) n t h new = go (same_name m n) (replace_held b ks rest n t h.1 new)
  where
    go : (s : Bool) → AreHeld b ks (replace rest n (λ _. t)) → AreHeld b ks (cond s (Link m t rest) (Link m u (replace rest n (λ _. t))))
    go true later = (new, h.1)
    go false later = (h.0, later)

abbrev plain_links : FullLinks → PlainLinks
plain_links = map_links (λ _. tt) object_of

plain_replace : (ls : FullLinks) (n : Name) (f : Full → Full) (g : Plain → Plain) → ((t : Full) → plain (f t) ≡ g (plain t)) → plain_links (replace ls n f) ≡ replace (plain_links ls) n g
plain_replace Empty n f g same = refl
plain_replace (Link m t rest) n f g same = go (same_name m n) (plain_replace rest n f g same)
  where
    go : (s : Bool) → plain_links (replace rest n f) ≡ replace (plain_links rest) n g
        → plain_links (cond s (Link m (f t) rest) (Link m t (replace rest n f))) ≡ cond s (Link m (g (plain t)) (plain_links rest)) (Link m (plain t) (replace (plain_links rest) n g))
    go true later = ap (λ (x : Plain). Link m x (plain_links rest)) (same t)
    go false later = ap (Link m (plain t)) later

pub plain_edit : PlainEdit
plain_edit [] t v = refl
plain_edit (n ∷ ns) (Leaf l) v = refl
plain_edit (n ∷ ns) (Group g ls) v = ap (Group tt) (plain_replace ls n (edit ns (λ _. v)) (edit ns (λ _. plain v)) (λ t. plain_edit ns t v))
