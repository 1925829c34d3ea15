-- Names that ascend with one more and one fewer, and which name stands at a place.
use Rattle.std.proofs.Common.{◌≡◌, ◌≢◌, ℕ, zero, suc, ◌<◌, true, false, List, [], ◌∷◌, length, take, refl, sym, ◌∙◌, ap}
use Rattle.std.proofs.Common.{arith, inl, inr}
use Rattle.std.specs.List.{insert, remove}
use Rattle.std.specs.Ordering.{is_lt, nat_cmp, ordering_reverse}
use Rattle.std.specs.Cmp.Lexicographic.{slice_cmp}
use Rattle.std.specs.declared.cmp.Ordering.{Ordering}
use Rattle.std.specs.declared.cmp.Ordering.TheVariants.{Less, Equal, Greater}
use Rattle.std.proofs.lemmas.Bool.{cases_lt}
use Rattle.std.proofs.lemmas.Cmp.{nat_list_cmp_total}
use Rattle.std.proofs.lemmas.List.{get_or_default}
use Rattle.std.proofs.lemmas.List.Elements.{All-head, All-tail}
use Rattle.object_model.specs.Tree.{Name, name_lt, AreOrdered, ComesFirst}
use Rattle.object_model.proofs.OrderLemmas.{lt_trans, lt_other}
use Rattle.file_model.specs.Groups.{Found}
use Rattle.file_model.specs.RefusedGroups.{names_of}
use Rattle.entry_list.specs.Places.{IsPlace, HasName}
use Rattle.entry_list.proofs.PlaceLemmas.{name_at, further_on, place_between}
use Rattle.entry_list.specs.Laws.{OrderInsert, OrderRemove, NameFound, NameLacking}

abbrev Before : Name → Found → Type 0
Before name f = name_lt f.name name ≡ true

-- ---- one more

first_insert : (k : Name) (fs : List Found) (n : ℕ) (f : Found) → ComesFirst k (names_of fs)
    → name_lt k f.name ≡ true → ComesFirst k (names_of (insert fs n f))
first_insert k fs zero f first lt = lt
first_insert k [] (suc n) f first lt = lt
first_insert k (g ∷ fs) (suc n) f first lt = first

place_rest : (g : Found) (fs : List Found) (name : Name) (n : ℕ) → IsPlace (g ∷ fs) name (suc n) → IsPlace fs name n
place_rest g fs name n p = record {
  within = omega (arith, p.within);
  before = All-tail (Before name) g (take n fs) p.before;
  behind = p.behind;
}

has_rest : (g : Found) (fs : List Found) (name : Name) → HasName fs name → HasName (g ∷ fs) name
has_rest g fs name h = record {
  link = h.link;
  one = (suc h.one.0, omega (arith, h.one.1), h.one.2);
  is = h.is;
}

pub order_insert : OrderInsert
order_insert [] zero f o p h = (tt, tt)
order_insert [] (suc n) f o p h = (tt, tt)
order_insert (g ∷ fs) zero f o p h =
    let other : g.name ≢ f.name = λ is. h (record { link = g; one = (0, omega arith, refl); is = is }) in
    (lt_other g.name f.name (p.behind 0 g (omega arith)) (λ is. other (sym is)), o)
order_insert (g ∷ fs) (suc n) f o p h = (
  first_insert g.name fs n f o.0 (All-head (Before f.name) g (take n fs) p.before),
  order_insert fs n f o.1 (place_rest g fs f.name n p) (λ there. h (has_rest g fs f.name there)),
)

-- ---- one fewer

first_first : (k m : Name) (fs : List Found) → name_lt k m ≡ true → ComesFirst m (names_of fs)
    → ComesFirst k (names_of fs)
first_first k m [] lt first = tt
first_first k m (f ∷ fs) lt first = lt_trans k m f.name lt first

first_remove : (k : Name) (fs : List Found) (n : ℕ) → ComesFirst k (names_of fs) → AreOrdered (names_of fs)
    → ComesFirst k (names_of (remove fs n))
first_remove k [] zero first o = tt
first_remove k [] (suc n) first o = tt
first_remove k (f ∷ fs) zero first o = first_first k f.name fs first o.0
first_remove k (f ∷ fs) (suc n) first o = first

pub order_remove : OrderRemove
order_remove [] n o lt = absurd (omega (arith, lt))
order_remove (f ∷ fs) zero o lt = o.1
order_remove (f ∷ fs) (suc n) o lt =
    (first_remove f.name fs n o.0 o.1, order_remove fs n o.1 (omega (arith, lt)))

-- ---- the name at a place

-- no name comes before itself
not_itself : (n : Name) → name_lt n n ≡ false
not_itself n = go (slice_cmp nat_cmp n n) (nat_list_cmp_total.antisymm n n)
  where
    go : (o : Ordering) → o ≡ ordering_reverse o → is_lt o ≡ false
    go Less turned = cc
    go Equal turned = refl
    go Greater turned = refl

-- the index of a link with the name is the place
index_is : (fs : List Found) (name : Name) (n k : ℕ) (d : Found) → AreOrdered (names_of fs) → IsPlace fs name n
    → k < length fs → name_at fs d k ≡ name → k ≡ n
index_is fs name n k d o p within is =
    let b = place_between fs name n p in
    let no : name_lt (name_at fs d k) name ≡ false = (λ j. name_lt (is j) name) ∙ not_itself name in
    elim (cases_lt k n) [
      | inl less ↦ let before = b.before k d less in cc
      | inr more ↦ elim (cases_lt n k) [
        | inl less ↦
            let after = b.behind n d (omega arith) (omega (arith, less, within)) in
            let first : name_lt (name_at fs d n) name ≡ true =
            sym (λ j. name_lt (name_at fs d n) (is j)) ∙ further_on fs n k d o less within in
            cc
        | inr same ↦ omega (arith, more, same)
      ]
    ]

pub name_found : NameFound
name_found fs name n d o p h =
    let k = h.one.0 in
    let within = h.one.1 in
    let named : name_at fs d k ≡ name =
    ap (λ (f : Found). f.name) (get_or_default fs k d h.link within ∙ h.one.2) ∙ h.is in
    let same : k ≡ n = index_is fs name n k d o p within named in
    (omega (arith, same, within), (λ j. name_at fs d (sym same j)) ∙ named)

pub name_lacking : NameLacking
name_lacking fs name n d o p other h =
    let there = name_found fs name n d o p h in
    other there.0 there.1
