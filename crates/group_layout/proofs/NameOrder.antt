-- Names that don't descend, and links between two of them.
use Rattle.std.proofs.Common.{◌≡◌, Bool, true, false, List, [], ◌∷◌, ◌++◌, refl, sym, ◌∙◌, ap, inl, inr}
use Rattle.std.specs.declared.cmp.Ordering.{Ordering}
use Rattle.std.specs.declared.cmp.Ordering.TheVariants.{Less, Equal, Greater}
use Rattle.std.specs.Ordering.{is_lt, nat_cmp, ordering_reverse}
use Rattle.std.specs.Cmp.Lexicographic.{slice_cmp}
use Rattle.std.proofs.lemmas.Cmp.{nat_list_cmp_total}
use Rattle.object_model.specs.Tree.{Name, name_lt}
use Rattle.object_model.proofs.TreeLemmas.{same_or_not}
use Rattle.object_model.proofs.OrderLemmas.{lt_trans, lt_other}
use Rattle.file_model.specs.Groups.{Found, AreBetween}

not_true : (b : Bool) → (b ≡ true → ⊥) → b ≡ false
not_true true h = absurd (h refl)
not_true false h = refl

-- at most, then below
pub le_lt : (a b c : Name) → name_lt b a ≡ false → name_lt b c ≡ true → name_lt a c ≡ true
le_lt a b c le lt = elim (same_or_not a b) [
  | inl same ↦ ap (λ (n : Name). name_lt n c) same.1 ∙ lt
  | inr other ↦ lt_trans a b c (lt_other b a le other.1) lt
]

pub le_trans : (a b c : Name) → name_lt b a ≡ false → name_lt c b ≡ false → name_lt c a ≡ false
le_trans a b c first second = elim (same_or_not a b) [
  | inl same ↦ ap (λ (n : Name). name_lt c n) same.1 ∙ second
  | inr other ↦ not_true (name_lt c a) (λ lt.
      let back : name_lt c b ≡ true = lt_trans c a b lt (lt_other b a first other.1) in
      let both : true ≡ false = sym back ∙ second in cc)
]

not_less : (o : Ordering) → o ≡ ordering_reverse o → is_lt o ≡ false
not_less Less same = cc
not_less Equal same = refl
not_less Greater same = refl

pub le_itself : (a : Name) → name_lt a a ≡ false
le_itself a = not_less (slice_cmp nat_cmp a a) (nat_list_cmp_total.antisymm a a)

pub lt_le : (a b : Name) → name_lt a b ≡ true → name_lt b a ≡ false
lt_le a b lt = not_true (name_lt b a) (λ back.
    let itself : name_lt a a ≡ true = lt_trans a b a lt back in
    let both : true ≡ false = sym itself ∙ le_itself a in cc)

-- links between two names are between names that are further apart
pub between_wider : (a low high b : Name) (fs : List Found) → name_lt low a ≡ false → name_lt b high ≡ false
    → AreBetween low high fs → AreBetween a b fs
between_wider a low high b [] first second h = h
between_wider a low high b (f ∷ fs) first second h = (
  (le_lt a low f.name first h.0.0, le_trans f.name high b h.0.1 second),
  between_wider a low high b fs first second h.1,
)

pub between_both : (a b : Name) (fs gs : List Found) → AreBetween a b fs → AreBetween a b gs → AreBetween a b (fs ++ gs)
between_both a b [] gs h k = k
between_both a b (f ∷ fs) gs h k = (h.0, between_both a b fs gs h.1 k)
