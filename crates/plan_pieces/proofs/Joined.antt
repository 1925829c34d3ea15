-- Images that change, and those that stand already.
use Rattle.std.proofs.Common.{◌≡◌, inl, inr, List, length, [], ◌∷◌, ◌++◌, refl, sym, subst, arith}
use Rattle.std.specs.List.{Contains}
use Rattle.std.specs.List.Sorted.{IsPermutation}
use Rattle.std.proofs.lemmas.List.{append_assoc}
use Rattle.std.proofs.lemmas.List.Elements.{Contains-append_cases}
use Rattle.std.proofs.lemmas.List.Sorted.{IsPermutation-refl, IsPermutation-append_left, IsPermutation-append_right}
use Rattle.std.proofs.lemmas.List.Sorted.{IsPermutation-append_comm, IsPermutation-trans, IsPermutation-sym}
use Rattle.std.proofs.lemmas.List.Sorted.{Contains-permutation}
use Rattle.block_space.proofs.Apart.{contains_cons, none_contained}
use Rattle.plan_pieces.specs.declared.image.Image.{Image}
use Rattle.plan_pieces.specs.Plan.{AreChanged, Joins}

pub none_changed : (old : List Image) → AreChanged old [] []
none_changed old = record { same = []; all = IsPermutation-refl []; stand = λ i has. absurd (none_contained i has) }

one_contained : (x i : Image) → Contains (x ∷ []) i → x ≡ i
one_contained x i has = elim (contains_cons x [] i has) [ inl e ↦ e | inr none ↦ absurd (none_contained i none) ]

module _ (old : List Image) (i : Image) (images before : List Image) (h : AreChanged old images before) where
  behind : IsPermutation (images ++ i ∷ []) (before ++ (h.same ++ i ∷ []))
  behind = subst (IsPermutation (images ++ i ∷ [])) (append_assoc before h.same (i ∷ []))
      (IsPermutation-append_left (i ∷ []) images (before ++ h.same) h.all)

  between : IsPermutation (images ++ i ∷ []) ((before ++ i ∷ []) ++ h.same)
  between = subst (IsPermutation (images ++ i ∷ [])) (sym (append_assoc before (i ∷ []) h.same))
      (IsPermutation-trans (images ++ i ∷ []) (before ++ (h.same ++ i ∷ [])) (before ++ ((i ∷ []) ++ h.same)) behind
      (IsPermutation-append_right before (h.same ++ i ∷ []) ((i ∷ []) ++ h.same)
      (IsPermutation-append_comm h.same (i ∷ []))))

  stands_too : Contains old i → (x : Image) → Contains (h.same ++ i ∷ []) x → Contains old x
  stands_too has x joined = elim (Contains-append_cases h.same (i ∷ []) x joined) [
    | inl before ↦ h.stand x before
    | inr last ↦ subst (Contains old) (one_contained i x last) has
  ]

  pub one_more : (now : List Image) → Joins old i before now → AreChanged old (images ++ i ∷ []) now
  one_more now (inl e) = record {
    same = h.same;
    all = subst (λ (c : List Image). IsPermutation (images ++ i ∷ []) (c ++ h.same)) (sym e) between;
    stand = h.stand;
  }
  one_more now (inr s) = record {
    same = h.same ++ i ∷ [];
    all = subst (λ (c : List Image). IsPermutation (images ++ i ∷ []) (c ++ (h.same ++ i ∷ []))) (sym s.1) behind;
    stand = stands_too s.0;
  }

-- what stands in a list does in any order of it
pub any_order : (old sorted images changed : List Image) → IsPermutation old sorted → AreChanged sorted images changed
    → AreChanged old images changed
any_order old sorted images changed moved h = record {
  same = h.same;
  all = h.all;
  stand = λ i has.
      Contains-permutation sorted old i (IsPermutation-sym old sorted moved) (h.stand i has);
}

pub nothing : {X : Type 0} (xs : List X) → length xs ≡ 0 → xs ≡ []
nothing [] e = refl
nothing (x ∷ xs) e = absurd (omega (arith, e))
