-- A plan of two writes and three takes fits a catalogue with one block of 16 bytes.
use Rattle.std.proofs.Common.{ℕ, zero, suc, ◌+◌, ◌≡◌, ◌⊎◌, ◌∙◌, ◌≤◌, List, [], ◌∷◌, length, refl, sym, subst, arith}
use Rattle.std.specs.List.{Contains}
use Rattle.h5_base.specs.declared.extent.Extent.{Extent}
use Rattle.h5_base.specs.declared.extent.MemClass.{MemClass}
use Rattle.h5_base.specs.declared.extent.MemClass.TheVariants.{Super, Tree, Raw, GlobalHeap, LocalHeap, Header}
use Rattle.h5_base.specs.declared.kinds.BlockKind.{BlockKind}
use Rattle.outside.specs.Blocks.{Block}
use Rattle.block_space.specs.Plans.{FitsCatalogue, LiesInOne, needed, sum_of}
use Rattle.block_space.specs.declared.plan.Needs.{Needs}
use Rattle.block_space.specs.declared.plan.Take.{Take}
use Rattle.block_space.specs.declared.plan.EditPlan.{EditPlan}
use Rattle.block_space.proofs.Apart.{contains_head, none_contained}

abbrev whole : Block
whole = record { start = 0; len = 16 }

abbrev three : (j k l : BlockKind) → List Take
three j k l = record { class = Tree; len = 5; kind = j } ∷ record { class = Raw; len = 8; kind = k }
    ∷ record { class = Header; len = 9; kind = l } ∷ []

abbrev sums : Needs
sums = record { bytes = 0 ∷ 8 ∷ 8 ∷ 0 ∷ 0 ∷ 16 ∷ []; blocks = 3 }

abbrev made_of : List Take → List Extent → List (List ℕ) → EditPlan
made_of takes writes images = record { needs = sums; takes = takes; writes = writes; images = images }

-- a range from 2 to 5 and one from 10 to 12
pub record AreWrites (r s : Extent) : Type 0 where
  pub first : r.start ≡ 2
  pub first_len : r.len ≡ 3
  pub second : s.start ≡ 10
  pub second_len : s.len ≡ 2

-- an image of a take
abbrev pub IsImage : ℕ → List ℕ → Type 0
IsImage n image = (image ≡ []) ⊎ (length image ≡ n)

in_whole : (w : Extent) → w.start + w.len ≤ 16 → LiesInOne (whole ∷ []) w.start w.len
in_whole w low = (whole, contains_head whole [], omega arith, low)

within : (r s : Extent) → AreWrites r s → (w : Extent) → Contains (r ∷ s ∷ []) w → LiesInOne (whole ∷ []) w.start w.len
within r s are w (zero, low, one) = subst (λ (v : Extent). LiesInOne (whole ∷ []) v.start v.len) one
    (in_whole r (omega (arith, are.first, are.first_len)))
within r s are w (suc zero, low, one) = subst (λ (v : Extent). LiesInOne (whole ∷ []) v.start v.len) one
    (in_whole s (omega (arith, are.second, are.second_len)))
within r s are w (suc (suc k), low, one) = absurd (none_contained w (k, omega arith, one))

bytes : (j k l : BlockKind) (c : MemClass) → needed sums c ≡ sum_of c (three j k l)
bytes j k l Super = refl
bytes j k l Tree = refl
bytes j k l Raw = refl
bytes j k l GlobalHeap = refl
bytes j k l LocalHeap = refl
bytes j k l Header = refl

fits_of : (j k l : BlockKind) (r s : Extent) (a b c d e : List ℕ) → AreWrites r s
    → length a ≡ 3 → length b ≡ 2 → IsImage 5 c → IsImage 8 d → IsImage 9 e
    → FitsCatalogue (whole ∷ []) (made_of (three j k l) (r ∷ s ∷ []) (a ∷ b ∷ c ∷ d ∷ e ∷ []))
fits_of j k l r s a b c d e are la lb lc ld le = record {
  ascend = (omega (arith, are.first, are.second), tt);
  within = within r s are;
  as_long = (la ∙ sym are.first_len, (lb ∙ sym are.second_len, tt));
  filled = (omega arith, lc, (omega arith, ld, (omega arith, le, refl)));
  bytes = bytes j k l;
  blocks = refl;
  small = omega arith;
}

pub fits : (j k l : BlockKind) (r s : Extent) (a b c d e : List ℕ) (takes : List Take) (writes : List Extent)
    (images : List (List ℕ)) → takes ≡ three j k l → writes ≡ r ∷ s ∷ [] → images ≡ a ∷ b ∷ c ∷ d ∷ e ∷ []
    → AreWrites r s → length a ≡ 3 → length b ≡ 2 → IsImage 5 c → IsImage 8 d → IsImage 9 e
    → FitsCatalogue (whole ∷ []) (made_of takes writes images)
fits j k l r s a b c d e takes writes images t w i are la lb lc ld le =
    subst (λ (ts : List Take). FitsCatalogue (whole ∷ []) (made_of ts writes images)) (sym t)
    (subst (λ (ws : List Extent). FitsCatalogue (whole ∷ []) (made_of (three j k l) ws images)) (sym w)
    (subst (λ (is : List (List ℕ)). FitsCatalogue (whole ∷ []) (made_of (three j k l) (r ∷ s ∷ []) is)) (sym i)
    (fits_of j k l r s a b c d e are la lb lc ld le)))

pub same_five : (a b c d e f g h i j : List ℕ) → a ≡ f → b ≡ g → c ≡ h → d ≡ i → e ≡ j
    → (a ∷ b ∷ c ∷ d ∷ e ∷ []) ≡ (f ∷ g ∷ h ∷ i ∷ j ∷ [])
same_five a b c d e f g h i j p q r s t = λ k. p k ∷ q k ∷ r k ∷ s k ∷ t k ∷ []
