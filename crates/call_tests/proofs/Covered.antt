-- A range is covered where it is the one that is given.
use Rattle.std.proofs.Common.{ℕ, ◌≡◌, List, [], ◌∷◌, refl, sym, ◌∙◌, subst, arith}
use Rattle.h5_base.specs.declared.extent.Extent.{Extent}
use Rattle.outside.specs.Space.{AreCovered}

covered : (r : Extent) (at n : ℕ) → r.start ≡ at → r.len ≡ n → AreCovered (r ∷ []) at n
covered r at n start len a low high = (r, (0, omega arith, refl), omega arith, omega arith)

pub covered_by : (prepared ranges : List Extent) (r : Extent) (at n : ℕ) → prepared ≡ ranges → ranges ≡ r ∷ [] → r.start ≡ at → r.len ≡ n → AreCovered prepared at n
covered_by prepared ranges r at n given one start len = subst (λ (l : List Extent). AreCovered l at n) (sym (given ∙ one)) (covered r at n start len)
