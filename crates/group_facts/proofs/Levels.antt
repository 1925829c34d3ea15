-- A row of two comes under the root only where many stand below.
use Rattle.std.proofs.Common.{◌≡◌, ◌⊎◌, inl, inr, ℕ, suc, ◌+◌, ◌*◌, ◌<◌, ◌≤◌, ◌^◌, List, [], ◌∷◌, ◌++◌, length, refl}
use Rattle.std.proofs.Common.{◌∙◌, ap, arith}
use Rattle.std.proofs.lemmas.List.{length-append}
use Rattle.std.proofs.Math.Nat.{mul-le-mul_right, pow-succ'}
use Rattle.group_layout.specs.Rows.{HaveRoom}
use Rattle.group_layout.specs.Growth.{AreWider}
use Rattle.group_facts.specs.Grown.{FewLevels}

-- where no more stand below than did, no row comes
stays : (room old below tree : ℕ) (rows wider : List (List ℕ)) → below ≤ old
    → HaveRoom room old (rows ++ (tree ∷ []) ∷ []) → AreWider room below rows wider → length wider ≡ length rows
stays room old below tree [] [] most had is = refl
stays room old below tree [] (pair ∷ []) most had is =
    let own : old ≤ room * 1 = had.0 in absurd (omega (arith, most, is.0))
stays room old below tree [] (row ∷ other ∷ rows) most had is = absurd is
stays room old below tree (row ∷ rows) [] most had is = absurd is
stays room old below tree (row ∷ rows) (wide ∷ wider) most had is = elim is.0 [
  | inl same ↦
      let few : length wide ≤ length row = omega (arith, ap length same.1) in
      ap suc (stays room (length row) (length wide) tree rows wider few had.1 is.1)
  | inr more ↦ absurd (omega (arith, most, had.0, more.0))
]

-- a row of two above so many rows, and what stands below them
abbrev Rises : (rows wider below : ℕ) → Type 0
Rises rows wider below = (wider ≡ rows + 1) × (2 ^ (rows + 1) < below)

step : (room rows wider row wide below : ℕ) → 2 ≤ room → room * row < below → wide ≡ suc row → Rises rows wider wide
    → Rises (suc rows) (suc wider) below
step room rows wider row wide below two lt is rises =
    let power : 2 ^ (suc rows + 1) ≡ 2 * 2 ^ (rows + 1) =
    ap (λ (n : ℕ). 2 ^ n) (omega arith) ∙ pow-succ' 2 (rows + 1) in (
      omega (arith, rises.0),
      omega (arith, mul-le-mul_right row two, lt, is, rises.1, power),
    )

rise : (room old below tree : ℕ) (rows wider : List (List ℕ)) → 2 ≤ room → below ≤ old + 1
    → HaveRoom room old (rows ++ (tree ∷ []) ∷ []) → AreWider room below rows wider
    → (length wider ≡ length rows) ⊎ Rises (length rows) (length wider) below
rise room old below tree [] [] two most had is = inl refl
rise room old below tree [] (pair ∷ []) two most had is = inr (refl, omega (arith, two, is.0))
rise room old below tree [] (row ∷ other ∷ rows) two most had is = absurd is
rise room old below tree (row ∷ rows) [] two most had is = absurd is
rise room old below tree (row ∷ rows) (wide ∷ wider) two most had is = elim is.0 [
  | inl same ↦
      let few : length wide ≤ length row = omega (arith, ap length same.1) in
      inl (ap suc (stays room (length row) (length wide) tree rows wider few had.1 is.1))
  | inr more ↦
      let n : length wide ≡ suc (length row) =
      omega (arith, ap length more.2, length-append row (more.1 ∷ [])) in
      elim (rise room (length row) (length wide) tree rows wider two (omega (arith, n)) had.1 is.1) [
        | inl none ↦ inl (ap suc none)
        | inr rises ↦ inr (step room (length rows) (length wider) (length row) (length wide) below two more.0 n rises)
      ]
]

pub few_levels : FewLevels
few_levels room old below tree rows wider two most had is = elim (rise room old below tree rows wider two most had is) [
  | inl same ↦ inl same
  | inr rises ↦ inr (rises.0, omega (arith, rises.1))
]
