-- Rows that grow where they have no room.
use Rattle.std.proofs.Common.{◌≡◌, ℕ, suc, ◌+◌, ◌*◌, ◌<◌, ◌≤◌, inl, inr, List, [], ◌∷◌, ◌++◌, length, refl, sym}
use Rattle.std.proofs.Common.{◌∙◌, ap, subst, arith}
use Rattle.std.proofs.lemmas.List.{length-append}
use Rattle.group_layout.specs.Growth.{IsWider, WiderFits, FewMore, NoneMore}

-- a row that grew has room, and at most one node more
record HasGrown (room below old_length wide_length : ℕ) : Type 0 where
  fits : below ≤ room * wide_length
  few : wide_length ≤ old_length + 1

one_more : (row : List ℕ) (at : ℕ) → length (row ++ at ∷ []) ≡ suc (length row)
one_more row at = omega (arith, length-append row (at ∷ []))

grown : (room old below : ℕ) (row wide : List ℕ) → 2 ≤ room → below ≤ old + 1 → old ≤ room * length row
    → IsWider room below row wide → HasGrown room below (length row) (length wide)
grown room old below row wide two most had (inl (le, same)) =
    subst (λ (r : List ℕ). HasGrown room below (length row) (length r)) (sym same)
    (record { fits = le; few = omega arith })
grown room old below row wide two most had (inr (lt, at, same)) =
    subst (λ (r : List ℕ). HasGrown room below (length row) (length r)) (sym same)
    (subst (HasGrown room below (length row)) (sym (one_more row at))
    (record { fits = omega (arith, two, most, had); few = omega arith }))

pub wider_fits : WiderFits
wider_fits room old below tree [] [] two most had is = (omega (arith, is), tt)
wider_fits room old below tree [] (pair ∷ []) two most had is =
    let n : length pair ≡ 2 = is.1 in
    let own : old ≤ room * 1 = had.0 in
    (rw n (omega (arith, two, most, own)), (rw n (omega (arith, two)), tt))
wider_fits room old below tree [] (row ∷ other ∷ rows) two most had is = absurd is
wider_fits room old below tree (row ∷ rows) [] two most had is = absurd is
wider_fits room old below tree (row ∷ rows) (wide ∷ wider) two most had is =
    let one = grown room old below row wide two most had.0 is.0 in
    (one.fits, wider_fits room (length row) (length wide) tree rows wider two one.few had.1 is.1)

width : (room below : ℕ) (row wide : List ℕ) → IsWider room below row wide → length wide ≤ length row + 1
width room below row wide (inl (le, same)) = omega (arith, ap length same)
width room below row wide (inr (lt, at, same)) = omega (arith, ap length same, one_more row at)

pub few_more : FewMore
few_more room below [] [] is = omega arith
few_more room below [] (pair ∷ []) is = omega (arith, is.1)
few_more room below [] (row ∷ other ∷ rows) is = absurd is
few_more room below (row ∷ rows) [] is = absurd is
few_more room below (row ∷ rows) (wide ∷ wider) is =
    omega (arith, width room below row wide is.0, few_more room (length wide) rows wider is.1)

same_row : (room old below : ℕ) (row wide : List ℕ) → below ≤ old + 1 → old < room * length row
    → IsWider room below row wide → wide ≡ row
same_row room old below row wide most spare (inl (le, same)) = same
same_row room old below row wide most spare (inr (lt, at, same)) = absurd (omega (arith, most, spare, lt))

pub none_more : NoneMore
none_more room old below [] [] most spare is = refl
none_more room old below [] (pair ∷ []) most spare is = absurd (omega (arith, most, spare, is.0))
none_more room old below [] (row ∷ other ∷ rows) most spare is = absurd is
none_more room old below (row ∷ rows) [] most spare is = absurd is
none_more room old below (row ∷ rows) (wide ∷ wider) most spare is =
    let same = same_row room old below row wide most spare.0 is.0 in
    let few : length wide ≤ length row + 1 = omega (arith, ap length same) in
    let more = none_more room (length row) (length wide) rows wider few spare.1 is.1 in
    ap (λ (r : List ℕ). r ∷ wider) same ∙ ap (λ (rs : List (List ℕ)). row ∷ rs) more
