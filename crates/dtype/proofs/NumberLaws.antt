-- Numbers in two's complement: what is encoded is read back.
use Rattle.std.proofs.Common.{◌≡◌, ℕ, suc, ◌-◌, ◌*◌, ◌^◌, ◌<◌, ◌≤◌, Bool, true, false, ℤ, pos, negsuc, ◌+ℤ◌, ◌-ℤ◌, ◌*ℤ◌, ◌≤ℤ◌, ◌<ℤ◌, FitsSigned, Fits, get_or, to_z, of_z, List, refl, sym, ap, subst, ◌∙◌, arith, inl, inr}
use Rattle.std.specs.Prelude.{neg_ℤ}
use Rattle.std.specs.Int.{Width, w8, w16, w32, w64, w128}
use mir.Val.{bits, hbits}
use Rattle.std.proofs.lemmas.Int.{ints, to_z-of_z, to_z_pos}
use Rattle.dtype.specs.Types.{IsIntSize}
use Rattle.dtype.specs.Values.{HoldsNumber, width_of, unsigned_of, number_of}

-- the sum that a negative number's bits are, as the code computes it
abbrev wrapped : ℤ → ℤ → ℤ
wrapped z h = to_z w128 (of_z w128 (to_z w128 (of_z w128 z) +ℤ to_z w128 (of_z w128 (pos 2 *ℤ to_z w128 (of_z w128 h)))))

-- what holds at each size of an integer
pub at_each_size : (P : ℕ → Type 0) → P 1 → P 2 → P 4 → P 8 → (size : ℕ) → IsIntSize size → P size
at_each_size P one two four eight size (inl e) = subst P (sym e) one
at_each_size P one two four eight size (inr (inl e)) = subst P (sym e) two
at_each_size P one two four eight size (inr (inr (inl e))) = subst P (sym e) four
at_each_size P one two four eight size (inr (inr (inr e))) = subst P (sym e) eight

abbrev Wraps : ℤ → ℕ → Type 0
Wraps z size = neg_ℤ (pos (2 ^ (8 * size - 1))) ≤ℤ z → (wrapped z (pos (2 ^ (8 * size - 1))) ≡ pos (of_z (width_of size) z)) × (of_z (width_of size) z < 2 ^ 64)

wraps : (z : ℤ) → FitsSigned w128 z → z <ℤ pos 0 → (size : ℕ) → IsIntSize size → Wraps z size
wraps (pos n) f hi = absurd (omega (arith, ints))
wraps (negsuc n) f hi =
    at_each_size (Wraps (negsuc n))
    (λ lo. (omega (arith, ints), omega (arith, ints)))
    (λ lo. (omega (arith, ints), omega (arith, ints)))
    (λ lo. (omega (arith, ints), omega (arith, ints)))
    (λ lo. (omega (arith, ints), omega (arith, ints)))

-- a negative number's bits
pub bits_of_negative : (size : ℕ) (signed : Bool) (z h : ℤ) → IsIntSize size → FitsSigned w128 z → HoldsNumber signed size z → z <ℤ pos 0 → h ≡ pos (2 ^ (8 * size - 1)) → (wrapped z h ≡ pos (of_z (width_of size) z)) × (of_z (width_of size) z < 2 ^ 64)
bits_of_negative size false z h i f held hi e = absurd (omega (arith, ints, held.0))
bits_of_negative size true z h i f held hi e = rw e (wraps z f hi size i held.0)

-- the difference that a negative number is, as the code computes it
abbrev unwrapped : ℤ → ℤ → ℤ
unwrapped z h = to_z w128 (of_z w128 (to_z w128 (of_z w128 z) -ℤ to_z w128 (of_z w128 (pos 2 *ℤ to_z w128 (of_z w128 h)))))

-- n less m, where m is the number of values
difference : (n m : ℕ) → n < m → m ≤ 2 ^ 64 → to_z w128 (of_z w128 (to_z w128 (of_z w128 (pos n)) -ℤ pos m)) ≡ negsuc (m - suc n)
difference n m lt le =
    let e : pos n -ℤ pos m ≡ negsuc (m - suc n) = omega (arith, ints) in
    let low : FitsSigned w128 (negsuc (m - suc n)) = record { sfits = omega arith } in
    rw (to_z_pos w128 n (omega arith), e) (to_z-of_z w128 (negsuc (m - suc n)) low)

read_negative : (w : Width) (n : ℕ) → 2 ^ bits w ≡ 2 * 2 ^ hbits w → 2 ^ hbits w ≤ n → n < 2 ^ bits w → negsuc (2 ^ bits w - suc n) ≡ to_z w n
read_negative w n e lo hi =
    let low : FitsSigned w (negsuc (2 ^ bits w - suc n)) = record { sfits = omega arith } in
    let back : 2 ^ bits w - suc (2 ^ bits w - suc n) ≡ n = omega arith in
    sym (to_z-of_z w (negsuc (2 ^ bits w - suc n)) low) ∙ ap (to_z w) back

abbrev Unwraps : ℕ → ℕ → Type 0
Unwraps n size = 2 ^ (8 * size - 1) ≤ n → n < 2 ^ (8 * size) → unwrapped (pos n) (pos (2 ^ (8 * size - 1))) ≡ to_z (width_of size) n

unwraps : (n size : ℕ) → IsIntSize size → Unwraps n size
unwraps n =
    at_each_size (Unwraps n)
    (λ lo hi. difference n (2 ^ 8) hi (omega arith) ∙ read_negative w8 n refl lo hi)
    (λ lo hi. difference n (2 ^ 16) hi (omega arith) ∙ read_negative w16 n refl lo hi)
    (λ lo hi. difference n (2 ^ 32) hi (omega arith) ∙ read_negative w32 n refl lo hi)
    (λ lo hi. difference n (2 ^ 64) hi (omega arith) ∙ read_negative w64 n refl lo hi)

abbrev IsBelow : Bool → List ℕ → ℕ → Type 0
IsBelow big bytes size = unsigned_of big (width_of size) bytes < 2 ^ (8 * size)

-- so many bytes hold no greater number
pub unsigned_below : (big : Bool) (bytes : List ℕ) → ((i : ℕ) → Fits w8 (get_or bytes i 0)) → (size : ℕ) → IsIntSize size → IsBelow big bytes size
unsigned_below true bytes h =
    at_each_size (IsBelow true bytes)
    (omega (arith, (h 0).fits))
    (omega (arith, (h 0).fits, (h 1).fits))
    (omega (arith, (h 0).fits, (h 1).fits, (h 2).fits, (h 3).fits))
    (omega (arith, (h 0).fits, (h 1).fits, (h 2).fits, (h 3).fits, (h 4).fits, (h 5).fits, (h 6).fits, (h 7).fits))
unsigned_below false bytes h =
    at_each_size (IsBelow false bytes)
    (omega (arith, (h 0).fits))
    (omega (arith, (h 0).fits, (h 1).fits))
    (omega (arith, (h 0).fits, (h 1).fits, (h 2).fits, (h 3).fits))
    (omega (arith, (h 0).fits, (h 1).fits, (h 2).fits, (h 3).fits, (h 4).fits, (h 5).fits, (h 6).fits, (h 7).fits))

-- a negative number, of its bits
pub number_of_bits : (n size : ℕ) (f h : ℤ) (signed big : Bool) (bytes : List ℕ) → IsIntSize size → f ≡ pos n → h ≡ pos (2 ^ (8 * size - 1)) → signed ≡ true → n ≡ unsigned_of big (width_of size) bytes → n < 2 ^ (8 * size) → h ≤ℤ f → unwrapped f h ≡ number_of signed big (width_of size) bytes
number_of_bits n size f h signed big bytes i ef eh es en hi lo =
    let above : pos (2 ^ (8 * size - 1)) ≤ℤ pos n = rw (← eh, ← ef) lo in
    rw (ef, eh, es) (unwraps n size i (omega (arith, ints)) hi ∙ ap (to_z (width_of size)) en)
