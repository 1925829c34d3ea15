-- An array with bytes written over it.
use Rattle.std.proofs.Common.{◌≡◌, ◌⊎◌, inl, inr, ℕ, ◌+◌, ◌-◌, ◌<◌, ◌≤◌, List, length, replicate, get_or, refl, sym}
use Rattle.std.proofs.Common.{◌∙◌, ap, arith, length-append, Result, Ok, Err, IsErrOf, OnErr}
use Rattle.std.proofs.lemmas.List.{length-replicate, get_or_append_left, get_or-append_right, get_or-replicate}
use Rattle.std.proofs.lemmas.Bool.{cases_lt}
use Rattle.std.proofs.lemmas.Bool.Decides.{nat_tests}
use Rattle.std.proofs.Math.Path.{fun_ext}
use Rattle.outside.specs.declared.space.WriteStop.{WriteStop}
use Rattle.outside.specs.declared.space.WriteStop.TheVariants.{Failed, WoFailed}
use Rattle.outside.specs.Array.{Array, SameOutside, over}
use Rattle.block_space.specs.Plans.{padded_to}

over_inside : (b : Array) (at : ℕ) (bytes : List ℕ) (a : ℕ) → at ≤ a → a < at + length bytes
    → over b at bytes a ≡ get_or bytes (a - at) 0
over_inside b at bytes a low high = grind (arith, nat_tests)

-- the bytes that are written over stay outside them
pub over_outside : (b : Array) (at : ℕ) (bytes : List ℕ) → SameOutside at (length bytes) b (over b at bytes)
over_outside b at bytes a beside = grind (arith, nat_tests)

pub padded_length : (n : ℕ) (image : List ℕ) → length image ≤ n → length (padded_to n image) ≡ n
padded_length n image short =
    omega (
      arith,
      short,
      length-append image (replicate (n - length image) 0),
      length-replicate {A =
          ℕ} (n - length image) 0,
    )

shorter : (at n : ℕ) (image : List ℕ) → length image ≤ n → (a : ℕ) → (a < at) ⊎ (at + n ≤ a)
    → (a < at) ⊎ (at + length image ≤ a)
shorter at n image short a (inl before) = inl before
shorter at n image short a (inr behind) = inr (omega arith)

module _ (b : Array) (at n : ℕ) (image : List ℕ) (short : length image ≤ n) where
  zeros : length {A = ℕ} (replicate n 0) ≡ n
  zeros = length-replicate {A = ℕ} n 0

  in_image : (a : ℕ) → at ≤ a → a < at + length image
      → over (over b at (replicate n 0)) at image a ≡ over b at (padded_to n image) a
  in_image a low high =
      over_inside (over b at (replicate n 0)) at image a low high
      ∙ sym (get_or_append_left image (replicate (n - length image) 0) 0 (a - at) (omega arith))
      ∙ sym (over_inside b at (padded_to n image) a low (omega (arith, padded_length n image short)))

  behind_image : (a : ℕ) → at + length image ≤ a → a < at + n
      → over (over b at (replicate n 0)) at image a ≡ over b at (padded_to n image) a
  behind_image a low high =
      over_outside (over b at (replicate n 0)) at image a (inr low)
      ∙ over_inside b at (replicate n 0) a (omega arith) (omega (arith, zeros))
      ∙ get_or-replicate n (a - at) 0 0 (omega arith)
      ∙ sym (get_or-replicate (n - length image) (a - at - length image) 0 0 (omega arith))
      ∙ sym (get_or-append_right image (replicate (n - length image) 0) (length image) (a - at) 0 refl (omega arith))
      ∙ sym (over_inside b at (padded_to n image) a (omega arith) (omega (arith, padded_length n image short)))

  beside_image : (a : ℕ) → (a < at) ⊎ (at + n ≤ a)
      → over (over b at (replicate n 0)) at image a ≡ over b at (padded_to n image) a
  beside_image a beside =
      over_outside (over b at (replicate n 0)) at image a (shorter at n image short a beside)
      ∙ over_outside b at (replicate n 0) a (rw zeros beside)
      ∙ sym (over_outside b at (padded_to n image) a (rw (padded_length n image short) beside))

  -- an image over bytes of 0
  pub over_zeros : over (over b at (replicate n 0)) at image ≡ over b at (padded_to n image)
  over_zeros = fun_ext (λ a. elim (cases_lt a at) [
    | inl before ↦ beside_image a (inl before)
    | inr low ↦ elim (cases_lt a (at + length image)) [
      | inl high ↦ in_image a low high
      | inr later ↦ elim (cases_lt a (at + n)) [
        | inl within ↦ behind_image a later within
        | inr behind ↦ beside_image a (inr behind)
      ]
    ]
  ])

pub over_none : (b : Array) (at : ℕ) (bytes : List ℕ) → length bytes ≡ 0 → over b at bytes ≡ b
over_none b at bytes none = fun_ext (λ a. over_outside b at bytes a (elim (cases_lt a at) [
  | inl before ↦ inl before
  | inr behind ↦ inr (omega arith)
]))

-- an image over the new bytes below an end that was raised
pub over_raised : (b : Array) (at n : ℕ) (image : List ℕ) → length image ≤ n
    → over (over b at (replicate (at + n - at) 0)) at image ≡ over b at (padded_to n image)
over_raised b at n image short =
    let whole : at + n - at ≡ n = omega arith in
    ap (λ (k : ℕ). over (over b at (replicate k 0)) at image) whole ∙ over_zeros b at n image short

pub raised_outside : (b : Array) (at n : ℕ) → SameOutside at n b (over b at (replicate (at + n - at) 0))
raised_outside b at n a beside =
    let whole : length {A = ℕ} (replicate (at + n - at) 0) ≡ n = omega (
      arith,
      length-replicate {A =
          ℕ} (at + n - at) 0,
    ) in
    over_outside b at (replicate (at + n - at) 0) a (rw whole beside)

-- What a write within a range leaves after a fault, where all outside the range was as before.
pub outside_after : (r : Result (Unit {0}) WriteStop) (at n : ℕ) (image : List ℕ) (old mid new : Array)
    → length image ≤ n
    → SameOutside at n old mid → (IsErrOf r WoFailed → new ≡ over mid at image)
    → (IsErrOf r Failed → SameOutside at (length image) mid new) → OnErr r (SameOutside at n old new)
outside_after (Ok x) at n image old mid new short before main part = tt
outside_after (Err WoFailed) at n image old mid new short before main part = λ a beside.
    ap (λ (b : Array). b a) (main refl) ∙ over_outside mid at image a (shorter at n image short a beside)
    ∙ before a beside
outside_after (Err Failed) at n image old mid new short before main part = λ a beside.
    part refl a (shorter at n image short a beside) ∙ before a beside
