-- What a space of two regions tells is sound, and an end that is raised is the end of its region.
use Rattle.std.proofs.Common.{ℕ, Bool, true, false, ◌≡◌, ◌≤◌, ◌<◌, ◌+◌, ◌^◌, inl, inr, refl, arith}
use Rattle.std.proofs.lemmas.Option.{none-some}
use Rattle.outside.specs.Space.{IsSound}
use Rattle.call_tests.specs.Regions.{is_high, region_at, end_at, told}
use Rattle.h5_base.specs.declared.extent.Extent.{Extent}
use Rattle.std.proofs.Common.{List, ◌⊎◌}

low_at : (low high : ℕ) → 1048576 ≤ high → (b : Bool) → (region_at b).start ≤ end_at low high b
low_at low high above true = above
low_at low high above false = omega arith

high_at : (low high : ℕ) → low ≤ 1000 → high ≤ 1048640 → (b : Bool) → end_at low high b ≤ (region_at b).limit
high_at low high lower below true = below
high_at low high lower below false = lower

small_at : (b : Bool) → (region_at b).limit ≤ (region_at b).start + 2 ^ 48
small_at true = omega arith
small_at false = omega arith

fits_at : (b : Bool) → (region_at b).limit < 2 ^ 64
fits_at true = omega arith
fits_at false = omega arith

apart_at : (low high : ℕ) (b d : Bool) → ((region_at b ≡ region_at d) × (end_at low high b ≡ end_at low high d))
    ⊎ ((region_at b).limit ≤ (region_at d).start) ⊎ ((region_at d).limit ≤ (region_at b).start)
apart_at low high true true = inl (refl, refl)
apart_at low high false false = inl (refl, refl)
apart_at low high true false = inr (inr (omega arith))
apart_at low high false true = inr (inl (omega arith))

pub is_sound : (low high : ℕ) (prepared : List Extent) → low ≤ 1000 → 1048576 ≤ high → high ≤ 1048640
    → IsSound false (told low high prepared)
is_sound low high prepared lower above below = record {
  regions = record {
    low = λ c. low_at low high above (is_high c);
    high = λ c. high_at low high lower below (is_high c);
    small = λ c. small_at (is_high c);
    fits = λ c. fits_at (is_high c);
    apart = λ c d. apart_at low high (is_high c) (is_high d);
  };
  revisions = λ c has. absurd (none-some c has);
  counted = λ told c has. absurd (none-some c has);
}
